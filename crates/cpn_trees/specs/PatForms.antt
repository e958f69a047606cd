-- The plain form that the form of a pattern stands for.
use Rattle.cpn_trees.specs.Trees.{PlainPat, PlainPatForm}
use Rattle.cpn_trees.specs.PatViews.{pat_form_step, pat_step}
use Rattle.cpn_trees.specs.declared.patterns.PatForm.{PatForm, fold-PatForm}

abbrev pub pat_form_view : PatForm → PlainPatForm
pat_form_view = fold-PatForm PlainPatForm PlainPat pat_form_step pat_step
