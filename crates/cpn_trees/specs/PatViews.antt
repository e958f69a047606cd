-- The plain pattern that a pattern of the program stands for.
use Rattle.std.specs.Prelude.{string_bytes}
use Rattle.cpn_trees.specs.Trees.{PlainPat, pat, PlainPatForm, any, pat_name, pat_number, pat_text, pat_truth, pat_call, pat_unit, pat_tuple, pat_list, pat_cons, pats_from}
use Rattle.cpn_trees.specs.declared.patterns.Pat.{Pat, fold-Pat}
use Rattle.cpn_trees.specs.declared.patterns.PatForm.TheOpen.{PatForm-F, Pat-F}

-- one level, with each pattern inside already seen as its plain one
abbrev pub pat_form_step : PatForm-F PlainPatForm PlainPat → PlainPatForm
pat_form_step PatForm-F.Any = any
pat_form_step (PatForm-F.Name s) = pat_name (string_bytes s)
pat_form_step (PatForm-F.Number z) = pat_number z
pat_form_step (PatForm-F.Text s) = pat_text (string_bytes s)
pat_form_step (PatForm-F.Truth b) = pat_truth b
pat_form_step (PatForm-F.Call n ps) = pat_call (string_bytes n) (pats_from ps.items)
pat_form_step PatForm-F.Unit = pat_unit
pat_form_step (PatForm-F.Tuple ps) = pat_tuple (pats_from ps.items)
pat_form_step (PatForm-F.List ps) = pat_list (pats_from ps.items)
pat_form_step (PatForm-F.Cons head tail) = pat_cons head.value tail.value

abbrev pub pat_step : Pat-F PlainPatForm PlainPat → PlainPat
pat_step p = pat p.at p.form

abbrev pub pat_view : Pat → PlainPat
pat_view = fold-Pat PlainPatForm PlainPat pat_form_step pat_step
