-- What the text is parsed as is what its inscription is made of.
use Rattle.cpn_core.specs.Inscriptions.{expr_view}
use Rattle.cpn_declared.specs.DeclsViews.{decls_view}
use Rattle.cpn_module_trees.specs.TreesViews.{tree_view}
use Rattle.cpn_monitor_texts.proofs.CheckedSteps.{text_answered}
use Rattle.cpn_monitor_texts.proofs.values.inscription_in_text.Goals as goal

pub returns : goal.returns
returns c = record { reads = text_answered (decls_view c.args.decls.now) c.args.number c.args.vars.now c.args.text.now (tree_view c.in_ok-parsing.parsing) c.in_ok-parsing.ensures.parsed expr_view c.inscription_of.result c.inscription_of.ensures.reads }
