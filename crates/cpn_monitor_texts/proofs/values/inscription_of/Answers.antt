-- What the check refuses is refused with the monitor.
use Rattle.cpn_declared.specs.Answers.{refusal_of}
use Rattle.cpn_declared.specs.DeclsViews.{decls_view}
use Rattle.cpn_trees.specs.ParsedViews.{inscription_view}
use Rattle.cpn_monitor_texts.specs.Answers.{monitor_refusal_of}
use Rattle.cpn_monitor_texts.proofs.CheckedSteps.{tree_refused}
use Rattle.cpn_monitor_texts.proofs.values.inscription_of.Goals as goal

pub returns-in-Err-value_over : goal.returns-in-Err-value_over
returns-in-Err-value_over c = record {
  reads = rw c.in-Ok.is (tree_refused (decls_view c.args.decls.now) c.args.number c.args.vars.now (inscription_view c.in-Ok.tree) (refusal_of c.in-Err-value_over.error) (monitor_refusal_of c.not_accepted.result) c.not_accepted.ensures.refused c.in-Err-value_over.ensures.exact);
}
