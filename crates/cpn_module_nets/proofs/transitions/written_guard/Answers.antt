-- What the check refuses is refused where it stands.
use Rattle.cpn_trees.specs.ParsedViews.{guard_view}
use Rattle.cpn_declared.specs.Answers.{refusal_of}
use Rattle.cpn_declared.specs.DeclsViews.{decls_view}
use Rattle.cpn_typing.specs.GuardsAndDelays.{checked_guard}
use Rattle.cpn_module_nets.specs.Answers.{net_refusal_of}
use Rattle.cpn_module_nets.specs.Accepted.{guard_at}
use Rattle.cpn_module_nets.proofs.CheckedTexts.{refused_there}
use Rattle.cpn_module_nets.proofs.transitions.written_guard.Goals as goal

pub returns-in-Err-check_guard : goal.returns-in-Err-check_guard
unfolding guard_at
returns-in-Err-check_guard c = record { reads = rw c.in-Ok.is (refused_there c.args.at (checked_guard (decls_view c.args.decls.now) (guard_view c.in-Ok.tree)) (refusal_of c.in-Err-check_guard.error) (net_refusal_of c.not_accepted.result) c.not_accepted.ensures.refused c.in-Err-check_guard.ensures.exact) }
