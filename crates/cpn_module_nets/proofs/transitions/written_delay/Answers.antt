-- What the check refuses is refused where it stands.
use Rattle.cpn_trees.specs.ParsedViews.{inscription_view}
use Rattle.cpn_declared.specs.Answers.{refusal_of}
use Rattle.cpn_declared.specs.DeclsViews.{decls_view}
use Rattle.cpn_typing.specs.GuardsAndDelays.{checked_delay}
use Rattle.cpn_module_nets.specs.Answers.{net_refusal_of}
use Rattle.cpn_module_nets.specs.Accepted.{delay_at}
use Rattle.cpn_module_nets.proofs.CheckedTexts.{refused_then}
use Rattle.cpn_module_nets.proofs.transitions.written_delay.Goals as goal

pub returns-in-Err-check_delay : goal.returns-in-Err-check_delay
unfolding delay_at
returns-in-Err-check_delay c = record { reads = rw c.in-Ok.is (refused_then c.args.at (checked_delay (decls_view c.args.decls.now) (inscription_view c.in-Ok.tree)) _ (refusal_of c.in-Err-check_delay.error) (net_refusal_of c.not_accepted.result) c.not_accepted.ensures.refused c.in-Err-check_delay.ensures.exact) }
