-- What the check refuses is refused where it stands.
use Rattle.cpn_trees.specs.ParsedViews.{inscription_view}
use Rattle.cpn_core.specs.Colours.{colour_view}
use Rattle.cpn_declared.specs.Answers.{refusal_of}
use Rattle.cpn_declared.specs.DeclsViews.{decls_view}
use Rattle.cpn_typing.specs.Multisets.{checked_init}
use Rattle.cpn_module_nets.specs.Answers.{net_refusal_of}
use Rattle.cpn_module_nets.specs.Accepted.{initial_at}
use Rattle.cpn_module_nets.proofs.CheckedTexts.{refused_then}
use Rattle.cpn_module_nets.proofs.places.written_initial.Goals as goal

pub returns-in-Err-check_init : goal.returns-in-Err-check_init
unfolding initial_at
returns-in-Err-check_init c = record { reads = rw c.in-Ok.is (refused_then c.args.at (checked_init (decls_view c.args.decls.now) (colour_view c.args.colour.now) (inscription_view c.in-Ok.tree)) _ (refusal_of c.in-Err-check_init.error) (net_refusal_of c.not_accepted.result) c.not_accepted.ensures.refused c.in-Err-check_init.ensures.exact) }
