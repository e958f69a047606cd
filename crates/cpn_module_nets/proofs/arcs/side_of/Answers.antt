-- What the check refuses is refused where it stands.
use Rattle.cpn_trees.specs.ParsedViews.{inscription_view}
use Rattle.cpn_core.specs.Colours.{colour_view}
use Rattle.cpn_declared.specs.Answers.{refusal_of}
use Rattle.cpn_declared.specs.DeclsViews.{decls_view}
use Rattle.cpn_forms.specs.ContextViews.{side_view}
use Rattle.cpn_typing.specs.Multisets.{checked_arc}
use Rattle.cpn_module_nets.specs.Answers.{net_refusal_of}
use Rattle.cpn_module_nets.specs.Accepted.{arc_at}
use Rattle.cpn_module_nets.proofs.CheckedTexts.{refused_then}
use Rattle.cpn_module_nets.proofs.arcs.side_of.Goals as goal

pub returns-in-Err : goal.returns-in-Err
unfolding arc_at
returns-in-Err c = record { reads = refused_then c.args.at (checked_arc (decls_view c.args.decls.now) (side_view c.args.side) (colour_view c.args.colour.now) (inscription_view c.args.tree.now)) _ (refusal_of c.in-Err.error) (net_refusal_of c.not_accepted.result) c.not_accepted.ensures.refused c.in-Err.ensures.exact }
