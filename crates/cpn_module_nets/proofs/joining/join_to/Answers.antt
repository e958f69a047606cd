-- The arc is joined to its transition.
use Rattle.std.proofs.Common.{◌<◌, refl, arith}
use Rattle.cpn_module_nets.specs.AcceptedViews.{sides_view}
use Rattle.cpn_module_nets.proofs.JoinedArcs.{joined_among, if_answered}
use Rattle.cpn_module_nets.proofs.joining.join_to.Goals as goal

pub returns : goal.returns
returns c = record {
  joined = if_answered c.join.result (joined_among c.args.transitions.now.items (sides_view c.args.arc) c.args.number c.requires.at_transition c.index_mut-transition.result.now c.join.new.transition c.requires.there c.index_mut-transition.ensures.value) c.join.ensures.joined;
}
