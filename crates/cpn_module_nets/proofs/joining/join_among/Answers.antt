-- An arc at a substitution transition is joined to none, and one at a transition to that.
use Rattle.std.proofs.Common.{length, map, sym, subst}
use Rattle.cpn_core.specs.Nets.{transition_view}
use Rattle.cpn_module_nets.specs.AcceptedViews.{sides_view}
use Rattle.cpn_module_nets.specs.Joining.{IsAtOneOf}
use Rattle.cpn_module_nets.proofs.JoinedArcs.{joined_elsewhere}
use Rattle.cpn_module_nets.proofs.joining.join_among.Goals as goal

pub returns-in-Substitution : goal.returns-in-Substitution
returns-in-Substitution c = record { joined = sym (joined_elsewhere (sides_view c.args.arc) c.in-Substitution.field-0 c.in-Substitution.is 0 (map transition_view c.args.transitions.now.items)) }

pub join_to-requires : goal.join_to-requires
join_to-requires c = record { there = subst (IsAtOneOf (length c.args.transitions.now.items)) c.in-Transition.is c.requires.there; at_transition = c.in-Transition.is }
