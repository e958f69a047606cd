-- The list has the enabled elements of the transitions so far, each with its needs.
use Rattle.std.proofs.Common.{map}
use Rattle.std.specs.List.{AllByRecursion}
use Rattle.cpn_core.specs.Elements.{enabled_view, HasItsNeeds}
use Rattle.cpn_core.specs.Nets.{net_view}
use Rattle.cpn_search.specs.Found.{EnabledBelow}
use Rattle.cpn_search.proofs.plans.Plans.enabled.Given as goal

abbrev pub invariant-loop-t : goal.invariant-loop-t
invariant-loop-t l = EnabledBelow (net_view l.net) l.fn.marking l.clock l.t (map enabled_view l.listed.items) × AllByRecursion (HasItsNeeds (net_view l.net)) l.listed.items
