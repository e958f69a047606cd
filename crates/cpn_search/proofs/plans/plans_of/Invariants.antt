-- The plans so far are those of the transitions so far.
use Rattle.std.proofs.Common.{◌≡◌, length}
use Rattle.cpn_core.specs.Nets.{net_view}
use Rattle.cpn_search.specs.PlannedNets.{ArePlansFrom}
use Rattle.cpn_search.proofs.plans.plans_of.Given as goal

abbrev pub invariant-loop-t : goal.invariant-loop-t
invariant-loop-t l = (length l.plans.items ≡ l.t) × ArePlansFrom (net_view l.net) 0 l.plans.items
