-- The first of all is the first of those that are looked at later; and these have their sources.
use Rattle.std.proofs.Common.{◌≡◌, map, drop}
use Rattle.cpn_core.specs.Nets.{transition_view}
use Rattle.cpn_bindable.specs.Equations.{equation_pair}
use Rattle.cpn_stages.specs.Stages.{first_solving}
use Rattle.cpn_search.proofs.plan.first_solving.Given as goal

abbrev pub invariant-loop-number : goal.invariant-loop-number
invariant-loop-number l = first_solving (transition_view l.transition) l.left (drop l.number (map equation_pair l.equations)) ≡ first_solving (transition_view l.transition) l.left (map equation_pair l.equations)
