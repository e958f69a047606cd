-- No module so far is part of itself.
use Rattle.std.proofs.Common.{ℕ, ◌<◌}
use Rattle.cpn_module.specs.Hierarchy.{IsPartOf}
use Rattle.cpn_module.specs.Views.{hierarchy_view}
use Rattle.cpn_module.proofs.cycles.first_in_itself.Given as goal

abbrev pub invariant-loop-number : goal.invariant-loop-number
invariant-loop-number l = (n : ℕ) → n < l.number → IsPartOf (hierarchy_view l.hierarchy) n n → ⊥
