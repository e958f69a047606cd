-- The values so far, and those of the entries that are left.
use Rattle.std.proofs.Common.{◌≡◌, ℕ, ◌++◌, List, map}
use Rattle.cpn_definitions.specs.Value.{PlainValue}
use Rattle.cpn_tmset.specs.Listed.{values_of}
use Rattle.cpn_tmset.specs.ListedViews.{pointed_view}
use Rattle.cpn_tmset.specs.Views.{entries_view}
use Rattle.cpn_tmset.proofs.tmsets.TMSet.values.Given as goal

abbrev pub invariant-loop-value : goal.invariant-loop-value
invariant-loop-value l = pointed_view l.values.items ++ map (λ (e : PlainValue × List ℕ). e.0) (entries_view l.value-iterator) ≡ values_of l.self
