-- The multiset is covered from the least time so far on where the values that are left are covered.
use Rattle.std.proofs.Common.{◌≡◌, ℕ, ◌≤◌, ◌&&◌, nat_le, true}
use Rattle.cpn_mset.specs.Views.{counts_view}
use Rattle.cpn_tmset.specs.Covering.{covers_need}
use Rattle.cpn_tmset.proofs.tmsets.TMSet.earliest.Given as goal

abbrev pub invariant-loop-value : goal.invariant-loop-value
invariant-loop-value l = record {
  up : l.fn.from ≤ l.least;
  rest : (t : ℕ) → covers_need l.self l.need t ≡ true → covers_need l.self (counts_view l.value-iterator) t ≡ true;
  so : (t : ℕ) → l.fn.from ≤ t → covers_need l.self l.need t ≡ (nat_le l.least t && covers_need l.self (counts_view l.value-iterator) t);
}
