-- Of the values so far those are told whose stamps differ, and what was told is told still.
use Rattle.std.proofs.Common.{◌≡◌, ℕ, true, false, take}
use Rattle.std.specs.List.{list_any}
use Rattle.cpn_definitions.specs.Value.{PlainValue}
use Rattle.cpn_definitions.specs.Order.{same_value}
use Rattle.cpn_definitions.specs.Marking.{stamps}
use Rattle.cpn_tmset.specs.Changed.{is_told}
use Rattle.cpn_tmset.specs.ChangedViews.{changes_view}
use Rattle.cpn_tmset.specs.ListedViews.{pointed_view}
use Rattle.cpn_test_program.proofs.differences.tell_values.Given as goal

abbrev pub invariant-loop-value : goal.invariant-loop-value
invariant-loop-value l = record {
  told : (v : PlainValue) → list_any (same_value v) (pointed_view (take l.value-index l.values)) ≡ true → is_told l.place v (changes_view l.changes) ≡ false → stamps v l.new ≡ stamps v l.old;
  more : (p : ℕ) (v : PlainValue) → is_told p v (changes_view l.changes) ≡ false → is_told p v (changes_view l.initial.changes) ≡ false;
}
