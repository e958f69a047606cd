-- On the places so far each value whose stamps differ is told.
use Rattle.std.proofs.Common.{◌≡◌, ℕ, ◌<◌, false}
use Rattle.cpn_definitions.specs.Value.{PlainValue}
use Rattle.cpn_definitions.specs.Marking.{tokens_at, stamps}
use Rattle.cpn_tmset.specs.Changed.{is_told}
use Rattle.cpn_tmset.specs.ChangedViews.{changes_view}
use Rattle.cpn_test_program.proofs.differences.changes_between.Given as goal

abbrev pub invariant-loop-place : goal.invariant-loop-place
invariant-loop-place l = (p : ℕ) (v : PlainValue) → p < l.place → is_told p v (changes_view l.changes) ≡ false → stamps v (tokens_at l.new p) ≡ stamps v (tokens_at l.old p)
