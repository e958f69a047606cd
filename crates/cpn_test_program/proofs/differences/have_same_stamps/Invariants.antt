-- At the ranks so far the stamps are the same.
use Rattle.std.proofs.Common.{◌≡◌, ℕ, ◌<◌, slice_get}
use Rattle.cpn_definitions.specs.Marking.{stamps}
use Rattle.cpn_core.specs.Views.{value_view}
use Rattle.cpn_test_program.proofs.differences.have_same_stamps.Given as goal

abbrev pub invariant-loop-rank : goal.invariant-loop-rank
invariant-loop-rank l = (k : ℕ) → k < l.rank → slice_get (stamps (value_view l.value) l.old) k ≡ slice_get (stamps (value_view l.value) l.new) k
