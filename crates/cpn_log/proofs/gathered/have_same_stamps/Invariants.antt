-- At the ranks so far the stamps are the same.
use Rattle.std.proofs.Common.{◌≡◌, ℕ, ◌<◌, slice_get}
use Rattle.cpn_definitions.specs.Marking.{stamps, tokens_at}
use Rattle.cpn_core.specs.Views.{value_view}
use Rattle.cpn_log.proofs.gathered.have_same_stamps.Given as goal

abbrev pub invariant-loop-rank : goal.invariant-loop-rank
invariant-loop-rank l = (k : ℕ) → k < l.rank → slice_get (stamps (value_view l.change.value) (tokens_at l.old l.change.place)) k ≡ slice_get (stamps (value_view l.change.value) (tokens_at l.new l.change.place)) k
