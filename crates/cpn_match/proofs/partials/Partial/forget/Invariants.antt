-- The pairs so far are those that are to be, and the rest are still to be gone through.
use Rattle.std.proofs.Common.{◌≡◌, length}
use Rattle.cpn_match.specs.Pairs.{pairs_view}
use Rattle.cpn_match.specs.Indices.{forgotten}
use Rattle.cpn_match.proofs.ForgottenValues.{so_far}
use Rattle.cpn_match.proofs.partials.Partial.forget.Given as goal

abbrev pub invariant-loop-index : goal.invariant-loop-index
invariant-loop-index l =
    (forgotten l.known (pairs_view l.initial.self-inside.pairs.items) ≡ so_far l.known l.self-inside.pairs.items l.index)
    × (length l.self-inside.pairs.items ≡ length l.initial.self-inside.pairs.items)
