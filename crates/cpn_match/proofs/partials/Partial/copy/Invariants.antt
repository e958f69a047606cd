-- The copies so far stand for the pairs so far.
use Rattle.std.proofs.Common.{◌≡◌, take}
use Rattle.cpn_match.specs.Pairs.{pairs_view}
use Rattle.cpn_match.proofs.partials.Partial.copy.Given as goal

abbrev pub invariant-loop-pair : goal.invariant-loop-pair
invariant-loop-pair l = pairs_view l.pairs.items ≡ pairs_view (take l.pair-index l.pair-items)
