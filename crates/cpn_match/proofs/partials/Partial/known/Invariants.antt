-- What is noted so far is of the pairs so far.
use Rattle.std.proofs.Common.{◌≡◌, take}
use Rattle.cpn_match.specs.Pairs.{pairs_view}
use Rattle.cpn_match.specs.Indices.{known_in}
use Rattle.cpn_match.proofs.partials.Partial.known.Given as goal

abbrev pub invariant-loop-pair : goal.invariant-loop-pair
invariant-loop-pair l = l.known.items ≡ known_in (pairs_view (take l.pair-index l.pair-items))
