-- The places so far have the tokens of those copied.
use Rattle.std.proofs.Common.{◌≡◌, take}
use Rattle.cpn_tmset.proofs.markings.Marking.copy.Given as goal

abbrev pub invariant-loop-place : goal.invariant-loop-place
invariant-loop-place l = l.places.items ≡ take l.place-index l.place-items
