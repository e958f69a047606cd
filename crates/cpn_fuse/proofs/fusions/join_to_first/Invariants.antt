-- The first place is joined to those so far.
use Rattle.std.proofs.Common.{◌≡◌, ◌++◌, take, map}
use Rattle.cpn_fuse.proofs.fusions.join_to_first.Given as goal

abbrev pub invariant-loop-place : goal.invariant-loop-place
invariant-loop-place l = l.pairs.items ≡ l.initial.pairs.items ++ map (λ place. (l.first, place)) (take l.place-index l.places)
