-- The places so far are marked.
use Rattle.std.proofs.Common.{ℕ, List, ◌++◌, take}
use Rattle.cpn_fuse.specs.FewerPairs.{AreMarked}
use Rattle.cpn_fuse.proofs.fusions.mark.Given as goal

abbrev pub invariant-loop-place : goal.invariant-loop-place
invariant-loop-place l = (marked : List ℕ) → AreMarked l.initial.marks marked → AreMarked l.marks (marked ++ take l.place-index l.places)
