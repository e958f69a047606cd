-- The stamp that is left to be found, at what is left of the rank.
use Rattle.std.proofs.Common.{◌≡◌}
use Rattle.std.specs.List.{slice_get}
use Rattle.cpn_tmset.specs.StampCounts.{repeated}
use Rattle.cpn_tmset.proofs.stamps.Stamps.at.Given as goal

abbrev pub invariant-loop-stamp : goal.invariant-loop-stamp
invariant-loop-stamp l = slice_get (repeated l.stamp-iterator) l.left ≡ slice_get l.self l.fn.rank
