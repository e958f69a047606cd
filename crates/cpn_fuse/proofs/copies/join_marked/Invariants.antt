-- The marked ones of the places so far are joined.
use Rattle.std.proofs.Common.{◌≡◌, ◌++◌}
use Rattle.cpn_fuse.specs.FewerPairs.{marked_pairs}
use Rattle.cpn_fuse.proofs.copies.join_marked.Given as goal

abbrev pub invariant-loop-place : goal.invariant-loop-place
invariant-loop-place l = l.pairs.items ≡ l.initial.pairs.items ++ marked_pairs l.marks l.one l.other l.place
