-- The places so far have no token.
use Rattle.std.proofs.Common.{◌≡◌, [], replicate}
use Rattle.cpn_tmset.proofs.markings.Marking.new.Given as goal

abbrev pub invariant-loop-place : goal.invariant-loop-place
invariant-loop-place l = l.held.items ≡ replicate l._place []
