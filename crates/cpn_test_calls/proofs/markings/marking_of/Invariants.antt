-- The marking has two places.
use Rattle.std.proofs.Common.{◌≡◌, length}
use Rattle.cpn_test_calls.proofs.markings.marking_of.Given as goal

abbrev pub invariant-loop-number : goal.invariant-loop-number
invariant-loop-number l = length l.marking ≡ 2
