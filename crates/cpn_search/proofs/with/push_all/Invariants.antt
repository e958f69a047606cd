-- The elements so far are appended.
use Rattle.std.proofs.Common.{◌≡◌, ◌++◌}
use Rattle.cpn_search.proofs.with.push_all.Given as goal

abbrev pub invariant-loop-element : goal.invariant-loop-element
invariant-loop-element l = l.found.items ≡ l.fn.found.items ++ l.yielded
