-- What is kept of the elements so far.
use Rattle.std.proofs.Common.{◌≡◌, []}
use Rattle.cpn_search.specs.FoundViews.{once_of}
use Rattle.cpn_search.proofs.once.each_once.Given as goal

abbrev pub invariant-loop-element : goal.invariant-loop-element
invariant-loop-element l = l.kept.items ≡ once_of [] l.yielded
