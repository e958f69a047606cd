-- The elements so far are appended.
use Rattle.std.proofs.Common.{◌≡◌, ◌++◌, map}
use Rattle.cpn_search.specs.FoundViews.{from_clock}
use Rattle.cpn_search.proofs.searching.push_elements.Given as goal

abbrev pub invariant-loop-element : goal.invariant-loop-element
invariant-loop-element l = l.listed.items ≡ l.fn.listed.items ++ map (from_clock l.clock) l.yielded
