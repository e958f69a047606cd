-- The lists so far have the number.
use Rattle.std.proofs.Common.{take}
use Rattle.cpn_numbers.specs.NumberLists.{AreWithEach}
use Rattle.cpn_numbers.proofs.lists.NumberLists.push_at_each.Given as goal

abbrev pub invariant-loop-list : goal.invariant-loop-list
invariant-loop-list l = AreWithEach (take l.list-index l.lists) l.number l.initial.self l.self
