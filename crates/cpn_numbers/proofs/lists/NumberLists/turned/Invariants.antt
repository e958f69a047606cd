-- The lists so far are turned.
use Rattle.std.proofs.Common.{◌≡◌, length}
use Rattle.cpn_numbers.proofs.TurnedLists.{AreTurned}
use Rattle.cpn_numbers.proofs.lists.NumberLists.turned.Given as goal

abbrev pub invariant-loop-list : goal.invariant-loop-list
invariant-loop-list l = record { many : length l.turned ≡ l.count; turned : AreTurned l.self l.list l.turned }
