-- As many are open as were counted so far.
use Rattle.std.proofs.Common.{◌≡◌, ◌≤◌, take}
use Rattle.std.specs.List.{count_by}
use Rattle.std.specs.Option.{is_some}
use Rattle.cpn_book.proofs.standings.Standing.open.Given as goal

abbrev pub invariant-loop-number : goal.invariant-loop-number
invariant-loop-number l = record {
  counted : l.count ≡ count_by is_some (take l.number-index l.self.held.items);
  small : l.count ≤ l.number-index;
}
