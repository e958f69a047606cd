use Rattle.std.proofs.Common.{◌≡◌}
use Rattle.cpn_book.specs.Seen.{Later}
use Rattle.cpn_floor.proofs.crews.work.Given as goal

abbrev pub invariant-loop : goal.invariant-loop
invariant-loop g l = record {
  can : (goal.iterator-loop g).can_next l.iterator';
  finite : (goal.iterator-loop g).is_finite l.iterator';
  keeps : g.D.Desk.Keeps l.desk;
  later : Later (g.D.Desk.seen l.fn.desk) (g.D.Desk.seen l.desk);
  numbers : g.D.Desk.numbers l.desk ≡ g.D.Desk.numbers l.fn.desk;
  seat : g.D.Desk.seat l.desk ≡ g.D.Desk.seat l.fn.desk;
  book : g.D.Desk.book l.desk ≡ g.D.Desk.book l.fn.desk;
}
