use Rattle.std.proofs.Common.{◌≡◌}
use Rattle.cpn_seats.specs.Seats.{table_of, number_of_seat, numbers_of, seen_of}
use Rattle.cpn_seats.proofs.Sighted.{LooksOn}
use Rattle.cpn_seats.proofs.handles.SeatHandleDesk.rest.Given as goal

abbrev pub invariant-loop : goal.invariant-loop
invariant-loop g l = record {
  can : (goal.iterator-loop g).can_next l.iterator';
  finite : (goal.iterator-loop g).is_finite l.iterator';
  looks : LooksOn (numbers_of l.fn.self.seat) (seen_of l.fn.self.seat) (seen_of l.self.seat);
  numbers : numbers_of l.self.seat ≡ numbers_of l.fn.self.seat;
  seat : number_of_seat l.self.seat ≡ number_of_seat l.fn.self.seat;
  table : table_of l.self.seat ≡ table_of l.fn.self.seat;
}
