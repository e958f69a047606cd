-- The seats so far are of the desk, and have seen what the first one had; and there is room for its handle.
use Rattle.std.proofs.Common.{◌<◌, ◌≤◌, ◌-◌, map, vec_len, vec_capacity}
use Rattle.cpn_book.specs.Seen.{Later}
use Rattle.cpn_seats.specs.Seats.{IsSeatOf, seen_of}
use Rattle.cpn_simulation.specs.SharedBooks.{AreSeatsOf, HaveSeen}
use Rattle.cpn_simulation.proofs.workers.seated.Given as goal

abbrev pub invariant-loop-first : goal.invariant-loop-first
invariant-loop-first g l = record {
  first : IsSeatOf l.desk l.first;
  first_seen : Later (seen_of l.fn.first) (seen_of l.first);
  at_desk : AreSeatsOf l.desk (map (λ h. h.seat) l.handles.items);
  seen : HaveSeen (seen_of l.fn.first) (map (λ h. h.seat) l.handles.items);
  below : vec_len l.handles < l.seats;
  room : l.seats ≤ vec_capacity l.handles;
}

abbrev pub decreases-loop-first : goal.decreases-loop-first
decreases-loop-first g l = l.seats - vec_len l.handles
