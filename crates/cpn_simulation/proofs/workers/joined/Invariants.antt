-- The seat and those that are left are of the desk, and have seen what all had seen.
use Rattle.std.proofs.Common.{Option, map}
use Rattle.cpn_book.specs.Seen.{Seen, Later}
use Rattle.cpn_seats.specs.Seats.{IsSeatOf, seen_of}
use Rattle.cpn_simulation.specs.SharedBooks.{AreSeatsOf, HaveSeen}
use Rattle.cpn_simulation.proofs.workers.joined.Given as goal

abbrev pub invariant-loop-handle : goal.invariant-loop-handle
invariant-loop-handle g l = record {
  own : IsSeatOf l.desk l.seat;
  at_desk : AreSeatsOf l.desk (map (λ h. h.seat) l.handles.items);
  seen : (before : Option Seen) → HaveSeen before (map (λ h. h.seat) l.fn.handles.items) → Later before (seen_of l.seat);
}

abbrev pub decreases-loop-handle : goal.decreases-loop-handle
decreases-loop-handle g l = goal.left-loop-handle g l
