-- The last handle has a seat of the desk, and so have those that are left.
use Rattle.std.proofs.Common.{sym, ◌∙◌, subst}
use Rattle.cpn_book.specs.Seen.{Later}
use Rattle.cpn_book.proofs.LaterRuns.{later_trans}
use Rattle.cpn_seats.specs.Seats.{IsSeatOf, seen_of}
use Rattle.cpn_simulation.proofs.SharedSeats.{joined_later, all_but_last}
use Rattle.cpn_simulation.proofs.workers.joined.Goals as goal

pub loop-handle-init : goal.loop-handle-init
loop-handle-init g c =
    let desk = c.args.desk.now in
    let own = c.into_seat-seat.ensures.seat in
    let all = all_but_last (λ h. h.seat) (IsSeatOf desk) c.pop.new.self.items c.args.handles.items c.in-Some.last c.in-Some.ensures.items c.requires.at_desk in
    record {
      own = subst (IsSeatOf desk) (sym own) all.1;
      at_desk = all.0;
      seen = λ before have. subst (λ s. Later before (seen_of s)) (sym own) (all_but_last (λ h. h.seat) (λ s. Later before (seen_of s)) c.pop.new.self.items c.args.handles.items c.in-Some.last c.in-Some.ensures.items have).1;
    }

pub join-requires-clause-other : goal.join-requires-clause-other
join-requires-clause-other g c =
    let desk = c.args.desk.now in
    subst (IsSeatOf desk) (sym c.into_seat.ensures.seat)
    (all_but_last (λ h. h.seat) (IsSeatOf desk) c.pop-in-loop-handle.new.self.items c.loop-handle.handles.items c.in-Some-pop.handle c.in-Some-pop.ensures.items c.loop-handle.invariant.at_desk).1

pub loop-handle-preserved : goal.loop-handle-preserved
loop-handle-preserved g c =
    let i = c.loop-handle.invariant in
    let desk = c.args.desk.now in
    record {
      own = c.join.ensures.table ∙ i.own;
      at_desk = (all_but_last (λ h. h.seat) (IsSeatOf desk) c.pop-in-loop-handle.new.self.items c.loop-handle.handles.items c.in-Some-pop.handle c.in-Some-pop.ensures.items i.at_desk).0;
      seen = λ before have. later_trans before (seen_of c.loop-handle.seat) (seen_of c.join.new.seat) (i.seen before have) (joined_later c.loop-handle.seat c.into_seat.result c.join.new.seat c.join.ensures.joined);
    }
