-- A book that was just begun may be shared. The seats that the crew leaves are of the desk, and have seen the book, so that the one that is closed
-- goes on from it.
use denote.Param.Send.{param_send, param_sync, arg_send}
use Rattle.std.proofs.Common.{◌≡◌, List, [], length, map, Option, Some, refl, sym, ap, subst, arith}
use Rattle.cpn_book.specs.Seen.{Seen, seen_in}
use Rattle.cpn_book.proofs.LaterRuns.{later_trans}
use Rattle.cpn_runs.specs.SeatEvents.{events_by}
use Rattle.cpn_runs.specs.State.{PlainSetup, PlainEvent}
use Rattle.cpn_seats.specs.Seats.{seen_of}
use Rattle.cpn_seats.proofs.SendableSeats.{handle_send}
use Rattle.cpn_simulation.specs.SharedBooks.{HaveSeen}
use Rattle.cpn_simulation.proofs.SharedSeats.{at_desk_still, have_seen_still, goes_on}
use Rattle.cpn_simulation.proofs.workers.by_workers.Goals as goal

pub open-requires : goal.open-requires
open-requires g c =
    let book = c.args.book in
    let seats = ap (λ (s : PlainSetup). s.limits.seats) c.setup.ensures in
    record {
      opens = record {
        is_book = c.requires.kept;
        room = omega (arith, c.requires.none_entered, c.if-seats-lt2.false, seats);
        known = λ n left. subst (λ (events : List PlainEvent). events_by n events ≡ []) (sym c.requires.begun) refl;
      };
    }

-- a handle may go to the thread of its worker
pub crew-requires-send-D : goal.crew-requires-send-D
crew-requires-send-D g c κs within = search (handle_send, param_send, param_sync, arg_send) depth 10

pub joined-seat-requires-clause-at_desk : goal.joined-seat-requires-clause-at_desk
joined-seat-requires-clause-at_desk g c =
    let long : length c.crew.new.desks.items ≡ length c.in_ok-handles.handles.items = omega (arith, c.crew.ensures.len, c.crew.new.desks.ok.0, c.in_ok-handles.handles.ok.0) in
    at_desk_still (λ h. h.seat) _ _ _ c.in-Ok-open.opened.0 c.in_ok-handles.handles.items c.crew.new.desks.items long (λ k d lt. c.crew.ensures.each k d (omega (arith, lt, c.in_ok-handles.handles.ok.0))) c.in_ok-handles.ensures.at_desk

pub returns-clause-later : goal.returns-clause-later
returns-clause-later g c =
    let before = Some (seen_in c.args.book) in
    let seated = subst (λ (b : Option Seen). HaveSeen b (map (λ h. h.seat) c.in_ok-handles.handles.items)) c.in-Ok-open.ensures.seen c.in_ok-handles.ensures.seen in
    let long : length c.crew.new.desks.items ≡ length c.in_ok-handles.handles.items = omega (arith, c.crew.ensures.len, c.crew.new.desks.ok.0, c.in_ok-handles.handles.ok.0) in
    let worked = have_seen_still (λ h. h.seat) _ _ _ before c.in_ok-handles.handles.items c.crew.new.desks.items long (λ k d lt. c.crew.ensures.each k d (omega (arith, lt, c.in_ok-handles.handles.ok.0))) seated in
    goes_on (seen_in c.args.book) (seen_in c.close.result)
    (later_trans before (seen_of c.joined-seat.result) (Some (seen_in c.close.result)) (c.joined-seat.ensures.seen before worked) c.close.ensures.later)
