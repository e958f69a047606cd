-- Each seat that is split off has seen what the first one has.
use Rattle.std.proofs.Common.{◌≡◌, sym, ◌∙◌, subst, arith}
use Rattle.cpn_book.specs.Seen.{Later}
use Rattle.cpn_book.proofs.LaterRuns.{later_trans}
use Rattle.cpn_seats.specs.Seats.{IsSeatOf, numbers_of, seen_of}
use Rattle.cpn_seats.specs.declared.seats.Seat.{Seat}
use Rattle.cpn_simulation.proofs.SharedSeats.{looked_later, all_with_last}
use Rattle.cpn_simulation.proofs.workers.seated.Goals.{else-loop-first-test, then-loop-first-test+in-Full}
use Rattle.cpn_simulation.proofs.workers.seated.Goals as goal

pub loop-first-preserved : goal.loop-first-preserved
loop-first-preserved g c =
    let i = c.loop-first.invariant in
    let desk = c.args.desk.now in
    let before = seen_of c.args.first in
    let seat = c.split.new.seat in
    let later : Later before (seen_of seat) = later_trans before (seen_of c.loop-first.first) (seen_of seat) i.first_seen (looked_later (numbers_of c.loop-first.first) (seen_of c.loop-first.first) (seen_of seat) c.split.ensures.looks) in
    let off = c.in-Seat.ensures.answer in
    let own : c.new.result.seat ≡ c.in-Seat.other = c.new.ensures.seat in
    record {
      first = c.split.ensures.same.table ∙ i.first;
      first_seen = later;
      at_desk = all_with_last (λ h. h.seat) (IsSeatOf desk) c.loop-first.handles.items c.push_reserved.new.self.items c.new.result c.push_reserved.ensures.items i.at_desk
          (subst (IsSeatOf desk) (sym own) (off.table ∙ c.split.ensures.same.table ∙ i.first));
      seen = all_with_last (λ h. h.seat) (λ s. Later before (seen_of s)) c.loop-first.handles.items c.push_reserved.new.self.items c.new.result c.push_reserved.ensures.items i.seen
          (subst (λ s. Later before (seen_of s)) (sym own) (subst (Later before) (sym off.seen) later));
      below = (let t = c.loop-first-test.true in let n = c.push_reserved.ensures.len in let is = c.len.ensures in omega (arith, t, n, is));
      room = (let n = c.push_reserved.ensures.capacity in let r = i.room in omega (arith, n, r));
    }

pub returns-clause-seen : goal.returns-clause-seen
returns-clause-seen g c =
    let i = c.loop-first.invariant in
    let before = seen_of c.args.first in
    let later : Later before (seen_of c.loop-first-test.first) = elim c.loop-first-test.branch [
      | else-loop-first-test w ↦ subst (λ (s : Seat). Later before (seen_of s)) (sym w.first-is) i.first_seen
      | then-loop-first-test+in-Full w ↦ subst (λ (s : Seat). Later before (seen_of s)) (sym w.first-is) (later_trans before (seen_of c.loop-first.first) (seen_of w.split.new.seat) i.first_seen (looked_later (numbers_of c.loop-first.first) (seen_of c.loop-first.first) (seen_of w.split.new.seat) w.split.ensures.looks))
    ] in
    all_with_last (λ h. h.seat) (λ s. Later before (seen_of s)) c.loop-first.handles.items c.push_reserved-2.new.self.items c.new-2.result c.push_reserved-2.ensures.items i.seen
    (subst (λ (s : Seat). Later before (seen_of s)) (sym c.new-2.ensures.seat) later)
