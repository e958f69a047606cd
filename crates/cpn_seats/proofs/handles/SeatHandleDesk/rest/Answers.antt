use Rattle.std.proofs.Common.{sym, ap, ◌∙◌, subst}
use Rattle.cpn_book.specs.Desks.{shared}
use Rattle.cpn_seats.specs.Seats.{numbers_of, seen_of}
use Rattle.cpn_seats.proofs.Sighted.{LooksOn, looks_on, looks_further, look_later}
use Rattle.cpn_seats.proofs.handles.SeatHandleDesk.rest.Goals as goal

pub returns-then-look_on-clause-looks : goal.returns-then-look_on-clause-looks
returns-then-look_on-clause-looks g c = looks_on _ _ _ _ _ c.loop.invariant.numbers c.loop.invariant.looks c.look_on.ensures.looks

pub returns-then-look_on-clause-later : goal.returns-then-look_on-clause-later
returns-then-look_on-clause-later g c =
    look_later (numbers_of c.args.self.now.seat) _ _ (looks_on _ _ _ _ _ c.loop.invariant.numbers c.loop.invariant.looks c.look_on.ensures.looks)

pub returns-then-look_on-clause-book : goal.returns-then-look_on-clause-book
returns-then-look_on-clause-book g c = ap shared (c.look_on.ensures.same.table ∙ c.loop.invariant.table)

pub returns-then-look_on-clause-numbers : goal.returns-then-look_on-clause-numbers
returns-then-look_on-clause-numbers g c = c.look_on.ensures.same.numbers ∙ c.loop.invariant.numbers

pub returns-then-look_on-clause-seat : goal.returns-then-look_on-clause-seat
returns-then-look_on-clause-seat g c = c.look_on.ensures.same.number ∙ c.loop.invariant.seat

pub loop-preserved : goal.loop-preserved
loop-preserved g c =
    let i = c.loop.invariant in
    let e = c.look_on.ensures in
    let s = c.sleep_on.ensures in record {
      can = tt;
      finite = tt;
      looks = subst (LooksOn (numbers_of c.args.self.now.seat) (seen_of c.args.self.now.seat)) (sym s.seen) (looks_further _ _ _ _ _ i.numbers i.looks e.looks);
      numbers = s.same.numbers ∙ e.same.numbers ∙ i.numbers;
      seat = s.same.number ∙ e.same.number ∙ i.seat;
      table = s.same.table ∙ e.same.table ∙ i.table;
    }
