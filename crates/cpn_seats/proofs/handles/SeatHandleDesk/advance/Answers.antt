use Rattle.std.proofs.Common.{ap}
use Rattle.cpn_book.specs.Desks.{shared}
use Rattle.cpn_book.specs.Seen.{AdvancesAt}
use Rattle.cpn_book.proofs.SeatCalls.{is_later}
use Rattle.cpn_seats.specs.Seats.{numbers_of}
use Rattle.cpn_seats.proofs.Sighted.{later_by}
use Rattle.cpn_seats.proofs.handles.SeatHandleDesk.advance.Goals as goal

pub returns-clause-later : goal.returns-clause-later
returns-clause-later g c =
    let s = c.args.self.now.seat in
    later_by (AdvancesAt (numbers_of s) c.advance.result) (λ old new fact. is_later (numbers_of s) old new _ fact.call) _ _ c.advance.ensures.answer

pub returns-clause-book : goal.returns-clause-book
returns-clause-book g c = ap shared c.advance.ensures.same.table
