use Rattle.std.proofs.Common.{[], ap}
use Rattle.cpn_book.specs.declared.answers.Claimed.{Claimed}
use Rattle.cpn_book.specs.Desks.{shared}
use Rattle.cpn_book.specs.Seen.{ClaimsAt, WantsMemoryAt}
use Rattle.cpn_book.proofs.SeatCalls.{is_later}
use Rattle.cpn_seats.specs.Seats.{numbers_of, number_of_seat}
use Rattle.cpn_seats.proofs.Sighted.{answer_later}
use Rattle.cpn_seats.proofs.handles.SeatHandleDesk.claim.Goals as goal

pub returns-clause-later : goal.returns-clause-later
returns-clause-later g c =
    let s = c.args.self.now.seat in
    answer_later Claimed (λ a. ClaimsAt (numbers_of s) (number_of_seat s) a) (WantsMemoryAt (numbers_of s)) (λ a old new fact. is_later (numbers_of s) old new _ fact.call) (λ old new fact. is_later (numbers_of s) old new [] fact.call) _ _ _ c.claim.ensures.answer c.claim.ensures.none

pub returns-clause-book : goal.returns-clause-book
returns-clause-book g c = ap shared c.claim.ensures.same.table
