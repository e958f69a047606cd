use Rattle.cpn_seats.specs.Seats.{numbers_of, number_of_seat}
use Rattle.cpn_seats.proofs.HeldClaims.{claims_held}
use Rattle.cpn_seats.proofs.seats.SeatDesk.claim.Goals as goal

pub returns-clause-held : goal.returns-clause-held
returns-clause-held g c = claims_held (numbers_of c.args.seat.now) (number_of_seat c.args.seat.now) _ _ c.claim_as.result c.claim_as.ensures.answer
