use Rattle.cpn_seats.proofs.Answering.{holds, held_some, closes_later}
use Rattle.cpn_seats.proofs.seats.SeatDesk.close.Goals as goal

pub take-requires-clause-held : goal.take-requires-clause-held
take-requires-clause-held g c = held_some c.args.seat.token.me.0 c.take_turn.new.token.me c.take_turn.ensures.held

pub returns-clause-kept : goal.returns-clause-kept
returns-clause-kept g c = (holds c.args.seat.token.me.0 c.take_turn.new.token.me c.take.result c.take_turn.ensures.held c.take.ensures.taken).finds.is_book

pub returns-clause-later : goal.returns-clause-later
returns-clause-later g c = closes_later c.args.seat.token.me.0 c.take.result (holds c.args.seat.token.me.0 c.take_turn.new.token.me c.take.result c.take_turn.ensures.held c.take.ensures.taken).finds

pub returns-clause-opens : goal.returns-clause-opens
returns-clause-opens g c room =
    let f = (holds c.args.seat.token.me.0 c.take_turn.new.token.me c.take.result c.take_turn.ensures.held c.take.ensures.taken).finds in
    record { is_book = f.is_book; room = room; known = f.known }
