use Rattle.std.proofs.Common.{[], ◌∷◌, Some, refl, ap, ◌∙◌, arith}
use Rattle.cpn_book.specs.Seen.{SeesCall}
use Rattle.cpn_book.proofs.SeatCalls.{sees_call}
use Rattle.cpn_seats.proofs.Answering.{given_more, holds, held_some, puts_back, ends_as, rests, sees, look_makes}
use Rattle.cpn_seats.proofs.seats.SeatDesk.look_as.Goals as goal

pub take-book-requires-clause-held : goal.take-book-requires-clause-held
take-book-requires-clause-held g c = held_some c.args.token.now.me.0 c.take_turn-turn.new.token.me c.take_turn-turn.ensures.held

pub serve-requires-clause-put_back : goal.serve-requires-clause-put_back
serve-requires-clause-put_back g c =
    let v = c.args.token.now.me.0 in
    let m = c.take_turn-turn.new.token.me in
    let y = c.take-book.result in
    let h = holds v m y c.take_turn-turn.ensures.held c.take-book.ensures.taken in
    let is = c.put.ensures.full ∙ ap (λ k. (k.0, (0, Some y) ∷ [])) c.take-book.ensures.empty in
    let made = look_makes c.args.number y h.finds.is_book in
    puts_back v m c.put.new.token.me y y c.args.number 0 [] h is made c.requires.at_rest.among (omega arith)

pub returns-clause-at_rest : goal.returns-clause-at_rest
returns-clause-at_rest g c =
    let v = c.args.token.now.me.0 in
    let m = c.take_turn-turn.new.token.me in
    let y = c.take-book.result in
    let h = holds v m y c.take_turn-turn.ensures.held c.take-book.ensures.taken in
    let is = c.put.ensures.full ∙ ap (λ k. (k.0, (0, Some y) ∷ [])) c.take-book.ensures.empty in
    let made = look_makes c.args.number y h.finds.is_book in
    let end = ends_as v m c.put.new.token.me c.serve.new.token.me y y h is c.serve.ensures.served in
    rests v y c.args.number c.args.token.now.me c.serve.new.token.me refl c.requires.at_rest end

pub returns-clause-numbers : goal.returns-clause-numbers
returns-clause-numbers g c =
    let v = c.args.token.now.me.0 in
    let m = c.take_turn-turn.new.token.me in
    let y = c.take-book.result in
    let h = holds v m y c.take_turn-turn.ensures.held c.take-book.ensures.taken in
    let is = c.put.ensures.full ∙ ap (λ k. (k.0, (0, Some y) ∷ [])) c.take-book.ensures.empty in
    let made = look_makes c.args.number y h.finds.is_book in
    let end = ends_as v m c.put.new.token.me c.serve.new.token.me y y h is c.serve.ensures.served in
    ap (λ k. k.0.numbers) end

pub returns-clause-more_given : goal.returns-clause-more_given
returns-clause-more_given g c =
    let v = c.args.token.now.me.0 in
    let m = c.take_turn-turn.new.token.me in
    let y = c.take-book.result in
    let h = holds v m y c.take_turn-turn.ensures.held c.take-book.ensures.taken in
    let is = c.put.ensures.full ∙ ap (λ k. (k.0, (0, Some y) ∷ [])) c.take-book.ensures.empty in
    let made = look_makes c.args.number y h.finds.is_book in
    let end = ends_as v m c.put.new.token.me c.serve.new.token.me y y h is c.serve.ensures.served in
    given_more v y y v.numbers c.serve.new.token.me (ap (λ k. k.0) end) h.finds (omega arith)

pub returns-clause-looks : goal.returns-clause-looks
returns-clause-looks g c =
    let v = c.args.token.now.me.0 in
    let m = c.take_turn-turn.new.token.me in
    let y = c.take-book.result in
    let h = holds v m y c.take_turn-turn.ensures.held c.take-book.ensures.taken in
    let is = c.put.ensures.full ∙ ap (λ k. (k.0, (0, Some y) ∷ [])) c.take-book.ensures.empty in
    let made = look_makes c.args.number y h.finds.is_book in
    let end = ends_as v m c.put.new.token.me c.serve.new.token.me y y h is c.serve.ensures.served in
    sees (SeesCall v.numbers []) v y y v.numbers c.serve.new.token.me (ap (λ k. k.0) end) h.finds refl (λ seen comes. sees_call v.numbers c.args.number seen y y [] comes made)
