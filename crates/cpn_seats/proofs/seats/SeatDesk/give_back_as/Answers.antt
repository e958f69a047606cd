use Rattle.std.proofs.Common.{[], ◌∷◌, Some, refl, ap, ◌∙◌, arith}
use Rattle.cpn_book.specs.declared.answers.GivenBack.{GivenBack}
use Rattle.cpn_book.specs.Seen.{GivesBackAt, WantsMemoryAt}
use Rattle.cpn_book.proofs.SeatCalls.{give_back_makes, gives_back_at, giving_back_answers, wants_memory_by}
use Rattle.cpn_book.specs.declared.books.Book.{Book}
use Rattle.cpn_seats.proofs.HeldClaims.{gives_back_held}
use Rattle.cpn_seats.proofs.Answering.{given_more, holds, held_some, puts_back, ends_as, rests, tells, wants}
use Rattle.cpn_seats.proofs.seats.SeatDesk.give_back_as.Goals as goal

pub take-book-requires-clause-held : goal.take-book-requires-clause-held
take-book-requires-clause-held g c = held_some c.args.token.now.me.0 c.take_turn-turn.new.token.me c.take_turn-turn.ensures.held

pub give_back-answer-requires : goal.give_back-answer-requires
give_back-answer-requires g c = record { kept = (holds c.args.token.now.me.0 c.take_turn-turn.new.token.me c.take-book.result c.take_turn-turn.ensures.held c.take-book.ensures.taken).finds.is_book }

pub serve-requires-clause-put_back : goal.serve-requires-clause-put_back
serve-requires-clause-put_back g c =
    let v = c.args.token.now.me.0 in
    let m = c.take_turn-turn.new.token.me in
    let y = c.take-book.result in
    let e = c.give_back-answer.ensures in
    let b : Book = c.give_back-answer.new.self in
    let h = holds v m y c.take_turn-turn.ensures.held c.take-book.ensures.taken in
    let is = c.put.ensures.full ∙ ap (λ k. (k.0, (0, Some b) ∷ [])) c.take-book.ensures.empty in
    let made = give_back_makes c.args.number y b c.args.ticket c.give_back-answer.result h.finds.is_book e.kept e.setup e.answer e.events_stay e.spent_same in
    puts_back v m c.put.new.token.me y b c.args.number 0 _ h is made.makes c.requires.at_rest.among (omega (arith, e.entered))

pub returns-clause-at_rest : goal.returns-clause-at_rest
returns-clause-at_rest g c =
    let v = c.args.token.now.me.0 in
    let m = c.take_turn-turn.new.token.me in
    let y = c.take-book.result in
    let e = c.give_back-answer.ensures in
    let b : Book = c.give_back-answer.new.self in
    let h = holds v m y c.take_turn-turn.ensures.held c.take-book.ensures.taken in
    let is = c.put.ensures.full ∙ ap (λ k. (k.0, (0, Some b) ∷ [])) c.take-book.ensures.empty in
    let made = give_back_makes c.args.number y b c.args.ticket c.give_back-answer.result h.finds.is_book e.kept e.setup e.answer e.events_stay e.spent_same in
    let end = c.leave.ensures.same ∙ ends_as v m c.put.new.token.me c.serve.new.token.me y b h is c.serve.ensures.served in
    rests v b c.args.number c.args.token.now.me c.leave.new.token.me refl c.requires.at_rest end

pub returns-clause-numbers : goal.returns-clause-numbers
returns-clause-numbers g c =
    let v = c.args.token.now.me.0 in
    let m = c.take_turn-turn.new.token.me in
    let y = c.take-book.result in
    let e = c.give_back-answer.ensures in
    let b : Book = c.give_back-answer.new.self in
    let h = holds v m y c.take_turn-turn.ensures.held c.take-book.ensures.taken in
    let is = c.put.ensures.full ∙ ap (λ k. (k.0, (0, Some b) ∷ [])) c.take-book.ensures.empty in
    let made = give_back_makes c.args.number y b c.args.ticket c.give_back-answer.result h.finds.is_book e.kept e.setup e.answer e.events_stay e.spent_same in
    let end = c.leave.ensures.same ∙ ends_as v m c.put.new.token.me c.serve.new.token.me y b h is c.serve.ensures.served in
    ap (λ k. k.0.numbers) end

pub returns-clause-more_given : goal.returns-clause-more_given
returns-clause-more_given g c =
    let v = c.args.token.now.me.0 in
    let m = c.take_turn-turn.new.token.me in
    let y = c.take-book.result in
    let e = c.give_back-answer.ensures in
    let b : Book = c.give_back-answer.new.self in
    let h = holds v m y c.take_turn-turn.ensures.held c.take-book.ensures.taken in
    let is = c.put.ensures.full ∙ ap (λ k. (k.0, (0, Some b) ∷ [])) c.take-book.ensures.empty in
    let made = give_back_makes c.args.number y b c.args.ticket c.give_back-answer.result h.finds.is_book e.kept e.setup e.answer e.events_stay e.spent_same in
    let end = c.leave.ensures.same ∙ ends_as v m c.put.new.token.me c.serve.new.token.me y b h is c.serve.ensures.served in
    given_more v y b v.numbers c.leave.new.token.me (ap (λ k. k.0) end) h.finds (omega (arith, e.entered))

pub returns-clause-answer : goal.returns-clause-answer
returns-clause-answer g c =
    let v = c.args.token.now.me.0 in
    let m = c.take_turn-turn.new.token.me in
    let y = c.take-book.result in
    let e = c.give_back-answer.ensures in
    let b : Book = c.give_back-answer.new.self in
    let h = holds v m y c.take_turn-turn.ensures.held c.take-book.ensures.taken in
    let is = c.put.ensures.full ∙ ap (λ k. (k.0, (0, Some b) ∷ [])) c.take-book.ensures.empty in
    let made = give_back_makes c.args.number y b c.args.ticket c.give_back-answer.result h.finds.is_book e.kept e.setup e.answer e.events_stay e.spent_same in
    let end = c.leave.ensures.same ∙ ends_as v m c.put.new.token.me c.serve.new.token.me y b h is c.serve.ensures.served in
    tells GivenBack (λ a. GivesBackAt v.numbers c.args.number c.args.ticket a) v y b v.numbers c.give_back-answer.result c.leave.new.token.me (ap (λ k. k.0) end) h.finds made.makes.setup (λ seen comes. gives_back_at v.numbers c.args.number seen y b c.args.ticket c.give_back-answer.result comes made e.unspent e.unspent_still)

pub returns-clause-none : goal.returns-clause-none
returns-clause-none g c =
    let v = c.args.token.now.me.0 in
    let m = c.take_turn-turn.new.token.me in
    let y = c.take-book.result in
    let e = c.give_back-answer.ensures in
    let b : Book = c.give_back-answer.new.self in
    let h = holds v m y c.take_turn-turn.ensures.held c.take-book.ensures.taken in
    let is = c.put.ensures.full ∙ ap (λ k. (k.0, (0, Some b) ∷ [])) c.take-book.ensures.empty in
    let made = give_back_makes c.args.number y b c.args.ticket c.give_back-answer.result h.finds.is_book e.kept e.setup e.answer e.events_stay e.spent_same in
    let end = c.leave.ensures.same ∙ ends_as v m c.put.new.token.me c.serve.new.token.me y b h is c.serve.ensures.served in
    wants GivenBack (WantsMemoryAt v.numbers) v y b v.numbers c.give_back-answer.result c.leave.new.token.me (ap (λ k. k.0) end) h.finds made.makes.setup (λ seen comes. wants_memory_by GivenBack (giving_back_answers c.args.number c.args.ticket) v.numbers c.args.number seen y b c.give_back-answer.result comes made e.spent)

pub returns-clause-held : goal.returns-clause-held
returns-clause-held g c =
    let v = c.args.token.now.me.0 in
    let m = c.take_turn-turn.new.token.me in
    let y = c.take-book.result in
    let e = c.give_back-answer.ensures in
    let b : Book = c.give_back-answer.new.self in
    let h = holds v m y c.take_turn-turn.ensures.held c.take-book.ensures.taken in
    let is = c.put.ensures.full ∙ ap (λ k. (k.0, (0, Some b) ∷ [])) c.take-book.ensures.empty in
    let made = give_back_makes c.args.number y b c.args.ticket c.give_back-answer.result h.finds.is_book e.kept e.setup e.answer e.events_stay e.spent_same in
    gives_back_held v y b c.args.number c.args.ticket c.give_back-answer.result h.finds c.requires.at_rest.among made
