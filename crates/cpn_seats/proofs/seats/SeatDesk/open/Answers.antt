use Rattle.std.proofs.Common.{◌≡◌, suc, List, [], ◌∷◌, ◌++◌, replicate, Some, ap, ◌∙◌, arith}
use Rattle.cpn_book.specs.Books.{entered_in}
use Rattle.cpn_book.specs.declared.books.Book.{Book}
use Rattle.atomic_table.specs.Table.{Me}
use Rattle.cpn_seats.specs.declared.views.View.{View}
use Rattle.cpn_seats.specs.Turns.{Slot, first_view, numbers_below}
use Rattle.cpn_seats.proofs.Answering.{known_still, opened_rests}
use Rattle.cpn_seats.proofs.Keeping.{opens_as}
use Rattle.cpn_seats.proofs.seats.SeatDesk.open.Goals as goal

pub new-requires : goal.new-requires
new-requires c =
    let e = c.enter.ensures in
    opens_as _ c.enter.new.self (replicate 70 0) _ c.of-key.ensures
    (c.push_reserved.ensures.items ∙ ap (λ (xs : List Slot). xs ++ Some c.enter.new.self ∷ []) (c.reserve.ensures.items ∙ c.new-slots.ensures.items))
    e.kept
    (known_still c.args.book c.enter.new.self e.same (let n = c.in-Some.ensures.next in omega (arith, n.0, n.1)) c.requires.opens.known)

pub book_of-requires : goal.book_of-requires
book_of-requires c = (
  c.enter.new.self,
  c.in-Err.ensures.err ∙ c.push_reserved.ensures.items ∙ ap (λ (xs : List Slot). xs ++ Some c.enter.new.self ∷ []) (c.reserve.ensures.items ∙ c.new-slots.ensures.items),
)

pub invariant_of-result-in-Ok-new : goal.invariant_of-result-in-Ok-new
invariant_of-result-in-Ok-new c =
    let n = c.in-Some.ensures.next in
    record { at_rest = opened_rests c.enter.new.self c.in-Ok-new.token.me c.in-Some.number (omega (arith, n.0, n.1)) (c.in-Ok-new.ensures.ok.4 ∙ ap (λ (b : Book). (first_view b, [])) c.of-key.ensures) }

pub returns-in-Ok-new-clause-numbers : goal.returns-in-Ok-new-clause-numbers
returns-in-Ok-new-clause-numbers c =
    let n = c.in-Some.ensures.next in
    let is : entered_in c.enter.new.self ≡ suc (entered_in c.args.book) = omega (arith, n.0, n.1) in
    ap (λ (m : Me Slot View). m.0.numbers) (c.in-Ok-new.ensures.ok.4 ∙ ap (λ (b : Book). (first_view b, [])) c.of-key.ensures) ∙ ap numbers_below is
