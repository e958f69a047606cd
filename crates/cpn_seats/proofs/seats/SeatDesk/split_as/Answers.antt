use Rattle.std.proofs.Common.{◌≡◌, ℕ, true, [], ◌∷◌, Some, refl, ap, sym, ◌∙◌, subst, arith}
use Rattle.cpn_book.specs.Books.{journal_in, entered_in}
use Rattle.cpn_book.specs.Seen.{SeesCall}
use Rattle.cpn_book.specs.declared.books.Book.{Book}
use Rattle.cpn_runs.specs.SeatEvents.{is_among, events_by}
use Rattle.cpn_book.proofs.SeatCalls.{sees_call}
use Rattle.cpn_seats.specs.SeenViews.{seen_by}
use Rattle.cpn_seats.specs.Turns.{journal_told, after_turn, with_numbers}
use Rattle.cpn_seats.proofs.Keeping.{splits}
use Rattle.cpn_seats.proofs.Answering.{given_more, holds, held_some, puts_back, ends_as, ends_more, left_ends, right_ends, fresh_number, split_rests, rests, sees, enter_makes, seats_seen}
use Rattle.cpn_seats.proofs.seats.SeatDesk.split_as.Goals as goal

pub take-book-requires-clause-held : goal.take-book-requires-clause-held
take-book-requires-clause-held g c = held_some c.args.token.now.me.0 c.take_turn-turn.new.token.me c.take_turn-turn.ensures.held

pub enter-requires : goal.enter-requires
enter-requires g c =
    record { kept = (holds c.args.token.now.me.0 c.take_turn-turn.new.token.me c.take-book.result c.take_turn-turn.ensures.held c.take-book.ensures.taken).finds.is_book }

pub serve-requires-clause-put_back : goal.serve-requires-clause-put_back
serve-requires-clause-put_back g c =
    let v = c.args.token.now.me.0 in
    let m = c.take_turn-turn.new.token.me in
    let y = c.take-book.result in
    let b : Book = c.enter.new.self in
    let h = holds v m y c.take_turn-turn.ensures.held c.take-book.ensures.taken in
    let made = enter_makes c.args.number y b c.enter.ensures.kept c.enter.ensures.same in
    let is = c.put.ensures.full ∙ ap (λ k. (k.0, (0, Some b) ∷ [])) c.take-book.ensures.empty in
    puts_back v m c.put.new.token.me y b c.args.number 0 [] h is made c.requires.at_rest.among (let e = ap entered_in (c.enter.ensures.unchanged c.in_default.is) in omega (arith, e))

pub serve_more-requires-clause-put_back : goal.serve_more-requires-clause-put_back
serve_more-requires-clause-put_back g c =
    let v = c.args.token.now.me.0 in
    let m = c.take_turn-turn.new.token.me in
    let y = c.take-book.result in
    let b : Book = c.enter.new.self in
    let h = holds v m y c.take_turn-turn.ensures.held c.take-book.ensures.taken in
    let made = enter_makes c.args.number y b c.enter.ensures.kept c.enter.ensures.same in
    let is = c.put-2.ensures.full ∙ ap (λ k. (k.0, (0, Some b) ∷ [])) c.take-book.ensures.empty in
    let next = c.in-Some.ensures.next in
    puts_back v m c.put-2.new.token.me y b c.args.number 1 [] h is made c.requires.at_rest.among (omega (arith, next.0, next.1))

pub split_seat-other-requires : goal.split_seat-other-requires
split_seat-other-requires g c =
    let v = c.args.token.now.me.0 in
    let m = c.take_turn-turn.new.token.me in
    let y = c.take-book.result in
    let b : Book = c.enter.new.self in
    let h = holds v m y c.take_turn-turn.ensures.held c.take-book.ensures.taken in
    let made = enter_makes c.args.number y b c.enter.ensures.kept c.enter.ensures.same in
    let is = c.put-2.ensures.full ∙ ap (λ k. (k.0, (0, Some b) ∷ [])) c.take-book.ensures.empty in
    let k = c.serve_more.new.token.me in
    let now = ends_more v m c.put-2.new.token.me k y b h is c.serve_more.ensures.served in
    let words = c.args.self.now.words in
    (c.serve_more.ensures.own ∙ c.put-2.ensures.own ∙ c.take-book.ensures.own ∙ c.take_turn-turn.ensures.own ∙ c.requires.own, omega arith, splits _ _ _ v.numbers (entered_in y) (ap (λ k. k.0.numbers) now) (fresh_number v y h.finds) (ap (λ k. k.0.waits) now))

pub returns-clause-at_rest : goal.returns-clause-at_rest
returns-clause-at_rest g c =
    let v = c.args.token.now.me.0 in
    let m = c.take_turn-turn.new.token.me in
    let y = c.take-book.result in
    let b : Book = c.enter.new.self in
    let h = holds v m y c.take_turn-turn.ensures.held c.take-book.ensures.taken in
    let made = enter_makes c.args.number y b c.enter.ensures.kept c.enter.ensures.same in
    let is = c.put-2.ensures.full ∙ ap (λ k. (k.0, (0, Some b) ∷ [])) c.take-book.ensures.empty in
    let k = c.serve_more.new.token.me in
    let now = ends_more v m c.put-2.new.token.me k y b h is c.serve_more.ensures.served in
    let s = c.split_seat-other.ensures in
    let l = c.split_seat-other.new.seat.me in
    let end = left_ends v b (entered_in y) k l now s.2 in
    rests v b c.args.number c.args.token.now.me l refl c.requires.at_rest end

pub returns-clause-numbers : goal.returns-clause-numbers
returns-clause-numbers g c =
    let v = c.args.token.now.me.0 in
    let m = c.take_turn-turn.new.token.me in
    let y = c.take-book.result in
    let b : Book = c.enter.new.self in
    let h = holds v m y c.take_turn-turn.ensures.held c.take-book.ensures.taken in
    let made = enter_makes c.args.number y b c.enter.ensures.kept c.enter.ensures.same in
    let is = c.put-2.ensures.full ∙ ap (λ k. (k.0, (0, Some b) ∷ [])) c.take-book.ensures.empty in
    let k = c.serve_more.new.token.me in
    let now = ends_more v m c.put-2.new.token.me k y b h is c.serve_more.ensures.served in
    let s = c.split_seat-other.ensures in
    let l = c.split_seat-other.new.seat.me in
    let end = left_ends v b (entered_in y) k l now s.2 in
    ap (λ k. k.0.numbers) end

pub returns-clause-more_given : goal.returns-clause-more_given
returns-clause-more_given g c =
    let v = c.args.token.now.me.0 in
    let m = c.take_turn-turn.new.token.me in
    let y = c.take-book.result in
    let b : Book = c.enter.new.self in
    let h = holds v m y c.take_turn-turn.ensures.held c.take-book.ensures.taken in
    let made = enter_makes c.args.number y b c.enter.ensures.kept c.enter.ensures.same in
    let is = c.put-2.ensures.full ∙ ap (λ k. (k.0, (0, Some b) ∷ [])) c.take-book.ensures.empty in
    let k = c.serve_more.new.token.me in
    let now = ends_more v m c.put-2.new.token.me k y b h is c.serve_more.ensures.served in
    let s = c.split_seat-other.ensures in
    let l = c.split_seat-other.new.seat.me in
    let end = left_ends v b (entered_in y) k l now s.2 in
    given_more v y b v.numbers l (ap (λ k. k.0) end) h.finds (let next = c.in-Some.ensures.next in omega (arith, next.0, next.1))

pub returns-clause-looks : goal.returns-clause-looks
returns-clause-looks g c =
    let v = c.args.token.now.me.0 in
    let m = c.take_turn-turn.new.token.me in
    let y = c.take-book.result in
    let b : Book = c.enter.new.self in
    let h = holds v m y c.take_turn-turn.ensures.held c.take-book.ensures.taken in
    let made = enter_makes c.args.number y b c.enter.ensures.kept c.enter.ensures.same in
    let is = c.put-2.ensures.full ∙ ap (λ k. (k.0, (0, Some b) ∷ [])) c.take-book.ensures.empty in
    let k = c.serve_more.new.token.me in
    let now = ends_more v m c.put-2.new.token.me k y b h is c.serve_more.ensures.served in
    let s = c.split_seat-other.ensures in
    let l = c.split_seat-other.new.seat.me in
    let end = left_ends v b (entered_in y) k l now s.2 in
    sees (SeesCall v.numbers []) v y b v.numbers l (ap (λ k. k.0) end) h.finds made.setup (λ seen comes. sees_call v.numbers c.args.number seen y b [] comes made)

pub returns-clause-split : goal.returns-clause-split
returns-clause-split g c =
    let v = c.args.token.now.me.0 in
    let m = c.take_turn-turn.new.token.me in
    let y = c.take-book.result in
    let b : Book = c.enter.new.self in
    let h = holds v m y c.take_turn-turn.ensures.held c.take-book.ensures.taken in
    let made = enter_makes c.args.number y b c.enter.ensures.kept c.enter.ensures.same in
    let is = c.put-2.ensures.full ∙ ap (λ k. (k.0, (0, Some b) ∷ [])) c.take-book.ensures.empty in
    let k = c.serve_more.new.token.me in
    let now = ends_more v m c.put-2.new.token.me k y b h is c.serve_more.ensures.served in
    let s = c.split_seat-other.ensures in
    let l = c.split_seat-other.new.seat.me in
    let end = left_ends v b (entered_in y) k l now s.2 in
    let new = c.in-Some.new in
    let next = c.in-Some.ensures.next in
    let there = right_ends v b (entered_in y) k c.split_seat-other.result.me now s.4 ∙ ap (λ (n : ℕ). (after_turn v b (n ∷ []), [])) (sym next.0) in record {
      table = s.3 ∙ c.serve_more.ensures.own ∙ c.put-2.ensures.own ∙ c.take-book.ensures.own ∙ c.take_turn-turn.ensures.own;
      at_rest = split_rests v b new c.args.token.now.me c.split_seat-other.result.me refl c.requires.at_rest.here there;
      view_is = ap (λ k. k.0) there ∙ sym (ap (λ k. with_numbers k.0 (new ∷ [])) end);
      last_given = ap (λ k. k.0.given) end ∙ next.1;
      fresh = λ among. fresh_number v y h.finds (subst (λ (n : ℕ). is_among n v.numbers ≡ true) next.0 (sym (ap (λ k. is_among new k.0.numbers) end) ∙ among));
      no_event = ap (λ k. events_by new (journal_told k.0.seen)) end ∙ ap (λ (z : Book). events_by new (journal_in z)) c.enter.ensures.same ∙ h.finds.known new (omega (arith, next.0));
      room = λ seen seen_is.
          let below = c.in-Some.ensures.known in
          let same = seats_seen v y b v.numbers seen h.finds (sym (ap (λ k. seen_by k.0) end) ∙ seen_is) in
          omega arith;
    }

pub returns-in_default-clause-at_rest : goal.returns-in_default-clause-at_rest
returns-in_default-clause-at_rest g c =
    let v = c.args.token.now.me.0 in
    let m = c.take_turn-turn.new.token.me in
    let y = c.take-book.result in
    let b : Book = c.enter.new.self in
    let h = holds v m y c.take_turn-turn.ensures.held c.take-book.ensures.taken in
    let made = enter_makes c.args.number y b c.enter.ensures.kept c.enter.ensures.same in
    let is = c.put.ensures.full ∙ ap (λ k. (k.0, (0, Some b) ∷ [])) c.take-book.ensures.empty in
    let end = ends_as v m c.put.new.token.me c.serve.new.token.me y b h is c.serve.ensures.served in
    rests v b c.args.number c.args.token.now.me c.serve.new.token.me refl c.requires.at_rest end

pub returns-in_default-clause-numbers : goal.returns-in_default-clause-numbers
returns-in_default-clause-numbers g c =
    let v = c.args.token.now.me.0 in
    let m = c.take_turn-turn.new.token.me in
    let y = c.take-book.result in
    let b : Book = c.enter.new.self in
    let h = holds v m y c.take_turn-turn.ensures.held c.take-book.ensures.taken in
    let made = enter_makes c.args.number y b c.enter.ensures.kept c.enter.ensures.same in
    let is = c.put.ensures.full ∙ ap (λ k. (k.0, (0, Some b) ∷ [])) c.take-book.ensures.empty in
    let end = ends_as v m c.put.new.token.me c.serve.new.token.me y b h is c.serve.ensures.served in
    ap (λ k. k.0.numbers) end

pub returns-in_default-clause-more_given : goal.returns-in_default-clause-more_given
returns-in_default-clause-more_given g c =
    let v = c.args.token.now.me.0 in
    let m = c.take_turn-turn.new.token.me in
    let y = c.take-book.result in
    let b : Book = c.enter.new.self in
    let h = holds v m y c.take_turn-turn.ensures.held c.take-book.ensures.taken in
    let made = enter_makes c.args.number y b c.enter.ensures.kept c.enter.ensures.same in
    let is = c.put.ensures.full ∙ ap (λ k. (k.0, (0, Some b) ∷ [])) c.take-book.ensures.empty in
    let end = ends_as v m c.put.new.token.me c.serve.new.token.me y b h is c.serve.ensures.served in
    given_more v y b v.numbers c.serve.new.token.me (ap (λ k. k.0) end) h.finds (let e = ap entered_in (c.enter.ensures.unchanged c.in_default.is) in omega (arith, e))

pub returns-in_default-clause-looks : goal.returns-in_default-clause-looks
returns-in_default-clause-looks g c =
    let v = c.args.token.now.me.0 in
    let m = c.take_turn-turn.new.token.me in
    let y = c.take-book.result in
    let b : Book = c.enter.new.self in
    let h = holds v m y c.take_turn-turn.ensures.held c.take-book.ensures.taken in
    let made = enter_makes c.args.number y b c.enter.ensures.kept c.enter.ensures.same in
    let is = c.put.ensures.full ∙ ap (λ k. (k.0, (0, Some b) ∷ [])) c.take-book.ensures.empty in
    let end = ends_as v m c.put.new.token.me c.serve.new.token.me y b h is c.serve.ensures.served in
    sees (SeesCall v.numbers []) v y b v.numbers c.serve.new.token.me (ap (λ k. k.0) end) h.finds made.setup (λ seen comes. sees_call v.numbers c.args.number seen y b [] comes made)

pub returns-in_default-clause-given : goal.returns-in_default-clause-given
returns-in_default-clause-given g c =
    let v = c.args.token.now.me.0 in
    let m = c.take_turn-turn.new.token.me in
    let y = c.take-book.result in
    let b : Book = c.enter.new.self in
    let h = holds v m y c.take_turn-turn.ensures.held c.take-book.ensures.taken in
    let made = enter_makes c.args.number y b c.enter.ensures.kept c.enter.ensures.same in
    let is = c.put.ensures.full ∙ ap (λ k. (k.0, (0, Some b) ∷ [])) c.take-book.ensures.empty in
    let end = ends_as v m c.put.new.token.me c.serve.new.token.me y b h is c.serve.ensures.served in
    ap (λ k. k.0.given) end ∙ sym c.entered-given.ensures

pub returns-in_default-clause-full : goal.returns-in_default-clause-full
returns-in_default-clause-full g c =
    let v = c.args.token.now.me.0 in
    let m = c.take_turn-turn.new.token.me in
    let y = c.take-book.result in
    let b : Book = c.enter.new.self in
    let h = holds v m y c.take_turn-turn.ensures.held c.take-book.ensures.taken in
    let made = enter_makes c.args.number y b c.enter.ensures.kept c.enter.ensures.same in
    let is = c.put.ensures.full ∙ ap (λ k. (k.0, (0, Some b) ∷ [])) c.take-book.ensures.empty in
    let end = ends_as v m c.put.new.token.me c.serve.new.token.me y b h is c.serve.ensures.served in
    λ seen seen_is.
    let all = c.enter.ensures.none c.in_default.is in
    let still = ap entered_in (c.enter.ensures.unchanged c.in_default.is) in
    let given = c.entered-given.ensures in
    let same = seats_seen v y b v.numbers seen h.finds (sym (ap (λ k. seen_by k.0) end) ∙ seen_is) in
    omega arith
