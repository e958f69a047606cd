-- The cause is one for which the run ends, or there is none.
use Rattle.std.proofs.Common.{◌≡◌, sym, ◌∙◌, Some}
use Rattle.cpn_definitions.specs.Enabled.{next_time}
use Rattle.cpn_runs.specs.State.{PlainEnd, EndsBy, dead, steps_made, until_passed}
use Rattle.cpn_book.specs.Books.{setup_in, index_in}
use Rattle.cpn_book.proofs.MovedBooks.{claims_below}
use Rattle.cpn_book.proofs.RunningBooks.{in_state, by_steps, by_death, by_time, by_none}
use Rattle.cpn_book.proofs.books.Book.end.Goals as goal

pub returns-then-len-self-clause-end : goal.returns-then-len-self-clause-end
returns-then-len-self-clause-end c =
    let book = c.args.self.now in
    in_state book c.requires.running (λ state. EndsBy (setup_in book) state steps_made)
    (by_steps book c.requires.kept c.requires.running c.requires.none_open c.requires.uncut (sym c.len.ensures ∙ c.if-len-self.true))

pub returns-in_default-clause-end : goal.returns-in_default-clause-end
returns-in_default-clause-end c =
    let book = c.args.self.now in
    let below = claims_below (setup_in book) book.standing c.requires.running.at c.requires.kept.playable (λ all. c.if-len-self.false (c.len.ensures ∙ all)) in
    in_state book c.requires.running (λ state. EndsBy (setup_in book) state dead)
    (by_death book c.requires.kept c.requires.running c.requires.none_open c.requires.uncut below (sym c.next_time.ensures.next ∙ c.in_default.is))

pub returns-then-self-time-clause-end : goal.returns-then-self-time-clause-end
returns-then-self-time-clause-end c =
    let book = c.args.self.now in
    let below = claims_below (setup_in book) book.standing c.requires.running.at c.requires.kept.playable (λ all. c.if-len-self.false (c.len.ensures ∙ all)) in
    let next : next_time (index_in book) ≡ Some c.in-Some.time = sym c.next_time.ensures.next ∙ c.in-Some.is in
    in_state book c.requires.running (λ state. EndsBy (setup_in book) state (until_passed c.in-Some.time))
    (by_time book c.requires.kept c.requires.running c.requires.none_open c.requires.uncut below c.in-Some.time next c.if-self-time.true)

pub returns-else-self-time-clause-end : goal.returns-else-self-time-clause-end
returns-else-self-time-clause-end c =
    let book = c.args.self.now in
    let below = claims_below (setup_in book) book.standing c.requires.running.at c.requires.kept.playable (λ all. c.if-len-self.false (c.len.ensures ∙ all)) in
    let next : next_time (index_in book) ≡ Some c.in-Some.time = sym c.next_time.ensures.next ∙ c.in-Some.is in
    in_state book c.requires.running (λ state. (cause : PlainEnd) → EndsBy (setup_in book) state cause → ⊥)
    (by_none book c.requires.kept c.requires.running c.requires.none_open c.requires.uncut below c.in-Some.time next c.if-self-time.false)

pub returns-else-self-time-clause-goes_on : goal.returns-else-self-time-clause-goes_on
returns-else-self-time-clause-goes_on c = λ none.
    let book = c.args.self.now in
    record {
      uncut = c.requires.uncut;
      below = claims_below (setup_in book) book.standing c.requires.running.at c.requires.kept.playable (λ all. c.if-len-self.false (c.len.ensures ∙ all));
      time = c.in-Some.time;
      next = sym c.next_time.ensures.next ∙ c.in-Some.is;
      in_time = c.if-self-time.false;
    }
