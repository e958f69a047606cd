-- A round is a move of the clock, if one is due, a claim and its completion.
use Rattle.std.proofs.Common.{◌≡◌, refl, ◌++◌, ap, ◌∙◌, subst, append_assoc}
use Rattle.cpn_book.specs.Books.{setup_in, journal_in}
use Rattle.cpn_book.specs.GoingAlone.{GivesNoneBack}
use Rattle.cpn_book.specs.Standings.{events_in}
use Rattle.cpn_book.specs.declared.books.Book.{Book}
use Rattle.cpn_due.specs.Due.{plain_enabled}
use Rattle.cpn_book.proofs.DrawnClaims.{drawn_as}
use Rattle.cpn_book.proofs.GoingAlone.{rounds_joined, both_give_none}
use Rattle.cpn_book.proofs.HeldSeats.{in_any_case}
use Rattle.cpn_book.proofs.PlayedRounds.{follows_round}
use Rattle.cpn_book.proofs.books.Book.play_round.Goals as goal

pub returns-clause-rounds : goal.returns-clause-rounds
returns-clause-rounds c =
    let moves = c.reach_next_time.ensures.events in
    let round = c.in_ok-play_drawn.ensures.rounds in
    let setups : setup_in c.reach_next_time.new.self ≡ setup_in c.args.self.now = ap (λ (b : Book). setup_in b) c.reach_next_time.ensures.same.book in
    let journals : events_in c.draw_claim.new.standing ≡ journal_in c.args.self.now ++ c.reach_next_time.ensures.events.0 = ap events_in c.draw_claim.ensures.same ∙ moves.1 in
    let gives_none : GivesNoneBack (setup_in c.args.self.now) (journal_in c.args.self.now ++ c.reach_next_time.ensures.events.0) c.in_ok-play_drawn.ensures.rounds.0 =
    subst (λ s. GivesNoneBack s (journal_in c.args.self.now ++ c.reach_next_time.ensures.events.0) c.in_ok-play_drawn.ensures.rounds.0) setups
    (subst (λ es. GivesNoneBack (setup_in c.reach_next_time.new.self) es c.in_ok-play_drawn.ensures.rounds.0) journals round.3) in
    in_any_case c.follow.result _ (
      moves.0 ++ round.0,
      ap events_in c.follow.ensures.standing ∙ round.1
          ∙ ap (λ es. es ++ round.0) (ap events_in c.draw_claim.ensures.same ∙ moves.1)
          ∙ append_assoc (journal_in c.args.self.now) moves.0 round.0,
      rounds_joined moves.0 round.0 moves.2 round.2,
      both_give_none (setup_in c.args.self.now) (journal_in c.args.self.now) moves.0 round.0 moves.3 gives_none,
    )

pub returns-clause-follows : goal.returns-clause-follows
returns-clause-follows c =
    let moves = c.reach_next_time.ensures.events in
    let round = c.in_ok-play_drawn.ensures.rounds in
    in_any_case c.follow.result _
    (follows_round c.args.self.now c.reach_next_time.new.self c.follow.new.self c.draw_claim.new.standing c.play_drawn.new.standing c.reach_next_time.ensures.same c.draw_claim.ensures.same c.in_ok-play_drawn.ensures.committed c.follow.ensures.same (moves.0 ++ round.0)
    (ap events_in c.follow.ensures.standing ∙ round.1 ∙ ap (λ es. es ++ round.0) (ap events_in c.draw_claim.ensures.same ∙ moves.1) ∙ append_assoc (journal_in c.args.self.now) moves.0 round.0))

pub play_drawn-requires-clause-drawn : goal.play_drawn-requires-clause-drawn
play_drawn-requires-clause-drawn c =
    drawn_as _ _ _ _ _ _ _ _ c.in-Ok.ensures.number c.in-Ok.ensures.job refl (c.in_ok-ticket.ensures.drawn (plain_enabled c.ready.result.now) c.ready.ensures.element)
