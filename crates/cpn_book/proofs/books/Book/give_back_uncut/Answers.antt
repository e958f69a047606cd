-- The claim that the seat holds is given back; or it holds no such claim.
use Rattle.std.proofs.Common.{◌≡◌, ℕ, List, [], ◌∷◌, ◌++◌, Some, refl, sym, ap, ◌∙◌, subst, slice_get}
use Rattle.std.specs.Option.{option_map}
use Rattle.std.specs.Prelude.{MatchOption}
use Rattle.std.proofs.lemmas.List.{append-nil}
use Rattle.cpn_jobs.specs.Views.{job_view}
use Rattle.cpn_log.specs.Logs.{standings, stands_open}
use Rattle.cpn_log.specs.LogViews.{log_view, job_in}
use Rattle.cpn_runs.specs.State.{PlainEvent, cut_made}
use Rattle.cpn_book.specs.Answers.{AnswersGivingBack}
use Rattle.cpn_book.specs.Books.{setup_in, journal_in}
use Rattle.cpn_book.specs.Tickets.{number_of, job_of}
use Rattle.cpn_book.specs.declared.answers.GivenBack.TheVariants as returns
use Rattle.cpn_book.proofs.AnsweredTickets.{cut_answer}
use Rattle.cpn_book.proofs.HeldJobs.{held_behind}
use Rattle.cpn_book.proofs.OpenNumbers.{held_below}
use Rattle.cpn_book.proofs.PlayedRounds.{follows_itself}
use Rattle.cpn_book.proofs.RefusedClaims.{of_another}
use Rattle.cpn_book.proofs.RunningBooks.{in_state}
use Rattle.cpn_book.proofs.books.Book.give_back_uncut.Goals as goal

pub is_held-requires : goal.is_held-requires
is_held-requires c = record { behind = held_behind (setup_in c.args.self.now) c.args.self.now.standing c.requires.running.at; within = held_below (setup_in c.args.self.now) c.args.self.now.standing c.requires.running.at }

pub returns-then-is_held-clause-answer : goal.returns-then-is_held-clause-answer
returns-then-is_held-clause-answer c =
    cut_answer c.args.self.now c.requires.running c.args.seat c.args.ticket c.requires.uncut (c.is_held.ensures.held c.if-is_held.true ∙ ap (λ k. Some (Some k)) c.number-number.ensures.number)
    (ap (λ k. option_map job_view (job_in c.args.self.now.standing.log k)) (sym c.number-number.ensures.number) ∙ c.is_held.ensures.job c.if-is_held.true ∙ ap Some c.job.ensures.job)
    c.give_back_held.new.self c.give_back_held.ensures.follows.setup c.in_ok-give_back_held.ensures.running (c.in_ok-give_back_held.ensures.events ∙ ap (λ k. journal_in c.args.self.now ++ cut_made k ∷ []) c.number-number.ensures.number)

pub returns-clause-answer : goal.returns-clause-answer
returns-clause-answer c =
    let book = c.args.self.now in
    let number = c.number-number.ensures.number in
    let not_held : slice_get c.args.self.now.standing.held.items c.args.seat ≡ Some (Some (number_of c.args.ticket)) → option_map job_view (job_in c.args.self.now.standing.log (number_of c.args.ticket)) ≡ Some (job_of c.args.ticket) → ⊥ = λ held job.
    c.is_held.ensures.not_held c.if-is_held.false (held ∙ ap (λ k. Some (Some k)) (sym c.number-number.ensures.number)) (ap (λ k. option_map job_view (job_in c.args.self.now.standing.log k)) c.number-number.ensures.number ∙ job ∙ ap Some (sym c.job.ensures.job)) in
    let kept = subst (λ (k : ℕ). MatchOption c.in_ok-kept.kept (slice_get (standings (log_view c.args.self.now.standing.log)) k ≡ Some stands_open → ⊥) (λ job. (slice_get (standings (log_view c.args.self.now.standing.log)) k ≡ Some stands_open) × (job_in c.args.self.now.standing.log k ≡ Some job.value))) number c.in_ok-kept.ensures.job in
    in_state book c.requires.running (λ state. (events : List PlainEvent) × (journal_in book ≡ journal_in book ++ events) × AnswersGivingBack (setup_in book) state c.args.seat c.args.ticket events (returns.Stranger c.in_ok-kept.kept c.args.ticket))
    ([], sym (append-nil (journal_in book)), (refl, refl, of_another book c.requires.running c.args.seat (number_of c.args.ticket) (job_of c.args.ticket) c.requires.uncut not_held (λ job. job.value) c.in_ok-kept.kept kept))

pub returns-clause-follows : goal.returns-clause-follows
returns-clause-follows c = follows_itself c.args.self.now c.requires.kept

pub returns-in_err-kept-clause-follows : goal.returns-in_err-kept-clause-follows
returns-in_err-kept-clause-follows c = follows_itself c.args.self.now c.requires.kept
