-- The claim that the seat holds is completed; or it holds no such claim.
use Rattle.std.proofs.Common.{◌≡◌, List, [], ◌++◌, Some, refl, sym, ap, ◌∙◌}
use Rattle.std.proofs.lemmas.List.{append-nil}
use Rattle.cpn_jobs.specs.Views.{job_view}
use Rattle.cpn_runs.specs.State.{PlainEvent}
use Rattle.cpn_book.specs.Answers.{AnswersCompletion}
use Rattle.cpn_book.specs.Books.{setup_in, journal_in}
use Rattle.cpn_book.specs.Tickets.{evaluated_number, evaluated_job}
use Rattle.cpn_book.specs.declared.answers.Completed.TheVariants as completions
use Rattle.cpn_book.proofs.AnsweredCompletions.{held_answers}
use Rattle.cpn_book.proofs.HeldJobs.{held_behind}
use Rattle.cpn_book.proofs.OpenNumbers.{held_below}
use Rattle.cpn_book.proofs.PlayedRounds.{follows_itself}
use Rattle.cpn_book.proofs.RefusedClaims.{of_another}
use Rattle.cpn_book.proofs.RunningBooks.{in_state}
use Rattle.cpn_book.proofs.books.Book.complete_uncut.Goals as goal

pub is_held-requires : goal.is_held-requires
is_held-requires c = record { behind = held_behind (setup_in c.args.self.now) c.args.self.now.standing c.requires.running.at; within = held_below (setup_in c.args.self.now) c.args.self.now.standing c.requires.running.at }

pub returns-then-is_held-clause-answer : goal.returns-then-is_held-clause-answer
returns-then-is_held-clause-answer c =
    held_answers c.args.self.now c.requires.running c.args.seat c.args.done c.requires.uncut c.requires.kept.playable (c.is_held.ensures.held c.if-is_held.true)
    (c.is_held.ensures.job c.if-is_held.true ∙ ap (λ job. Some (job_view job)) c.deref.ensures)
    c.complete_held.new.self c.complete_held.ensures.follows.setup c.complete_held.result c.complete_held.ensures.done c.complete_held.ensures.running c.complete_held.ensures.events

pub returns-clause-answer : goal.returns-clause-answer
returns-clause-answer c =
    let book = c.args.self.now in
    in_state book c.requires.running (λ state. (events : List PlainEvent) × (journal_in book ≡ journal_in book ++ events) × AnswersCompletion (setup_in book) state c.args.seat c.args.done events (completions.Stranger c.in_ok-kept.kept c.args.done))
    ([], sym (append-nil (journal_in book)), (refl, refl, of_another book c.requires.running c.args.seat (evaluated_number c.args.done) (evaluated_job c.args.done) c.requires.uncut (λ held job. c.is_held.ensures.not_held c.if-is_held.false held (job ∙ ap (λ j. Some (job_view j)) (sym c.deref.ensures))) (λ job. job.value) c.in_ok-kept.kept c.in_ok-kept.ensures.job))

pub returns-clause-follows : goal.returns-clause-follows
returns-clause-follows c = follows_itself c.args.self.now c.requires.kept

pub returns-in_err-kept-clause-follows : goal.returns-in_err-kept-clause-follows
returns-in_err-kept-clause-follows c = follows_itself c.args.self.now c.requires.kept
