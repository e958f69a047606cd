-- A run with an open claim has no end; what is shown is a run, which ends within its bounds.
use Rattle.std.proofs.Common.{◌<◌, refl, ap, ◌∙◌, arith}
use Rattle.std.specs.List.{count_by}
use Rattle.std.specs.Option.{is_some}
use Rattle.cpn_runs.specs.FinishedViews.{finished_view}
use Rattle.cpn_runs.specs.Run.{PlainFinished, IsRun}
use Rattle.cpn_runs.specs.Views.{end_view}
use Rattle.cpn_book.specs.Books.{setup_in}
use Rattle.cpn_book.proofs.AnsweredBooks.{open_has_no_end}
use Rattle.cpn_book.proofs.BoundedBooks.{shown_run, run_ends_in_bounds}
use Rattle.cpn_book.proofs.books.Book.finish.Goals as goal

pub returns-then-open-gt0 : goal.returns-then-open-gt0
returns-then-open-gt0 c =
    let some : 0 < count_by is_some c.args.self.standing.held.items = omega (arith, c.open.ensures.count, c.if-open-gt0.true) in
    record { answer = (c.if-self.false, refl, open_has_no_end c.args.self (c.requires.kept.running c.if-self.false) some) }

pub take_end-requires-clause-running : goal.take_end-requires-clause-running
take_end-requires-clause-running c = c.requires.kept.running c.if-self.false

pub returns-in-Some : goal.returns-in-Some
returns-in-Some c =
    let s = setup_in c.args.self in
    let f = finished_view c.ended.result in
    let run : IsRun (setup_in c.args.self) (finished_view c.ended.result) = shown_run s c.take_end.new.self (end_view c.in-Some.cause) f c.in-Some.ensures.end c.ended.ensures.shown c.take_end.ensures.setup in
    record {
      answer = (
        c.if-self.false,
        run,
        ap (λ (shown : PlainFinished). shown.journal) c.ended.ensures.shown ∙ c.take_end.ensures.journal,
        c.ended.ensures.setup ∙ c.take_end.ensures.setup,
        run_ends_in_bounds s f c.requires.kept.playable run,
      );
    }
