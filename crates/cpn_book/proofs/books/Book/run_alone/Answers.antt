-- What is shown at the end is a run, which ends within its bounds, and for want of memory only where a cut for that stood before.
use Rattle.std.proofs.Common.{sym, ap, ◌∙◌, subst}
use Rattle.cpn_runs.specs.Run.{PlainFinished}
use Rattle.cpn_runs.specs.Views.{end_view}
use Rattle.cpn_runs.specs.FinishedViews.{finished_view}
use Rattle.cpn_book.specs.Books.{setup_in, journal_in}
use Rattle.cpn_book.specs.GoingAlone.{GoesOnAloneTo}
use Rattle.cpn_book.proofs.BoundedBooks.{shown_run, run_ends_in_bounds}
use Rattle.cpn_book.proofs.EndedAlone.{ends_alone_for_memory}
use Rattle.cpn_book.proofs.books.Book.run_alone.Goals as goal

pub returns-clause-run : goal.returns-clause-run
returns-clause-run c =
    shown_run (setup_in c.args.self) c.play_to_end.new.self (end_view c.in_ok-cause.cause) (finished_view c.ended.result) c.in_ok-cause.ensures.end c.ended.ensures.shown c.in_ok-cause.ensures.setup

pub returns-clause-goes_on : goal.returns-clause-goes_on
returns-clause-goes_on c =
    subst (GoesOnAloneTo (setup_in c.args.self) (journal_in c.args.self)) (sym (ap (λ (shown : PlainFinished). shown.journal) c.ended.ensures.shown)) c.in_ok-cause.ensures.goes_on

pub returns-clause-bounds : goal.returns-clause-bounds
returns-clause-bounds c =
    let run = shown_run (setup_in c.args.self) c.play_to_end.new.self (end_view c.in_ok-cause.cause) (finished_view c.ended.result) c.in_ok-cause.ensures.end c.ended.ensures.shown c.in_ok-cause.ensures.setup in
    run_ends_in_bounds (setup_in c.args.self) (finished_view c.ended.result) c.requires.kept.playable run

pub returns-clause-ends_for_memory : goal.returns-clause-ends_for_memory
returns-clause-ends_for_memory c =
    let run = shown_run (setup_in c.args.self) c.play_to_end.new.self (end_view c.in_ok-cause.cause) (finished_view c.ended.result) c.in_ok-cause.ensures.end c.ended.ensures.shown c.in_ok-cause.ensures.setup in
    let goes_on = subst (GoesOnAloneTo (setup_in c.args.self) (journal_in c.args.self)) (sym (ap (λ (shown : PlainFinished). shown.journal) c.ended.ensures.shown)) c.in_ok-cause.ensures.goes_on in
    ends_alone_for_memory (setup_in c.args.self) (journal_in c.args.self) (finished_view c.ended.result) goes_on run
