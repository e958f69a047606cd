-- The run that a book of a session has made is the next one; it can be printed, and has few occurrences.
use Rattle.std.proofs.Common.{◌≡◌, ◌≢◌, ◌≤◌, length, sym, ◌∙◌, subst, arith}
use Rattle.cpn_book.specs.Books.{setup_in}
use Rattle.cpn_book.specs.declared.books.Book.{Book}
use Rattle.cpn_definitions.specs.Named.{IsNamed}
use Rattle.cpn_document.specs.declared.document.Start.{Start}
use Rattle.cpn_edit.specs.Answers.{Begins}
use Rattle.cpn_edit.specs.Sessions.{PlainSession, IsNextRun}
use Rattle.cpn_edit.specs.Standing.{IsValid, run_view}
use Rattle.cpn_edit.specs.declared.sessions.Between.{Between}
use Rattle.cpn_edit.proofs.RunSessions.{setup_playable}
use Rattle.cpn_report.specs.Printable.{IsPrintable, RunsArePrintable}
use Rattle.cpn_runs.specs.Bounds.{most_steps}
use Rattle.cpn_runs.specs.FinishedViews.{setup_view, finished_view}
use Rattle.cpn_runs.specs.Phases.{PlainPhase}
use Rattle.cpn_runs.specs.Playable.{IsPlayable}
use Rattle.cpn_runs.specs.Run.{IsRun}
use Rattle.cpn_runs.specs.State.{PlainSetup, wants_memory}
use Rattle.cpn_runs.specs.declared.runs.Finished.{Finished}
use Rattle.cpn_runs.proofs.GrownRuns.{run_ends_within_limits}

pub begun_run : (s : PlainSession) (from : Start) (between : Between) (book : Book) → Begins s from between book → (finished : Finished) → setup_view finished.setup ≡ setup_in book
    → IsRun (setup_in book) (finished_view finished) → IsNextRun s from (run_view finished)
begun_run s from between book begins finished same is_run = record {
  start = begins.start;
  clock = begins.clock;
  starts_at = begins.starts_at;
  setup_is = same ∙ begins.setup_is;
  is_run = subst (λ (setup : PlainSetup). IsRun setup (finished_view finished)) (sym same) is_run;
}

module _ (s : PlainSession) (valid : IsValid s) (from : Start) (run : PlainPhase) (next : IsNextRun s from run) where
  its_playable : IsPlayable run.setup
  its_playable = subst IsPlayable (sym next.setup_is) (setup_playable s valid from next.start next.clock next.starts_at)

  pub its_few : length run.run.occurrences ≤ most_steps
  its_few =
      let few = (run_ends_within_limits run.setup run.run its_playable next.is_run).few_occurrences in
      let steps = its_playable.steps in
      omega (arith, few, steps)

  pub its_printable : RunsArePrintable → run.run.cause ≢ wants_memory → IsPrintable run.setup.net run.run
  its_printable printable ends =
      printable run.setup run.run (record { sound = its_playable.sound; named = subst (λ (setup : PlainSetup). IsNamed setup.net) (sym next.setup_is) valid.ready.named }) its_playable.marking next.is_run ends
