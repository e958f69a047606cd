-- What is noted is kept of the run with the occurrence.
use Rattle.std.proofs.Common.{subst}
use Rattle.std.proofs.lemmas.Result.{on_ok_weaker}
use Rattle.cpn_core.specs.Inscriptions.{funs_view}
use Rattle.cpn_definitions.specs.Marking.{Marking}
use Rattle.cpn_log.specs.LogViews.{log_view}
use Rattle.cpn_monitor.specs.Kept.{KeepsNext}
use Rattle.cpn_monitor.specs.Views.{monitors_view, measuring_view, marked_view}
use Rattle.cpn_monitor.specs.declared.monitors.Monitors.{Monitors}
use Rattle.cpn_runs.specs.FinishedViews.{setup_view}
use Rattle.cpn_book.proofs.committing.note_last.Goals as goal

pub returns-clause-measured : goal.returns-clause-measured
returns-clause-measured c =
    let setup = setup_view c.args.setup.now in
    let old = c.args.standing.now in
    let Keeps : Monitors → Marking → Type 0 = λ d m. KeepsNext setup.net (funs_view d.funs.value) (monitors_view d) (marked_view c.args.occurrence m) (measuring_view old.measuring) (measuring_view c.note-noted.new.measuring) in
    on_ok_weaker c.note-noted.result (λ each.
    subst (λ (d : Monitors). Keeps d (log_view old.log).settled) c.deref.ensures
    (subst (λ (m : Marking). Keeps c.deref.result.now m) c.settled.ensures
    (each setup.net))) c.note-noted.ensures.noted
