-- What the report is told is the run, and what the probes are told are its occurrences.
use Rattle.std.proofs.Common.{◌++◌, List, [], ◌∷◌, map, subst}
use Rattle.cpn_core.specs.Occurrences.{occurrence_view}
use Rattle.cpn_core.specs.declared.occurrences.Occurrence.{Occurrence}
use Rattle.cpn_probe.specs.Told.{AreTold}
use Rattle.cpn_report.specs.Tells.{Tells}
use Rattle.cpn_report.specs.declared.starts.Start.{Start}
use Rattle.cpn_runs.specs.FinishedViews.{setup_view, finished_view}
use Rattle.cpn_simulation.proofs.phases.tell_run.Goals as goal

pub returns-clause-is_told : goal.returns-clause-is_told
returns-clause-is_told g c = λ trace tolds tells.
    let finished = c.args.finished.now in
    subst (λ (start : Start). Tells trace (tolds ++ record { start = start; setup = setup_view finished.setup; run = finished_view finished } ∷ []) c.tell.new.self) c.shown_start.ensures.shown (c.in_ok-tell.ensures.tells trace tolds tells)

pub returns-clause-are_told : goal.returns-clause-are_told
returns-clause-are_told g c = subst (λ (os : List Occurrence). AreTold g.P.Probe.Notes c.args.probes.now.items (map occurrence_view os) c.tell_all.new.probes.items) c.as_slice.ensures.value c.in_ok-tell_all.ensures.told
