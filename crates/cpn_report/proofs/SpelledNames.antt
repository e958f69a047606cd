-- What monitors measured in a run has their names, so these are well spelled where those of the monitors are.
use Rattle.std.proofs.Common.{refl, sym, subst, List, [], ◌∷◌}
use Rattle.std.specs.List.{list_all}
use Rattle.std.proofs.lemmas.Bool.{and_parts, and_from}
use Rattle.cpn_definitions.specs.DistinctNames.{is_path}
use Rattle.cpn_definitions.specs.Inscription.{Functions}
use Rattle.cpn_monitor.specs.MeasuredRuns.{MeasuredRun}
use Rattle.cpn_monitor.specs.MonitorValues.{PlainMonitorValue, values_of}
use Rattle.cpn_monitor.specs.Monitors.{PlainMonitor}
use Rattle.cpn_runs.specs.MeasuredStates.{measured_run}
use Rattle.cpn_runs.specs.Run.{PlainFinished, IsRun}
use Rattle.cpn_runs.specs.State.{PlainSetup}
use Rattle.cpn_report.specs.Told.{HaveSpelledNames, AreSpelled}

-- the values of a run have the names of its monitors
names_of : (funs : Functions) (run : MeasuredRun) (monitors : List PlainMonitor) → AreSpelled monitors → HaveSpelledNames (values_of funs monitors run)
names_of funs run [] spelled = refl
names_of funs run (monitor ∷ monitors) spelled =
    let parts = and_parts (is_path monitor.name) (list_all (λ (other : PlainMonitor). is_path other.name) monitors) spelled in
    and_from (is_path monitor.name) (list_all (λ (value : PlainMonitorValue). is_path value.name) (values_of funs monitors run)) parts.0 (names_of funs run monitors parts.1)

pub values_are_spelled : (setup : PlainSetup) (run : PlainFinished) → AreSpelled setup.monitors → IsRun setup run → HaveSpelledNames run.values
values_are_spelled setup run spelled is = subst HaveSpelledNames (sym is.values_are) (names_of setup.net.functions (measured_run setup is.state) setup.monitors spelled)
