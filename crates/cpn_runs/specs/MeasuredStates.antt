-- What the monitors of a run measure in a state of it, told its committed claims. Source: own choice.
use Rattle.std.specs.Prelude.{◌≡◌, ℕ, suc, List, map, take, Some, slice_get}
use Rattle.cpn_definitions.specs.Legal.{Legal}
use Rattle.cpn_definitions.specs.Net.{PlainNet}
use Rattle.cpn_monitor.specs.MeasuredRuns.{MarkedOccurrence, MeasuredRun}
use Rattle.cpn_monitor.specs.MonitorValues.{PlainMonitorValue, values_of}
use Rattle.cpn_runs.specs.Commits.{marked_from}
use Rattle.cpn_runs.specs.HoleRun.{PlainClaim}
use Rattle.cpn_runs.specs.State.{PlainSetup, PlainState, committed_claims}

-- what monitors are told of a run up to a clock where these claims are committed
abbrev pub run_of : PlainSetup → ℕ → List PlainClaim → MeasuredRun
run_of setup clock claims = record { start = setup.start; clock = setup.clock; occurrences = marked_from setup.start claims; last_clock = clock }

-- what they are told in a state: its committed claims, up to its clock
abbrev pub measured_run : PlainSetup → PlainState → MeasuredRun
measured_run setup state = run_of setup state.clock (committed_claims setup state)

-- the values of the monitors in a state
abbrev pub values_in : PlainSetup → PlainState → List PlainMonitorValue
values_in setup state = values_of setup.net.functions setup.monitors (measured_run setup state)

-- Shown: the marking after each occurrence of a run is the one to which the occurrences up to it lead, from its start, as a legal sequence.
abbrev pub ShowsItsMarkings : PlainNet → MeasuredRun → Type 0
ShowsItsMarkings n run =
    (j : ℕ) (o : MarkedOccurrence) → slice_get run.occurrences j ≡ Some o
    → Legal n run.start run.clock (map (λ (shown : MarkedOccurrence). shown.occurrence) (take (suc j) run.occurrences)) o.after o.occurrence.time
