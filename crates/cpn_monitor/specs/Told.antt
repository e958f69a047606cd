-- What is kept of a run, said of the program's monitors, occurrences and markings. Source: own choice.
use Rattle.std.specs.Prelude.{◌≡◌, ℕ, ◌≤◌, List, Option}
use Rattle.std.specs.List.{AllByRecursion}
use Rattle.cpn_core.specs.Inscriptions.{funs_view}
use Rattle.cpn_core.specs.declared.occurrences.Occurrence.{Occurrence}
use Rattle.cpn_definitions.specs.Marking.{Marking}
use Rattle.cpn_definitions.specs.Net.{PlainNet}
use Rattle.cpn_monitor.specs.Kept.{AreKept, MayNote, KeepsNext, FindsStop}
use Rattle.cpn_monitor.specs.MeasuredRuns.{MeasuredRun, at_clock}
use Rattle.cpn_monitor.specs.MonitorValues.{values_of}
use Rattle.cpn_monitor.specs.Noted.{MayNoteAt, PlainNoted, IsNoted, stops_number, IsLeastOf}
use Rattle.cpn_monitor.specs.Views.{measuring_view, monitors_view, values_view, marked_view}
use Rattle.cpn_monitor.specs.declared.measuring.Measuring.{Measuring}
use Rattle.cpn_monitor.specs.declared.monitors.Monitors.{Monitors}
use Rattle.cpn_monitor.specs.declared.values.Values14.{Values14}

-- this is kept of a run of a net
abbrev pub IsKeptOf : PlainNet → Monitors → MeasuredRun → Measuring → Type 0
IsKeptOf n monitors run measuring = AreKept n (funs_view monitors.funs.value) (monitors_view monitors) run (measuring_view measuring)

-- the occurrence, after which the marking is this, may be noted
abbrev pub MayBeTold : Monitors → Measuring → Occurrence → Marking → Type 0
MayBeTold monitors measuring o after = MayNote (funs_view monitors.funs.value) (monitors_view monitors) (measuring_view measuring) (marked_view o after)

-- it may be noted by each of the monitors of some numbers
abbrev pub MayBeNotedBy : Monitors → Values14 → Occurrence → Marking → List ℕ → Type 0
MayBeNotedBy monitors values o after numbers =
    AllByRecursion (MayNoteAt (funs_view monitors.funs.value) (marked_view o after) (monitors_view monitors) (values_view values)) numbers

-- this is what monitors have measured with it, after these values
abbrev pub AreNoted : Monitors → Values14 → Occurrence → Marking → List PlainNoted → Type 0
AreNoted monitors values o after noted =
    AllByRecursion (IsNoted (funs_view monitors.funs.value) (marked_view o after) (monitors_view monitors) (values_view values)) noted

-- the first of the monitors of some numbers that has measured these values and stops the run after it
abbrev pub IsFirstStop : Monitors → Values14 → Occurrence → Marking → List ℕ → Option ℕ → Type 0
IsFirstStop monitors values o after = IsLeastOf (stops_number (marked_view o after) (monitors_view monitors) (values_view values))

-- where it is the next one of a run of which the old is kept, the new is kept of the run with it
abbrev pub KeepsTold : PlainNet → Monitors → Occurrence → Marking → Measuring → Measuring → Type 0
KeepsTold n monitors o after old new =
    KeepsNext n (funs_view monitors.funs.value) (monitors_view monitors) (marked_view o after) (measuring_view old) (measuring_view new)

-- and this is the first monitor that stops the run after it
abbrev pub StopsTold : PlainNet → Monitors → Occurrence → Marking → Measuring → Option ℕ → Type 0
StopsTold n monitors o after old stop =
    FindsStop n (funs_view monitors.funs.value) (monitors_view monitors) (marked_view o after) (measuring_view old) stop

-- the values of a run at a clock
abbrev pub AreOf : Monitors → MeasuredRun → Values14 → Type 0
AreOf monitors run values = values_view values ≡ values_of (funs_view monitors.funs.value) (monitors_view monitors) run

-- Closed: the values are those of each run of which that is kept, at the clock.
abbrev pub AreClosed : Monitors → Measuring → ℕ → Values14 → Type 0
AreClosed monitors measuring clock values =
    (n : PlainNet) (run : MeasuredRun) → IsKeptOf n monitors run measuring → run.last_clock ≤ clock → AreOf monitors (at_clock clock run) values
