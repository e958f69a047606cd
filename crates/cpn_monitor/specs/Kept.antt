-- What is kept of a run that monitors are told. Source: own choice.
use Rattle.std.specs.Prelude.{◌≡◌, ◌⊎◌, ◌↔◌, ℕ, ◌<◌, ◌≤◌, Bool, true, false, List, [], ◌∷◌, ◌++◌, length, map, Option, Contains}
use Rattle.std.specs.List.{AllByRecursion}
use Rattle.cpn_definitions.specs.Inscription.{Functions}
use Rattle.cpn_definitions.specs.Marking.{Marking}
use Rattle.cpn_definitions.specs.Net.{PlainNet}
use Rattle.cpn_definitions.specs.Times.{last_time}
use Rattle.cpn_numbers.specs.NumberLists.{numbers_at}
use Rattle.cpn_monitor.specs.Fitting.{FitNet, IsNext}
use Rattle.cpn_monitor.specs.MeasuredRuns.{MarkedOccurrence, MeasuredRun, size_on, last_marking, with_occurrence, IsTimely}
use Rattle.cpn_monitor.specs.Monitors.{PlainMonitor, PlainMeasure, counts, sizes, values, stops_by_count, stops_by_size}
use Rattle.cpn_monitor.specs.MonitorValues.{PlainMonitorValue, values_of}
use Rattle.cpn_monitor.specs.Noted.{measured_until, IsUpTo}
use Rattle.cpn_monitor.specs.Stops.{is_within, stop_after}
use Rattle.cpn_monitor.specs.Watched.{PlainWatched, AreWatched, AreBeside}

-- What is kept: the values, each up to when an occurrence last concerned its monitor; which monitors look at what; and whether the last occurrence is
-- known to have stopped nothing.
pub record PlainMeasuring : Type 0 where
  pub values : List PlainMonitorValue
  pub watched : PlainWatched
  pub beside : List (List ℕ)
  pub is_quiet : Bool

-- the number is listed for the transition, or for a place that is listed beside it
abbrev pub IsAmongConcerned : PlainMeasuring → ℕ → ℕ → Type 0
IsAmongConcerned kept t k =
    Contains (numbers_at kept.watched.of_transition t) k
    ⊎ ((p : ℕ) × Contains (numbers_at kept.beside t) p × Contains (numbers_at kept.watched.of_place p) k)

-- these are the numbers that are listed so
abbrev pub AreConcerned : PlainMeasuring → ℕ → List ℕ → Type 0
AreConcerned kept t numbers = (k : ℕ) → Contains numbers k ↔ IsAmongConcerned kept t k

-- these are all numbers below a count
abbrev pub AreBelow : ℕ → List ℕ → Type 0
AreBelow count numbers = (k : ℕ) → Contains numbers k ↔ (k < count)

-- the values, all of them up to a clock
abbrev pub values_until : ℕ → List PlainMonitorValue → List PlainMonitorValue
values_until clock vs = map (λ (v : PlainMonitorValue). record v { measured = measured_until clock v.measured }) vs

-- a marking in which a monitor that stops by a size would not stop
abbrev pub IsUnmet : Marking → PlainMeasure → Type 0
IsUnmet m (stops_by_size p bound n) = is_within bound n (size_on p m) ≡ false
IsUnmet m (counts t) = Unit {0}
IsUnmet m (sizes p) = Unit {0}
IsUnmet m (values t e) = Unit {0}
IsUnmet m (stops_by_count t n) = Unit {0}

-- Kept of a run: up to its clock, the values are those that the monitors measure of it. Where it is quiet, no monitor that stops by a size is met in
-- the marking to which the run has come.
pub record AreKept (n : PlainNet) (funs : Functions) (monitors : List PlainMonitor) (run : MeasuredRun) (kept : PlainMeasuring) : Type 0 where
  pub timely : IsTimely run
  pub up_to : AllByRecursion (λ v. IsUpTo run.last_clock v.measured) kept.values
  pub values_are : values_until run.last_clock kept.values ≡ values_of funs monitors run
  pub watched : AreWatched monitors kept.watched
  pub beside : AreBeside n kept.watched kept.beside
  pub quiet : kept.is_quiet ≡ true → AllByRecursion (λ monitor. IsUnmet (last_marking run) monitor.measure) monitors

-- Of the monitors, which fit a net, this is kept of a run, and they may be told its next occurrence.
pub record MayNote (funs : Functions) (monitors : List PlainMonitor) (kept : PlainMeasuring) (marked : MarkedOccurrence) : Type 0 where
  pub net : PlainNet
  pub run : MeasuredRun
  pub fit : FitNet net funs monitors
  pub is_kept : AreKept net funs monitors run kept
  pub next : IsNext net run marked

-- What is kept may be brought up to a clock: nothing in it counts past that.
pub record MayClose (kept : PlainMeasuring) (clock : ℕ) : Type 0 where
  pub up_to : AllByRecursion (λ v. IsUpTo clock v.measured) kept.values
  pub in_time : clock ≤ last_time

-- Where an occurrence is noted that is the next one of a run of which this is kept, that is kept of the run with it.
abbrev pub KeepsNext : PlainNet → Functions → List PlainMonitor → MarkedOccurrence → PlainMeasuring → PlainMeasuring → Type 0
KeepsNext n funs monitors marked old new =
    (run : MeasuredRun) → AreKept n funs monitors run old → IsNext n run marked → AreKept n funs monitors (with_occurrence marked run) new

-- And the first of the monitors that stops the run after it is the one that is found.
abbrev pub FindsStop : PlainNet → Functions → List PlainMonitor → MarkedOccurrence → PlainMeasuring → Option ℕ → Type 0
FindsStop n funs monitors marked old found =
    (run : MeasuredRun) → AreKept n funs monitors run old → IsNext n run marked
    → found ≡ stop_after monitors (run.occurrences ++ marked ∷ []) (length run.occurrences)
