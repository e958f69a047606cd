-- What a run that has ended shows. Source: own choice.
use Rattle.std.specs.Prelude.{◌≡◌, ℕ, true, List, length, map, Option, Some}
use Rattle.cpn_definitions.specs.Marking.{Marking}
use Rattle.cpn_definitions.specs.Net.{PlainNet}
use Rattle.cpn_definitions.specs.Outcome.{faults}
use Rattle.cpn_definitions.specs.Occurrence.{covered, outputs_of}
use Rattle.cpn_definitions.specs.Legal.{PlainOccurrence, timed, Legal}
use Rattle.cpn_definitions.specs.Enabled.{PlainEntry, Enabled, ready, next_time}
use Rattle.cpn_monitor.specs.MonitorValues.{PlainMonitorValue}
use Rattle.cpn_runs.specs.MeasuredStates.{values_in}
use Rattle.cpn_runs.specs.State.{PlainSetup, PlainEvent, PlainEnd, dead, steps_made, until_passed, fault_end, stopped_by, wants_memory, PlainState, IsState, EndsBy, committed_occurrences, settled_in, stop_in}

-- The number of the ready elements of a marking at a clock, and the next time.
pub record Outlook : Type 0 where
  pub ready_count : ℕ
  pub next : Option ℕ

-- the outlook of the list of enabled elements
pub record HasOutlook (setup : PlainSetup) (marking : Marking) (clock : ℕ) (outlook : Outlook) : Type 0 where
  pub entries : List PlainEntry
  pub enabled : Enabled setup.net marking clock entries
  pub ready_count_is : outlook.ready_count ≡ length (ready clock entries)
  pub next_is : outlook.next ≡ next_time entries

-- What a run shows when it has ended: the outlook at its start, its journal, its committed occurrences, its last marking
-- and clock, the cause of its end, the outlook at its end, and what its monitors measured.
pub record PlainFinished : Type 0 where
  pub opening : Outlook
  pub journal : List PlainEvent
  pub occurrences : List PlainOccurrence
  pub marking : Marking
  pub clock : ℕ
  pub cause : PlainEnd
  pub closing : Outlook
  pub values : List PlainMonitorValue

-- Where the cause is a fault of an element, the element is covered in the marking at the clock, and its outputs have the
-- fault.
abbrev pub IsTrueFault : PlainNet → Marking → ℕ → PlainEnd → Type 0
IsTrueFault n m clock dead = Unit {0}
IsTrueFault n m clock steps_made = Unit {0}
IsTrueFault n m clock (until_passed time) = Unit {0}
IsTrueFault n m clock (stopped_by monitor) = Unit {0}
IsTrueFault n m clock wants_memory = Unit {0}
IsTrueFault n m clock (fault_end e fault) = (covered n m clock e ≡ true) × (outputs_of n e clock ≡ faults fault)

-- Where the cause is a stop, its monitor is the first that stops the run after the last committed claim.
abbrev pub IsTrueStop : PlainSetup → PlainState → PlainEnd → Type 0
IsTrueStop setup state dead = Unit {0}
IsTrueStop setup state steps_made = Unit {0}
IsTrueStop setup state (until_passed time) = Unit {0}
IsTrueStop setup state (fault_end e fault) = Unit {0}
IsTrueStop setup state wants_memory = Unit {0}
IsTrueStop setup state (stopped_by monitor) = stop_in setup state ≡ Some monitor

-- A run of a setup: the journal leads to a state that ends by the cause; the occurrences are those that are committed
-- there, and are a legal occurrence sequence from the start to the marking and the clock, which are the state's; where the
-- cause is a fault, its element has it there, and where it is a stop, its monitor stops the run there; the outlooks are those of the marking and the clock at the start and at
-- the end; and the values are those of the monitors in the state.
pub record IsRun (setup : PlainSetup) (run : PlainFinished) : Type 0 where
  pub state : PlainState
  pub reached : IsState setup run.journal state
  pub ends : EndsBy setup state run.cause
  pub occurrences_are : run.occurrences ≡ committed_occurrences setup state
  pub marking_is : settled_in setup state ≡ Some run.marking
  pub clock_is : run.clock ≡ state.clock
  pub legal : Legal setup.net setup.start setup.clock (map timed run.occurrences) run.marking run.clock
  pub true_fault : IsTrueFault setup.net run.marking run.clock run.cause
  pub true_stop : IsTrueStop setup state run.cause
  pub opening : HasOutlook setup setup.start setup.clock run.opening
  pub closing : HasOutlook setup run.marking run.clock run.closing
  pub values_are : run.values ≡ values_in setup state
