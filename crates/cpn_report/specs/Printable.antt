-- Which nets and runs can be printed. Source: own choice.
use Rattle.std.specs.Prelude.{◌≡◌, ◌≢◌, ℕ, ◌<◌, Bool, true, ◌&&◌, nat_lt, List, length}
use Rattle.std.specs.List.{list_all}
use Rattle.cpn_definitions.specs.Value.{PlainValue}
use Rattle.cpn_definitions.specs.Colour.{admits}
use Rattle.cpn_definitions.specs.Net.{PlainNet, variable_at, transition_at}
use Rattle.cpn_definitions.specs.Named.{IsNamed}
use Rattle.cpn_definitions.specs.Occurrence.{PlainElement, binds}
use Rattle.cpn_definitions.specs.Sound.{IsSound, IsMarking}
use Rattle.cpn_definitions.specs.Legal.{PlainOccurrence}
use Rattle.cpn_monitor.specs.MonitorValues.{PlainMonitorValue}
use Rattle.cpn_runs.specs.State.{PlainSetup, PlainEnd, dead, steps_made, until_passed, fault_end, stopped_by, wants_memory}
use Rattle.cpn_runs.specs.Run.{PlainFinished, IsRun}

-- The net is sound, and has the names of the colour sets of its places and variables.
pub record IsPrintableNet (n : PlainNet) : Type 0 where
  pub sound : IsSound n
  pub named : IsNamed n

-- whether a pair is of a variable of the net and a value of its colour set
abbrev pub is_bound : PlainNet → ℕ × PlainValue → Bool
is_bound n pair = nat_lt pair.0 (length n.variables) && admits (variable_at n pair.0).colour pair.1

-- Binding element: its transition is one of the net, and its binding gives each of the variables an admitted value. Its
-- guard may be false.
abbrev pub is_binding_element : PlainNet → PlainElement → Bool
is_binding_element n e = nat_lt e.transition (length n.transitions) && binds n (transition_at n e.transition).vars e.binding

-- whether an occurrence is of a binding element
abbrev pub is_occurrence : PlainNet → PlainOccurrence → Bool
is_occurrence n o = is_binding_element n o.element

-- the element that the cause of an end tells, if it does, is a binding element, and its monitor has one of the values; want of memory is not told
abbrev pub IsCause : PlainNet → List PlainMonitorValue → PlainEnd → Type 0
IsCause n values dead = Unit {0}
IsCause n values steps_made = Unit {0}
IsCause n values (until_passed time) = Unit {0}
IsCause n values (stopped_by monitor) = monitor < length values
IsCause n values (fault_end e fault) = is_binding_element n e ≡ true
IsCause n values wants_memory = ⊥

-- The occurrences and the last marking of the run can be printed, whatever ends it: each value in them is one of the colour set of its
-- variable or its place. Its journal, and what its monitors measured, ask for nothing.
pub record IsPrintableInPart (n : PlainNet) (run : PlainFinished) : Type 0 where
  pub occurrences : list_all (is_occurrence n) run.occurrences ≡ true
  pub marking : IsMarking n.places run.marking

-- The report of the run can be printed: these can, and each value has its names in the net; the monitor that stopped it, if one did, has
-- a value; and it does not end for want of memory.
pub record IsPrintable (n : PlainNet) (run : PlainFinished) : Type 0 where
  pub net : IsPrintableNet n
  pub parts : IsPrintableInPart n run
  pub cause : IsCause n run.values run.cause

-- Each run of a printable net, from a marking of its places, is printable in part.
abbrev pub RunsArePrintableInPart : Type 0
RunsArePrintableInPart = (setup : PlainSetup) (run : PlainFinished) → IsPrintableNet setup.net → IsMarking setup.net.places setup.start → IsRun setup run → IsPrintableInPart setup.net run

-- The whole report of such a run can be printed, unless it ends for want of memory.
abbrev pub RunsArePrintable : Type 0
RunsArePrintable = (setup : PlainSetup) (run : PlainFinished) → IsPrintableNet setup.net → IsMarking setup.net.places setup.start → IsRun setup run → run.cause ≢ wants_memory → IsPrintable setup.net run
