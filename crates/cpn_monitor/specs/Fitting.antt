-- When monitors fit a net, and an occurrence may be told to them. Source: own choice.
use Rattle.std.specs.Prelude.{◌≡◌, ℕ, ◌-◌, ◌<◌, ◌≤◌, ◌^◌, true, false, List, length}
use Rattle.std.specs.List.{AllByRecursion}
use Rattle.cpn_definitions.specs.Bounds.{IsBounded}
use Rattle.cpn_definitions.specs.Inscription.{PlainExpr, Functions}
use Rattle.cpn_definitions.specs.Marking.{Marking}
use Rattle.cpn_definitions.specs.Meaning.{meaning}
use Rattle.cpn_definitions.specs.Net.{PlainNet, PlainTransition, transition_at}
use Rattle.cpn_definitions.specs.Occurrence.{binds}
use Rattle.cpn_definitions.specs.Outcome.{Outcome, gives, faults, no_meaning}
use Rattle.cpn_definitions.specs.Times.{last_time}
use Rattle.cpn_definitions.specs.Value.{PlainValue, unit, boolean, int, constant, text, tuple, bare, applied, list}
use Rattle.cpn_monitor.specs.Monitors.{PlainMonitor, PlainMeasure, counts, sizes, values, stops_by_count, stops_by_size}
use Rattle.cpn_monitor.specs.Looks.{is_beside}
use Rattle.cpn_monitor.specs.MeasuredRuns.{MarkedOccurrence, MeasuredRun, size_on, last_marking}

-- an integer, or a fault
abbrev pub MeansInteger : Outcome PlainValue → Type 0
MeansInteger (gives (int z)) = Unit {0}
MeansInteger (gives unit) = ⊥
MeansInteger (gives (boolean b)) = ⊥
MeansInteger (gives (constant k)) = ⊥
MeansInteger (gives (text bytes)) = ⊥
MeansInteger (gives (tuple vs)) = ⊥
MeansInteger (gives (bare k)) = ⊥
MeansInteger (gives (applied k v)) = ⊥
MeansInteger (gives (list vs)) = ⊥
MeansInteger (faults fault) = Unit {0}
MeansInteger no_meaning = ⊥

-- An inscription over the variables of a transition: under each binding of them, at each time, it is an integer or a fault.
abbrev pub IsIntegerOver : PlainNet → PlainTransition → PlainExpr → Type 0
IsIntegerOver n t e = (b : List (ℕ × PlainValue)) (time : ℕ) → binds n t.vars b ≡ true → time ≤ last_time → MeansInteger (meaning n.functions e b time)

-- What a monitor measures is in the net: its transition or its place is, and its inscription is an integer over the variables of its transition.
abbrev pub IsMeasurable : PlainNet → PlainMeasure → Type 0
IsMeasurable n (counts t) = t < length n.transitions
IsMeasurable n (sizes p) = p < length n.places
IsMeasurable n (values t e) = (t < length n.transitions) × IsIntegerOver n (transition_at n t) e
IsMeasurable n (stops_by_count t number) = t < length n.transitions
IsMeasurable n (stops_by_size p bound number) = p < length n.places

-- Monitors fit a net: what each measures is in the net, and the functions that their inscriptions call are the net's.
pub record FitNet (n : PlainNet) (funs : Functions) (monitors : List PlainMonitor) : Type 0 where
  pub functions_are : funs ≡ n.functions
  pub measurable : AllByRecursion (λ monitor. IsMeasurable n monitor.measure) monitors

-- a marking that monitors of the net may look at: it has an entry for each place, with fewer than 2^48 tokens
pub record MayBeSeen (n : PlainNet) (m : Marking) : Type 0 where
  pub entries : length m ≡ length n.places
  pub few : IsBounded (2 ^ 48 - 1) m

-- the most occurrences of a run that monitors may be told, so that their numbers have 64 bits
abbrev pub most_told : ℕ
most_told = 2 ^ 63

-- An occurrence that may be told to monitors after a run: its binding is one of its transition's variables, its time is not before the
-- run's clock, the marking after it may be seen, a place that is at none of its transition's arcs has as many tokens as before, and fewer
-- occurrences than the most have been told.
pub record IsNext (n : PlainNet) (run : MeasuredRun) (marked : MarkedOccurrence) : Type 0 where
  pub bound : binds n (transition_at n marked.occurrence.element.transition).vars marked.occurrence.element.binding ≡ true
  pub in_order : run.last_clock ≤ marked.occurrence.time
  pub in_time : marked.occurrence.time ≤ last_time
  pub after : MayBeSeen n marked.after
  pub elsewhere : (p : ℕ) → is_beside n marked.occurrence.element.transition p ≡ false
      → size_on p marked.after ≡ size_on p (last_marking run)
  pub few : length run.occurrences < most_told
