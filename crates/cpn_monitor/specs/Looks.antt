-- At what monitors look, and which of them an occurrence concerns. Source: own choice.
use Rattle.std.specs.Prelude.{◌≡◌, ℕ, ◌==◌, ◌||◌, Bool, true, List, Some, slice_get}
use Rattle.std.specs.List.{list_any}
use Rattle.cpn_definitions.specs.Net.{PlainNet, PlainArc, transition_at}
use Rattle.cpn_monitor.specs.Monitors.{PlainMonitor, PlainMeasure, counts, sizes, values, stops_by_count, stops_by_size}

-- whether one of some arcs is at the place
abbrev pub are_at : ℕ → List PlainArc → Bool
are_at p arcs = list_any (λ arc. arc.place == p) arcs

-- Beside: a place at an arc of a transition.
abbrev pub is_beside : PlainNet → ℕ → ℕ → Bool
is_beside n t p = are_at p (transition_at n t).inputs || are_at p (transition_at n t).outputs

-- At what a monitor looks: at the occurrences of a transition, or at the tokens of a place.
pub data PlainLook : Type 0 where
  at_transition : ℕ → PlainLook
  at_place : ℕ → PlainLook

abbrev pub looks_at : PlainMeasure → PlainLook
looks_at (counts t) = at_transition t
looks_at (sizes p) = at_place p
looks_at (values t e) = at_transition t
looks_at (stops_by_count t n) = at_transition t
looks_at (stops_by_size p bound n) = at_place p

-- the number is that of a monitor that looks there
pub record IsLooking (monitors : List PlainMonitor) (look : PlainLook) (number : ℕ) : Type 0 where
  pub monitor : PlainMonitor
  pub is : slice_get monitors number ≡ Some monitor
  pub looks : looks_at monitor.measure ≡ look

-- An occurrence of a transition concerns a monitor that looks at its occurrences, or at a place beside it.
abbrev pub IsConcerned : PlainNet → ℕ → PlainLook → Type 0
IsConcerned n t (at_transition u) = u ≡ t
IsConcerned n t (at_place p) = is_beside n t p ≡ true
