-- Which monitors look at what, as lists of numbers. Source: own choice.
use Rattle.std.specs.Prelude.{◌≡◌, ◌⊎◌, ◌↔◌, ℕ, ◌<◌, true, List, length, Contains}
use Rattle.cpn_definitions.specs.Net.{PlainNet, PlainArc}
use Rattle.cpn_numbers.specs.NumberLists.{numbers_at}
use Rattle.cpn_monitor.specs.Looks.{PlainLook, at_transition, at_place, IsLooking, are_at, is_beside}
use Rattle.cpn_monitor.specs.Monitors.{PlainMonitor}

-- the monitors of each transition and of each place, by their numbers
pub record PlainWatched : Type 0 where
  pub of_transition : List (List ℕ)
  pub of_place : List (List ℕ)

-- Watched: of each transition just the monitors that look at its occurrences, and of each place just those that look at its tokens.
pub record AreWatched (monitors : List PlainMonitor) (w : PlainWatched) : Type 0 where
  pub of_transition : (t number : ℕ) → Contains (numbers_at w.of_transition t) number ↔ IsLooking monitors (at_transition t) number
  pub of_place : (p number : ℕ) → Contains (numbers_at w.of_place p) number ↔ IsLooking monitors (at_place p) number

-- Beside each transition are listed just the places at its arcs at which a monitor looks.
pub record AreBeside (n : PlainNet) (w : PlainWatched) (beside : List (List ℕ)) : Type 0 where
  pub each : (t p number : ℕ) → is_beside n t p ≡ true → Contains (numbers_at w.of_place p) number → Contains (numbers_at beside t) p
  pub only : (t p : ℕ) → Contains (numbers_at beside t) p → is_beside n t p ≡ true

-- ---- one more

-- what a monitor looks at has a list
abbrev pub IsKnown : PlainWatched → PlainLook → Type 0
IsKnown w (at_transition t) = t < length w.of_transition
IsKnown w (at_place p) = p < length w.of_place

-- the monitor of a number more, which looks there
pub record WatchesMore (look : PlainLook) (number : ℕ) (old new : PlainWatched) : Type 0 where
  pub transitions : length new.of_transition ≡ length old.of_transition
  pub places : length new.of_place ≡ length old.of_place
  pub of_transition : (t k : ℕ) → Contains (numbers_at new.of_transition t) k
      ↔ (Contains (numbers_at old.of_transition t) k ⊎ ((at_transition t ≡ look) × (k ≡ number)))
  pub of_place : (p k : ℕ) → Contains (numbers_at new.of_place p) k
      ↔ (Contains (numbers_at old.of_place p) k ⊎ ((at_place p ≡ look) × (k ≡ number)))

-- a transition more at the places of arcs at which a monitor looks
pub record TouchMore (w : PlainWatched) (arcs : List PlainArc) (t : ℕ) (old new : List (List ℕ)) : Type 0 where
  pub places : length new ≡ length old
  pub kept : (p k : ℕ) → Contains (numbers_at old p) k → Contains (numbers_at new p) k
  pub each : (p number : ℕ) → are_at p arcs ≡ true → Contains (numbers_at w.of_place p) number → Contains (numbers_at new p) t
  pub only : (p k : ℕ) → Contains (numbers_at new p) k → Contains (numbers_at old p) k ⊎ ((are_at p arcs ≡ true) × (k ≡ t))
