-- Monitors: what is to be measured of a run. Source: the monitors of CPN Tools, as far as they count; what they measure is our own choice.
use Rattle.std.specs.Prelude.{ℕ, List}
use Rattle.cpn_definitions.specs.Inscription.{PlainExpr}

-- Which numbers of tokens a monitor stops at: a number and those above it, or a number and those below it.
pub data PlainBound : Type 0 where
  at_least : PlainBound
  at_most : PlainBound

-- What a monitor measures: how often a transition occurs; how many tokens a place has; the values of an inscription at the
-- occurrences of a transition. Or after which occurrence it stops the run: the n-th of a transition; one that leaves so many tokens on
-- a place.
pub data PlainMeasure : Type 0 where
  counts : ℕ → PlainMeasure
  sizes : ℕ → PlainMeasure
  values : ℕ → PlainExpr → PlainMeasure
  stops_by_count : ℕ → ℕ → PlainMeasure
  stops_by_size : ℕ → PlainBound → ℕ → PlainMeasure

-- A monitor: its name, and what it measures.
pub record PlainMonitor : Type 0 where
  pub name : List ℕ
  pub measure : PlainMeasure
