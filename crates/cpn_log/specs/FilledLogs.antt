-- What it does to a log that one of its claims, which was open, is filled with outputs. Source: own choice.
use Rattle.std.specs.Prelude.{◌≡◌, ℕ, List}
use Rattle.cpn_definitions.specs.Marking.{Marking}
use Rattle.cpn_definitions.specs.Occurrence.{Made, add_made}
use Rattle.cpn_runs.specs.Filling.{filled_run, IsLeftFor, EachTwo}
use Rattle.cpn_log.specs.Logs.{PlainLog, run_behind}

-- One token more for each output: of its value and on its place, and not later than it.
pub record HasOneMoreEach (outputs : List Made) (old new : Marking) : Type 0 where
  pub tokens : List Made
  pub each : EachTwo IsLeftFor outputs tokens
  pub is : new ≡ add_made tokens old

-- Filled: the run of the claims is filled where the claim at a position stands, so the picks of the claims behind it are those that
-- the outputs were carried past, and the unclaimed marking has one token more for each output.
pub record IsFilledAt (position : ℕ) (outputs : List Made) (old new : PlainLog) : Type 0 where
  pub run : run_behind new ≡ filled_run position outputs (run_behind old)
  pub more : HasOneMoreEach outputs old.unclaimed new.unclaimed
