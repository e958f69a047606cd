-- The bounds of a run that has ended. Source: own choice.
use Rattle.std.specs.Prelude.{◌≤◌, ◌-◌, ◌^◌, length}
use Rattle.cpn_definitions.specs.Bounds.{IsBounded}
use Rattle.cpn_definitions.specs.Sound.{IsMarking}
use Rattle.cpn_runs.specs.Bounds.{HasGrown}
use Rattle.cpn_runs.specs.Run.{PlainFinished}
use Rattle.cpn_runs.specs.State.{PlainSetup}

-- A run of a setup that ends within its bounds: at a clock that it may reach, with a marking of the net's places that has fewer than 2^48
-- tokens on each, and is grown from the start by what its occurrences make.
pub record EndsInBounds (setup : PlainSetup) (run : PlainFinished) : Type 0 where
  pub in_time : run.clock ≤ setup.limits.until
  pub marking : IsMarking setup.net.places run.marking
  pub bounded : IsBounded (2 ^ 48 - 1) run.marking
  pub grown : HasGrown setup.net.places setup.start (length run.occurrences) run.marking
