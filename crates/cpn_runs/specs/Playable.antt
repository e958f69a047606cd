-- Setups that a run may start from. Source: own choice.
use Rattle.std.specs.Prelude.{◌<◌, ◌≤◌}
use Rattle.cpn_definitions.specs.Bounds.{IsBounded}
use Rattle.cpn_definitions.specs.Sound.{IsSound, IsMarking}
use Rattle.cpn_definitions.specs.Times.{last_time}
use Rattle.cpn_monitor.specs.Fitting.{FitNet}
use Rattle.cpn_runs.specs.Bounds.{most_steps, most_at_start}
use Rattle.cpn_runs.specs.State.{PlainSetup}

-- A setup that a run may start from: its net is sound, and it starts from a marking of the net's places with at most 2^47 tokens on
-- each, whatever their stamps, at a clock that it may reach, with monitors that fit the net, and with 1 to 64 seats.
pub record IsPlayable (setup : PlainSetup) : Type 0 where
  pub sound : IsSound setup.net
  pub marking : IsMarking setup.net.places setup.start
  pub bounded : IsBounded most_at_start setup.start
  pub clock : setup.clock ≤ setup.limits.until
  pub until : setup.limits.until ≤ last_time
  pub steps : setup.limits.steps ≤ most_steps
  pub monitors : FitNet setup.net setup.functions setup.monitors
  pub some_seat : 0 < setup.limits.seats
  pub few_seats : setup.limits.seats ≤ 64
