-- Where a run stands between two events, as a book keeps it: its claims in a log, and of each seat the claim that it holds.
-- Source: own choice.
use Rattle.std.specs.Prelude.{◌≡◌, ℕ, List, [], Option, None, length, take}
use Rattle.cpn_runs.specs.Commits.{marked_from, stop_at_last, committed_from}
use Rattle.cpn_runs.specs.State.{PlainSetup, PlainEvent, PlainState, IsState, committed, owed_cut}
use Rattle.cpn_book.specs.Held.{AreHeld}
use Rattle.cpn_log.specs.Kept.{IsKept}
use Rattle.cpn_book.specs.Logged.{HasClaims}
use Rattle.cpn_log.specs.Logs.{PlainLog}

-- The journal leads to the state, whose claims are those of the log; each that the log has committed is committed; and the seats hold what they have
-- open. So it is within a completion, too, before what can be committed is committed.
pub record IsTold (setup : PlainSetup) (journal : List PlainEvent) (state : PlainState) (log : PlainLog) (held : List (Option ℕ)) : Type 0 where
  pub reached : IsState setup journal state
  pub has : HasClaims setup.start state.claims log
  pub all_in : committed_from setup.monitors [] setup.start (take (length log.committed) state.claims) ≡ length log.committed
  pub kept : IsKept log
  pub holds : AreHeld setup.limits.seats state.claims held

-- the first of the monitors that stops the run after the last claim that the log has committed, if one does
abbrev pub stop_behind : PlainSetup → PlainState → PlainLog → Option ℕ
stop_behind setup state log = stop_at_last setup.monitors (marked_from setup.start (take (length log.committed) state.claims))

-- none does
abbrev pub NoneStops : PlainSetup → PlainState → PlainLog → Type 0
NoneStops setup state log = stop_behind setup state log ≡ None

-- Between two events all that can be committed is committed, and no cut is owed.
pub record StandsAt (setup : PlainSetup) (journal : List PlainEvent) (state : PlainState) (log : PlainLog) (held : List (Option ℕ)) : Type 0 where
  pub told : IsTold setup journal state log held
  pub all_committed : committed setup state ≡ length log.committed
  pub none_owed : owed_cut setup state ≡ None
