-- The claims before this number are closed; the run stands where its journal leads, and what was committed stands.
use Rattle.std.proofs.Common.{◌≡◌, ◌++◌, ℕ, ◌<◌, ◌≤◌, List, Some, slice_get, vec_len, vec_capacity}
use Rattle.cpn_log.specs.Logs.{claims_made}
use Rattle.cpn_log.specs.LogViews.{log_view}
use Rattle.cpn_runs.specs.FinishedViews.{setup_view}
use Rattle.cpn_runs.specs.State.{PlainEvent}
use Rattle.cpn_book.specs.GoingAlone.{AreCompletions, GivesNoneBack}
use Rattle.cpn_book.specs.Standings.{IsAt, StillCommitted, events_in}
use Rattle.cpn_book.specs.Telling.{TellsOn}
use Rattle.cpn_tmset.specs.ChangedViews.{changes_view}
use Rattle.cpn_book.proofs.alone.complete_all.Given as goal

abbrev pub invariant-loop-number : goal.invariant-loop-number
invariant-loop-number l = record {
  at : IsAt (setup_view l.setup) l.standing;
  clock : l.standing.clock ≡ l.fn.standing.clock;
  told : TellsOn (changes_view l.fn.told) (changes_view l.told) (log_view l.fn.standing.log).unclaimed (log_view l.standing.log).unclaimed;
  room : vec_len l.standing.journal < vec_capacity l.standing.journal;
  few : claims_made (log_view l.standing.log) ≤ claims_made (log_view l.fn.standing.log);
  closed : (s k : ℕ) → slice_get l.standing.held.items s ≡ Some (Some k) → l.number ≤ k;
  events : (more : List PlainEvent) × (events_in l.standing ≡ events_in l.fn.standing ++ more) × AreCompletions 0 l.number more × GivesNoneBack (setup_view l.setup) (events_in l.fn.standing) more;
  committed : StillCommitted (setup_view l.setup) l.fn.standing l.standing;
}
