-- Where a run stands at its start.
use Rattle.std.proofs.Common.{◌≡◌, ℕ, ◌<◌, List, [], length, Option, Some, None, refl, slice_get}
use Rattle.cpn_log.specs.Kept.{IsKept}
use Rattle.cpn_log.specs.Logs.{started}
use Rattle.cpn_runs.specs.State.{PlainSetup, first_state}
use Rattle.cpn_book.specs.StandingRuns.{StandsAt}
use Rattle.cpn_book.proofs.LoggedClaims.{has_none}

-- no claim is made, and no seat holds one
pub stands_at_start : (setup : PlainSetup) (held : List (Option ℕ)) → IsKept (started setup.start) → length held ≡ setup.limits.seats → ((s : ℕ) → s < setup.limits.seats → slice_get held s ≡ Some None) → StandsAt setup [] (first_state setup) (started setup.start) held
stands_at_start setup held kept each free = record {
  told = record { reached = refl; has = has_none setup.start; all_in = refl; kept = kept; holds = record { each = each; numbers = free } };
  all_committed = refl;
  none_owed = refl;
}
