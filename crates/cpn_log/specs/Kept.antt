-- What a log keeps true. Source: own choice.
use Rattle.std.specs.Prelude.{◌≡◌, ℕ, ◌≤◌, length, Some}
use Rattle.std.specs.List.{AllByRecursion}
use Rattle.cpn_definitions.specs.Bounds.{most_made}
use Rattle.cpn_definitions.specs.Lists.{IsInOrder}
use Rattle.cpn_definitions.specs.Marking.{tokens_at, AreSorted}
use Rattle.cpn_definitions.specs.Occurrence.{needed_cmp}
use Rattle.cpn_definitions.specs.Times.{last_time}
use Rattle.cpn_runs.specs.Bounds.{most_steps, most_after}
use Rattle.cpn_runs.specs.HoleRun.{PlainClaim, added, hole_run}
use Rattle.cpn_log.specs.Logs.{PlainLog, claims_made, run_behind}

-- A claim in range: its time, its needs in their order, and how many tokens it adds.
pub record IsInRange (claim : PlainClaim) : Type 0 where
  pub in_time : claim.time ≤ last_time
  pub in_order : IsInOrder needed_cmp claim.needs
  pub few : length (added claim.status) ≤ most_made

-- Kept: each claim finds its needs where it stands, the claims took what is kept of them, and leave the unclaimed marking from the
-- settled one; and there is room on each place for all that they may add.
pub record IsKept (log : PlainLog) : Type 0 where
  pub run : hole_run log.settled log.claims ≡ Some (run_behind log)
  pub sorted : (p : ℕ) → AreSorted (tokens_at log.settled p)
  pub few : (p : ℕ) → length (tokens_at log.settled p) ≤ most_after (length log.committed)
  pub number : claims_made log ≤ most_steps
  pub each : AllByRecursion IsInRange log.claims
