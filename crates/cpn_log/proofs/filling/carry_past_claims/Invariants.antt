-- What the claims took so far, and what is left to be carried past; all else of the claims stays.
use Rattle.std.proofs.Common.{◌≡◌, ◌++◌, take, drop}
use Rattle.cpn_runs.specs.Filling.{claims_after, past_claims}
use Rattle.cpn_core.specs.OutputsViews.{made_view}
use Rattle.cpn_log.specs.ClaimViews.{claim_views, jobs_of, taken_views, with_stamp}
use Rattle.std.specs.List.{AllByRecursion}
use Rattle.cpn_log.specs.Kept.{IsInRange}
use Rattle.cpn_log.proofs.filling.carry_past_claims.Given as goal

abbrev pub invariant-loop-claim : goal.invariant-loop-claim
invariant-loop-claim l = record {
  left : past_claims (with_stamp l.stamp l.made) (taken_views (drop l.claim-index l.claims)) ≡ past_claims (made_view l.made) (taken_views l.initial.claims);
  taken : taken_views (take l.claim-index l.claims) ++ claims_after (with_stamp l.stamp l.made) (taken_views (drop l.claim-index l.claims)) ≡ claims_after (made_view l.made) (taken_views l.initial.claims);
  same : claim_views l.claims ≡ claim_views l.initial.claims;
  in_range : AllByRecursion IsInRange (claim_views l.claims);
  jobs : jobs_of l.claims ≡ jobs_of l.initial.claims;
}
