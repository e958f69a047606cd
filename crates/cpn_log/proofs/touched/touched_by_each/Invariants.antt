-- Those of the claims so far.
use Rattle.std.proofs.Common.{◌≡◌, take}
use Rattle.cpn_log.specs.Gathered.{touched}
use Rattle.cpn_tmset.specs.ChangedViews.{change_views}
use Rattle.cpn_log.specs.ClaimViews.{claim_views}
use Rattle.cpn_log.proofs.touched.touched_by_each.Given as goal

abbrev pub invariant-loop-claim : goal.invariant-loop-claim
invariant-loop-claim l = change_views l.items.items ≡ touched (claim_views (take l.claim-index l.claims))
