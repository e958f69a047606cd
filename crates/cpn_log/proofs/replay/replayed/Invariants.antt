-- The claims that are left are still to happen, in range and with room for what they add.
use Rattle.std.proofs.Common.{drop}
use Rattle.cpn_log.specs.Exchanges.{after_claims}
use Rattle.cpn_log.specs.ClaimViews.{claim_views}
use Rattle.cpn_log.proofs.CopiedTokens.{HaveLeft}
use Rattle.cpn_log.proofs.replay.replayed.Given as goal

abbrev pub invariant-loop-claim : goal.invariant-loop-claim
invariant-loop-claim l = HaveLeft (claim_views (drop l.claim-index l.claims)) l.left (after_claims (claim_views l.claims) l.start)
