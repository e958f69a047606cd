-- One claim more happens.
use Rattle.std.proofs.Common.{◌+◌, arith, drop}
use Rattle.cpn_log.specs.Exchanges.{after_claims}
use Rattle.cpn_log.specs.ClaimViews.{claim_view, claim_views}
use Rattle.cpn_log.proofs.CopiedTokens.{one_happened, first_left}
use Rattle.cpn_log.proofs.LeftMarkings.{room_within}
use Rattle.cpn_log.proofs.replay.replayed.Goals as goal

pub loop-claim-preserved : goal.loop-claim-preserved
loop-claim-preserved c =
    one_happened claim_view c.args.claims.now c.loop-claim.claim-index c.claim-item.result c.loop-claim.left c.happen.new.marking (after_claims (claim_views c.args.claims.now) c.args.start.now) (omega arith) c.claim-item.is c.loop-claim.invariant
    c.in_ok-happen.ensures.after

pub happen-requires : goal.happen-requires
happen-requires c =
    let left = first_left claim_view c.args.claims.now c.loop-claim.claim-index c.claim-item.result c.loop-claim.left (after_claims (claim_views c.args.claims.now) c.args.start.now) (omega arith) c.claim-item.is c.loop-claim.invariant in
    record { in_time = left.in_range.0.in_time; room = room_within (claim_view c.claim-item.result) (claim_views (drop (c.loop-claim.claim-index + 1) c.args.claims.now)) c.loop-claim.left left.room }
