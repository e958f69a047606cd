-- One claim more.
use Rattle.std.proofs.Common.{◌++◌, map, sym, ap, ◌∙◌, append_assoc, take, arith}
use Rattle.cpn_runs.specs.HoleRun.{added}
use Rattle.cpn_log.specs.Gathered.{need_change, made_change, touched}
use Rattle.cpn_log.specs.ClaimViews.{claim_view, claim_views, status_view}
use Rattle.cpn_log.proofs.ToldItems.{touched_more}
use Rattle.cpn_log.proofs.touched.touched_by_each.Goals as goal

pub loop-claim-preserved : goal.loop-claim-preserved
loop-claim-preserved c =
    let claim = c.claim-item.result in
    let needs = map need_change claim.needs in
    let made = map made_change (added (status_view claim.course)) in
    let so_far = touched (claim_views (take c.loop-claim.claim-index c.args.claims.now)) in
    c.in_ok-push_added.ensures ∙ ap (λ cs. cs ++ made) (c.in_ok-push_needs.ensures ∙ ap (λ cs. cs ++ needs) c.loop-claim.invariant)
    ∙ append_assoc so_far needs made ∙ sym (touched_more claim_view c.args.claims.now c.loop-claim.claim-index claim (omega arith) c.claim-item.is)
