-- Past one claim more, which has its time.
use Rattle.std.proofs.Common.{◌≡◌, ℕ, ◌≤◌, sym, ap, subst, ◌∙◌, arith}
use Rattle.std.specs.List.{AllByRecursion}
use Rattle.std.proofs.Math.Seq.{map-set_same}
use Rattle.cpn_definitions.specs.Times.{last_time}
use Rattle.cpn_runs.specs.Filling.{claim_after, past_claim}
use Rattle.cpn_log.specs.ClaimViews.{claim_view, taken_view, with_stamp}
use Rattle.cpn_log.specs.Kept.{IsInRange}
use Rattle.cpn_log.specs.declared.claims.Claim.{Claim}
use Rattle.cpn_log.proofs.CarriedPast.{one_claim, past_keeps, time_in_range}
use Rattle.cpn_log.proofs.filling.carry_past_claims.Goals as goal

pub carry-stamp-requires : goal.carry-stamp-requires
carry-stamp-requires c =
    let claim = c.claim-item.result in
    let time = time_in_range c.loop-claim.claim-index c.loop-claim.claims claim (let long = c.loop-claim.auto.claims in let test = c.loop-claim-test.true in omega (arith, long, test)) c.claim-item.is c.loop-claim.invariant.in_range in
    record { in_time = subst (λ (k : Claim). k.head.time ≤ last_time) c.claim-item.is time }

pub loop-claim-preserved : goal.loop-claim-preserved
loop-claim-preserved c =
    let claims = c.loop-claim.claims in
    let i = c.loop-claim.claim-index in
    let claim = c.claim-item.result in
    let new = c.carry-stamp.new.self in
    let on = with_stamp c.loop-claim.stamp c.args.made.now in
    let so = c.loop-claim.invariant in
    let own = c.carry-stamp.ensures in
    let taken = subst (λ (k : Claim). taken_view new ≡ claim_after on (taken_view k)) (sym c.claim-item.is) own.taken in
    let left = subst (λ (k : Claim). c.carry-stamp.result ≡ (past_claim on (taken_view k)).stamp) (sym c.claim-item.is) own.left in
    let past = ap (λ (s : ℕ). with_stamp s c.args.made.now) left ∙ sym (past_keeps on (taken_view claim)) in
    let both = one_claim i claims claim new on (with_stamp c.carry-stamp.result c.args.made.now) (let long = c.loop-claim.auto.claims in let test = c.loop-claim-test.true in omega (arith, long, test)) c.claim-item.is taken past in
    let same = map-set_same claim_view claims i new claim (own.same) in
    record {
      left = both.0 ∙ so.left;
      taken = both.1 ∙ so.taken;
      same = same ∙ so.same;
      in_range = subst (AllByRecursion IsInRange) (sym same) so.in_range;
      jobs = map-set_same (λ (k : Claim). k.job.value) claims i new claim (ap (λ job. job.value) own.job) ∙ so.jobs;
    }
