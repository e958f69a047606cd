-- One output more is carried past and put in.
use Rattle.std.proofs.Common.{sym, subst, ◌∙◌}
use Rattle.std.specs.List.{AllByRecursion}
use Rattle.cpn_log.specs.ClaimViews.{taken_views}
use Rattle.cpn_log.specs.Kept.{IsInRange}
use Rattle.cpn_log.specs.MarkingViews.{unclaimed_in}
use Rattle.cpn_log.proofs.CarriedPast.{one_output, room_after_output}
use Rattle.cpn_log.proofs.filling.put_ahead.Goals as goal

pub loop-made-preserved : goal.loop-made-preserved
loop-made-preserved c =
    let so = c.loop-made.invariant in
    let i = c.loop-made.made-index in
    let tokens = c.tokens-tokens.result.now in
    let made = c.made-item.result in
    let past = c.carry_past_claims-stamp in
    let both = one_output i tokens made (taken_views c.loop-made.later) (taken_views past.new.claims) (unclaimed_in c.loop-made.markings) (unclaimed_in c.put.new.self) past.result c.loop-made-test.true c.made-item.is past.ensures.taken past.ensures.left c.in_ok-put.ensures.put in
    record {
      unclaimed = both.0 ∙ so.unclaimed;
      taken = both.1 ∙ so.taken;
      room = room_after_output i tokens made (unclaimed_in c.loop-made.markings) (unclaimed_in c.put.new.self) past.result c.loop-made-test.true c.made-item.is c.in_ok-put.ensures.put so.room;
      settled = c.in_ok-put.ensures.settled ∙ so.settled;
      same = past.ensures.same ∙ so.same;
      in_range = subst (AllByRecursion IsInRange) (sym past.ensures.same) so.in_range;
      jobs = past.ensures.jobs ∙ so.jobs;
    }
