-- Each member is the next one of the set, and is one of the places or none.
use Rattle.std.proofs.Common.{sym, ap, not, map, arith}
use Rattle.cpn_readings.specs.Rules.{first_broken}
use Rattle.cpn_readings.proofs.BrokenRules.{items_kept}
use Rattle.cpn_module.specs.Views.{fused_view}
use Rattle.cpn_module.proofs.FusionRules.{is_none_of, is_in_two, apart_rules}
use Rattle.cpn_module.proofs.OneRule.{one_kept, one_broken}
use Rattle.cpn_module.proofs.fusions.check_apart.Goals as goal

pub returns-then-has : goal.returns-then-has
returns-then-has c =
    let places = c.args.earlier.now in
    record {
      checks = rw c.at_member.ensures.exact (one_broken fused_view c.args.members.now c.loop-number.number (record { of_module = 0; place = 0 }) c.loop-number-test.true (is_none_of places) (is_in_two c.args.in_fusion) (apart_rules places c.args.in_fusion (map fused_view c.args.members.now)) (sym (ap not c.if-has.ensures.tells)) c.loop-number.invariant);
    }

pub loop-number-preserved : goal.loop-number-preserved
loop-number-preserved c =
    let places = c.args.earlier.now in
    one_kept fused_view c.args.members.now c.loop-number.number (record { of_module = 0; place = 0 }) c.loop-number-test.true (is_none_of places) (is_in_two c.args.in_fusion) (first_broken (apart_rules places c.args.in_fusion (map fused_view c.args.members.now))) (sym (ap not c.if-has.ensures.tells)) c.loop-number.invariant

pub returns : goal.returns
returns c = record { checks = items_kept fused_view c.args.members.now c.loop-number.number (omega arith) _ _ c.loop-number.invariant }
