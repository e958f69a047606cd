-- Each fusion set is the next one, and keeps the rule or breaks it; its places are added to those before.
use Rattle.std.proofs.Common.{refl, arith, map}
use Rattle.std.proofs.lemmas.Result.{err_from_is_err_and}
use Rattle.cpn_readings.specs.Rules.{first_broken}
use Rattle.cpn_readings.proofs.BrokenRules.{item_kept, item_broken, items_kept}
use Rattle.cpn_module.specs.Views.{fusion_set_view, hierarchy_view}
use Rattle.cpn_module.specs.ModuleRules.{two_fusions_rules, each_fused}
use Rattle.cpn_module.specs.Answers.{refusal_of}
use Rattle.cpn_module.proofs.FusionRules.{one_fusion_rules, apart_kept, apart_broken, places_more}
use Rattle.cpn_module.proofs.fusions.check_fusions_apart.Goals as goal

pub loop-number-init : goal.loop-number-init
unfolding two_fusions_rules each_fused
loop-number-init c = record {
  places = λ member. rw c.requires.none_yet refl;
  rest = rw c.deref-fusion-items.ensures.value refl;
}

pub returns-in_err-check_apart : goal.returns-in_err-check_apart
returns-in_err-check_apart c =
    let p = err_from_is_err_and c.from_residual.result c.from_residual.ensures.1 in
    let all = c.deref-fusion-items.result.now in
    let f = c.loop-number.number in
    let broken = rw c.deref.ensures.value at c.in_err-check_apart.ensures.checks in
    record {
      checks = rw (p.1, p.2) (item_broken fusion_set_view all f c.fusion-item.result c.loop-number-test.true c.fusion-item.is (one_fusion_rules (map fusion_set_view all)) (two_fusions_rules (hierarchy_view c.args.hierarchy.now)) (refusal_of c.in_err-check_apart.field-0.0) c.loop-number.invariant.rest (apart_broken c.loop-number.places (map fusion_set_view all) f c.loop-number.invariant.places (fusion_set_view c.fusion-item.result) (refusal_of c.in_err-check_apart.field-0.0) broken));
    }

pub loop-number-preserved : goal.loop-number-preserved
loop-number-preserved c =
    let all = c.deref-fusion-items.result.now in
    let f = c.loop-number.number in
    let kept = rw c.deref.ensures.value at c.in_ok-check_apart.ensures.checks in
    let added = rw c.deref-in-loop-number.ensures.value at c.in_ok-add_members.ensures.added in
    record {
      places = places_more all f c.fusion-item.result c.loop-number-test.true c.fusion-item.is c.loop-number.places c.add_members.new.places c.loop-number.invariant.places added;
      rest = item_kept fusion_set_view all f c.fusion-item.result c.loop-number-test.true c.fusion-item.is (one_fusion_rules (map fusion_set_view all)) (first_broken (two_fusions_rules (hierarchy_view c.args.hierarchy.now))) (apart_kept c.loop-number.places (map fusion_set_view all) f c.loop-number.invariant.places (fusion_set_view c.fusion-item.result) kept) c.loop-number.invariant.rest;
    }

pub returns : goal.returns
returns c = record { checks = items_kept fusion_set_view c.deref-fusion-items.result.now c.loop-number.number (omega arith) _ _ c.loop-number.invariant.rest }
