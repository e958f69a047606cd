-- Each fusion set is the next one, and keeps the rule or breaks it.
use Rattle.std.proofs.Common.{refl, arith}
use Rattle.std.proofs.lemmas.Result.{err_from_is_err_and}
use Rattle.cpn_readings.specs.Rules.{first_broken}
use Rattle.cpn_readings.proofs.BrokenRules.{item_kept, item_broken, items_kept}
use Rattle.cpn_module.specs.Views.{fusion_set_view, hierarchy_view}
use Rattle.cpn_module.specs.ModuleRules.{fusion_port_rules, each_fused}
use Rattle.cpn_module.specs.Answers.{refusal_of}
use Rattle.cpn_module.proofs.FusionRules.{no_port_rules}
use Rattle.cpn_module.proofs.fusions.check_fusion_ports.Goals as goal

pub loop-number-init : goal.loop-number-init
unfolding fusion_port_rules each_fused
loop-number-init c = rw c.deref-fusion-items.ensures.value refl

pub returns-in_err-check_members : goal.returns-in_err-check_members
returns-in_err-check_members c =
    let p = err_from_is_err_and c.from_residual.result c.from_residual.ensures.1 in
    let broken = rw c.deref.ensures.value at c.in_err-check_members.ensures.checks in
    record {
      checks = rw (p.1, p.2) (item_broken fusion_set_view c.deref-fusion-items.result.now c.loop-number.number c.fusion-item.result c.loop-number-test.true c.fusion-item.is (no_port_rules (hierarchy_view c.args.hierarchy.now)) (fusion_port_rules (hierarchy_view c.args.hierarchy.now)) (refusal_of c.in_err-check_members.field-0.0) c.loop-number.invariant broken);
    }

pub loop-number-preserved : goal.loop-number-preserved
loop-number-preserved c =
    let kept = rw c.deref.ensures.value at c.in_ok-check_members.ensures.checks in
    item_kept fusion_set_view c.deref-fusion-items.result.now c.loop-number.number c.fusion-item.result c.loop-number-test.true c.fusion-item.is (no_port_rules (hierarchy_view c.args.hierarchy.now)) (first_broken (fusion_port_rules (hierarchy_view c.args.hierarchy.now))) kept c.loop-number.invariant

pub returns : goal.returns
returns c = record { checks = items_kept fusion_set_view c.deref-fusion-items.result.now c.loop-number.number (omega arith) _ _ c.loop-number.invariant }
