-- Each substitution transition is the next one, and keeps the rule or breaks it.
use Rattle.std.proofs.Common.{refl, arith}
use Rattle.std.proofs.lemmas.Result.{err_from_is_err_and}
use Rattle.cpn_readings.specs.Rules.{first_broken}
use Rattle.cpn_readings.proofs.BrokenRules.{item_kept, item_broken, items_kept}
use Rattle.cpn_module.specs.Views.{substitution_view, structure_view, hierarchy_view}
use Rattle.cpn_module.specs.Answers.{refusal_of}
use Rattle.cpn_module.proofs.SocketRules.{assignment_rules, substitution_rules, paired_kept, paired_broken}
use Rattle.cpn_module.proofs.sockets.check_all_assignments.Goals as goal

pub loop-number-init : goal.loop-number-init
loop-number-init c = rw c.deref-substitution-items.ensures.value refl

pub returns-in_err-check_assignments : goal.returns-in_err-check_assignments
returns-in_err-check_assignments c =
    let p = err_from_is_err_and c.from_residual.result c.from_residual.ensures.1 in
    let h = hierarchy_view c.args.hierarchy.now in
    let s = structure_view c.args.structure.now in
    let refusal = refusal_of c.in_err-check_assignments.field-0.0 in
    let sub = c.substitution-item.result in
    record {
      checks = rw (p.1, p.2) (item_broken substitution_view c.deref-substitution-items.result.now c.loop-number.number sub c.loop-number-test.true c.substitution-item.is (assignment_rules h c.args.in_module s) (substitution_rules h c.args.in_module s) refusal c.loop-number.invariant (paired_broken c.args.sockets.now.inputs c.args.sockets.now.outputs s c.requires.inputs c.requires.outputs h c.args.in_module c.loop-number.number (substitution_view sub) refusal c.in_err-check_assignments.ensures.checks));
    }

pub loop-number-preserved : goal.loop-number-preserved
loop-number-preserved c =
    let h = hierarchy_view c.args.hierarchy.now in
    let s = structure_view c.args.structure.now in
    let sub = c.substitution-item.result in
    item_kept substitution_view c.deref-substitution-items.result.now c.loop-number.number sub c.loop-number-test.true c.substitution-item.is (assignment_rules h c.args.in_module s) (first_broken (substitution_rules h c.args.in_module s)) (paired_kept c.args.sockets.now.inputs c.args.sockets.now.outputs s c.requires.inputs c.requires.outputs h c.args.in_module c.loop-number.number (substitution_view sub) c.in_ok-check_assignments.ensures.checks) c.loop-number.invariant

pub returns : goal.returns
returns c = record { checks = items_kept substitution_view c.deref-substitution-items.result.now c.loop-number.number (omega arith) _ _ c.loop-number.invariant }
