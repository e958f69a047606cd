-- Each substitution transition is the next one, and keeps the rule or breaks it.
use Rattle.std.proofs.Common.{arith}
use Rattle.std.proofs.lemmas.Result.{err_from_is_err_and}
use Rattle.cpn_readings.proofs.BrokenRules.{item_kept, item_broken, items_kept}
use Rattle.cpn_module.specs.Views.{substitution_view}
use Rattle.cpn_module.specs.Answers.{refusal_of}
use Rattle.cpn_module.proofs.PortRules.{assignment_rules}
use Rattle.cpn_module.proofs.ports.check_substitutions.Goals as goal

pub returns-in_err-check_assignments : goal.returns-in_err-check_assignments
returns-in_err-check_assignments c =
    let p = err_from_is_err_and c.from_residual.result c.from_residual.ensures.1 in
    let broken = rw c.deref.ensures.value at c.in_err-check_assignments.ensures.checks in
    record {
      checks = rw (p.1, p.2) (item_broken substitution_view c.args.substitutions.now c.loop-number.number c.index-substitutions-number.result c.loop-number-test.true c.index-substitutions-number.is (assignment_rules c.args.in_module) _ (refusal_of c.in_err-check_assignments.field-0.0) c.loop-number.invariant broken);
    }

pub loop-number-preserved : goal.loop-number-preserved
loop-number-preserved c =
    let kept = rw c.deref.ensures.value at c.in_ok-check_assignments.ensures.checks in
    item_kept substitution_view c.args.substitutions.now c.loop-number.number c.index-substitutions-number.result c.loop-number-test.true c.index-substitutions-number.is (assignment_rules c.args.in_module) _ kept c.loop-number.invariant

pub returns : goal.returns
returns c = record { checks = items_kept substitution_view c.args.substitutions.now c.loop-number.number (omega arith) _ _ c.loop-number.invariant }
