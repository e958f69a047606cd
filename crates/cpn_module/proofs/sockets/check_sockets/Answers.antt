-- Each module is the next one, and keeps the rule or breaks it.
use Rattle.std.proofs.Common.{refl, arith}
use Rattle.std.proofs.lemmas.Result.{err_from_is_err_and}
use Rattle.cpn_readings.specs.Rules.{first_broken}
use Rattle.cpn_readings.proofs.BrokenRules.{item_kept, item_broken, items_kept}
use Rattle.cpn_module.specs.Views.{structure_view, hierarchy_view}
use Rattle.cpn_module.specs.ModuleRules.{socket_rules, each_assigned}
use Rattle.cpn_module.specs.Answers.{refusal_of}
use Rattle.cpn_module.proofs.SocketRules.{substitution_rules}
use Rattle.cpn_module.proofs.sockets.check_sockets.Goals as goal

pub loop-number-init : goal.loop-number-init
unfolding socket_rules each_assigned
loop-number-init c = rw c.deref-structure-items.ensures.value refl

pub returns-in_err-check_substitutions : goal.returns-in_err-check_substitutions
returns-in_err-check_substitutions c =
    let p = err_from_is_err_and c.from_residual.result c.from_residual.ensures.1 in
    let h = hierarchy_view c.args.hierarchy.now in
    record {
      checks = rw (p.1, p.2) (item_broken structure_view c.deref-structure-items.result.now c.loop-number.number c.structure-item.result c.loop-number-test.true c.structure-item.is (substitution_rules h) (socket_rules h) (refusal_of c.in_err-check_substitutions.field-0.0) c.loop-number.invariant c.in_err-check_substitutions.ensures.checks);
    }

pub loop-number-preserved : goal.loop-number-preserved
loop-number-preserved c =
    let h = hierarchy_view c.args.hierarchy.now in
    item_kept structure_view c.deref-structure-items.result.now c.loop-number.number c.structure-item.result c.loop-number-test.true c.structure-item.is (substitution_rules h) (first_broken (socket_rules h)) c.in_ok-check_substitutions.ensures.checks c.loop-number.invariant

pub returns : goal.returns
returns c = record { checks = items_kept structure_view c.deref-structure-items.result.now c.loop-number.number (omega arith) _ _ c.loop-number.invariant }
