-- The next conjunct is true, or the guard does not hold.
use Rattle.std.proofs.Common.{◌≡◌, true, false, map, sym, ap, ◌∙◌, arith}
use Rattle.cpn_definitions.specs.Outcome.{gives_and}
use Rattle.cpn_definitions.specs.Meaning.{meaning, is_true}
use Rattle.cpn_definitions.specs.Occurrence.{guard_holds}
use Rattle.cpn_core.specs.declared.inscriptions.Guard.{Guard}
use Rattle.cpn_core.specs.Inscriptions.{expr_view, funs_view}
use Rattle.cpn_elements.proofs.ItemsLeft.{true_conjunct, false_conjunct, others_mean}
use Rattle.cpn_elements.proofs.guards.guard_holds.Goals as goal

pub returns-then-not-holds : goal.returns-then-not-holds
returns-then-not-holds c =
    let funs = funs_view c.args.net.now.funs.value in
    let told : c.in_ok-holds.holds ≡ gives_and (meaning funs (expr_view c.conjunct-item.result) c.args.binding.now 0) is_true = rw c.deref-in-loop-conjunct.ensures at c.in_ok-holds.ensures.exact in
    let fails : false ≡ gives_and (meaning funs (expr_view c.conjunct-item.result) c.args.binding.now 0) is_true = sym c.if-not-holds.true ∙ told in
    record {
      holds =
          sym (ap (λ (g : Guard). guard_holds funs (map expr_view g.conjuncts.items) c.args.binding.now) (sym c.deref.ensures)
          ∙ ap (λ es. guard_holds funs (map expr_view es) c.args.binding.now) (sym c.deref-conjunct-items.ensures.value)
          ∙ c.loop-conjunct.invariant.rest
          ∙ false_conjunct funs c.args.binding.now c.deref-conjunct-items.result.now c.loop-conjunct.conjunct-index c.conjunct-item.result (omega arith) c.conjunct-item.is fails);
    }

pub loop-conjunct-preserved : goal.loop-conjunct-preserved
loop-conjunct-preserved c =
    let funs = funs_view c.args.net.now.funs.value in
    let told : c.in_ok-holds.holds ≡ gives_and (meaning funs (expr_view c.conjunct-item.result) c.args.binding.now 0) is_true = rw c.deref-in-loop-conjunct.ensures at c.in_ok-holds.ensures.exact in
    let holds : true ≡ gives_and (meaning funs (expr_view c.conjunct-item.result) c.args.binding.now 0) is_true = sym c.if-not-holds.false ∙ told in
    record {
      meaning = others_mean funs c.args.binding.now c.deref-conjunct-items.result.now c.loop-conjunct.conjunct-index c.conjunct-item.result (omega arith) c.conjunct-item.is c.loop-conjunct.invariant.meaning;
      rest =
          c.loop-conjunct.invariant.rest
          ∙ true_conjunct funs c.args.binding.now c.deref-conjunct-items.result.now c.loop-conjunct.conjunct-index c.conjunct-item.result (omega arith) c.conjunct-item.is holds;
    }
