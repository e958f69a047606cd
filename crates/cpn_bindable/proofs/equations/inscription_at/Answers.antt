-- Where none is reached in the conjuncts before, what is reached in this one is that of all.
use Rattle.std.proofs.Common.{◌≡◌, ◌<◌, length, get_or, subst}
use Rattle.cpn_core.specs.Inscriptions.{expr_view}
use Rattle.cpn_bindable.proofs.NumberedEquations.{in_all_conjuncts}
use Rattle.cpn_bindable.proofs.equations.inscription_at.Goals as goal

pub returns-in-Some : goal.returns-in-Some
returns-in-Some c = record {
  exact = in_all_conjuncts c.args.guard.now.conjuncts.items c.loop-conjunct.conjunct-index c.conjunct-item.result c.args.number c.loop-conjunct.passed (expr_view c.in-Some.inscription.now)
      (subst (λ es. c.loop-conjunct.conjunct-index < length es) c.deref-conjunct-items.ensures.value c.loop-conjunct-test.true)
      (subst (λ es. c.conjunct-item.result ≡ get_or es c.loop-conjunct.conjunct-index c.conjunct-item.result) c.deref-conjunct-items.ensures.value c.conjunct-item.is)
      c.loop-conjunct.invariant c.in-Some.ensures.reached;
}
