-- The equations so far are followed by those of the next conjunct.
use Rattle.std.proofs.Common.{map, refl}
use Rattle.std.specs.List.{flat_map}
use Rattle.cpn_definitions.specs.Bindable.{conjuncts_of}
use Rattle.cpn_core.specs.Inscriptions.{expr_view}
use Rattle.cpn_typing.specs.Closure.{equations_of, equations_of_part}
use Rattle.cpn_stages.specs.Stages.{equations_at}
use Rattle.cpn_bindable.proofs.ConjunctEquations.{of_front}
use Rattle.cpn_bindable.proofs.FoundVariables.{one_more, all_parts}
use Rattle.cpn_bindable.proofs.equations.equations_of.Goals as goal

pub loop-conjunct-preserved : goal.loop-conjunct-preserved
loop-conjunct-preserved c =
    let here = expr_view c.conjunct-item.result in (
      one_more (λ es. equations_of (map expr_view es)) (flat_map equations_of_part (conjuncts_of here)) c.deref-conjunct-items.result.now c.args.guard.now.conjuncts.items c.loop-conjunct.conjunct-index c.conjunct-item.result _ _ _
          c.deref-conjunct-items.ensures.value c.loop-conjunct-test.true c.conjunct-item.is (λ rest. refl) c.in_ok-push_equations.ensures.added c.loop-conjunct.invariant.0,
      one_more (λ es. flat_map equations_at (flat_map conjuncts_of (map expr_view es))) (flat_map equations_at (conjuncts_of here)) c.deref-conjunct-items.result.now c.args.guard.now.conjuncts.items c.loop-conjunct.conjunct-index c.conjunct-item.result _ _ _
          c.deref-conjunct-items.ensures.value c.loop-conjunct-test.true c.conjunct-item.is (of_front equations_at c.conjunct-item.result) c.in_ok-push_equations.ensures.equations c.loop-conjunct.invariant.1,
      c.in_ok-push_equations.ensures.sources c.loop-conjunct.invariant.2,
    )

pub returns : goal.returns
returns c = record {
  exact = all_parts (λ es. equations_of (map expr_view es)) c.deref-conjunct-items.result.now c.args.guard.now.conjuncts.items c.loop-conjunct.conjunct-index _ _
      c.deref-conjunct-items.ensures.value c.loop-conjunct-test.false refl c.loop-conjunct.invariant.0;
  equations = all_parts (λ es. flat_map equations_at (flat_map conjuncts_of (map expr_view es))) c.deref-conjunct-items.result.now c.args.guard.now.conjuncts.items c.loop-conjunct.conjunct-index _ _
      c.deref-conjunct-items.ensures.value c.loop-conjunct-test.false refl c.loop-conjunct.invariant.1;
  sources = c.loop-conjunct.invariant.2;
}
