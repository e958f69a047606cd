-- The terms so far are followed by those of the next part.
use Rattle.std.proofs.Common.{map, refl}
use Rattle.cpn_definitions.specs.Inscription.{inscriptions_from}
use Rattle.cpn_definitions.specs.Bindable.{binding_term, binding_terms_of_each}
use Rattle.cpn_core.specs.Inscriptions.{multiset_view}
use Rattle.cpn_bindable.proofs.FoundVariables.{one_more, all_parts}
use Rattle.cpn_bindable.proofs.input_terms.terms_of_sum.Goals as goal

pub loop-part-preserved : goal.loop-part-preserved
loop-part-preserved c =
    one_more (λ ms. binding_terms_of_each (inscriptions_from (map multiset_view ms))) (binding_term (multiset_view c.part-item.result)) c.deref-part-items.result.now c.args.parts.now.items c.loop-part.part-index c.part-item.result _ _ _
    c.deref-part-items.ensures.value c.loop-part-test.true c.part-item.is (λ rest. refl) c.in_ok-push_of_part.ensures.added c.loop-part.invariant

pub returns : goal.returns
returns c = record {
  exact = all_parts (λ ms. binding_terms_of_each (inscriptions_from (map multiset_view ms))) c.deref-part-items.result.now c.args.parts.now.items c.loop-part.part-index _ _
      c.deref-part-items.ensures.value c.loop-part-test.false refl c.loop-part.invariant;
}
