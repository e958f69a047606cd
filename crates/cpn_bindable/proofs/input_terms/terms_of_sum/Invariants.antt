-- The terms so far, and then those of the rest, are the terms of all.
use Rattle.std.proofs.Common.{◌≡◌, ◌++◌, map, drop}
use Rattle.cpn_definitions.specs.Inscription.{inscriptions_from}
use Rattle.cpn_definitions.specs.Bindable.{binding_terms_of_each}
use Rattle.cpn_core.specs.Inscriptions.{multiset_view, term_view}
use Rattle.cpn_bindable.proofs.input_terms.terms_of_sum.Given as goal

abbrev pub invariant-loop-part : goal.invariant-loop-part
invariant-loop-part l =
    map term_view l.terms.items ++ binding_terms_of_each (inscriptions_from (map multiset_view (drop l.part-index l.parts.items))) ≡ binding_terms_of_each (inscriptions_from (map multiset_view l.parts.items))
