-- One-to-one codes of what is kept, by which a type's contract may speak of it.
use Rattle.std.specs.Prelude.{ℕ, List}
use Rattle.std.specs.Coded.{Coded, code_by, coded×, coded_ℕ, coded_list}
use Rattle.std.proofs.Common.{refl}
use Rattle.cpn_definitions.specs.Meaning.{PlainBinding}
use Rattle.cpn_definitions.specs.Occurrence.{Needed}
use Rattle.cpn_core.specs.Code.{needs_code}
use Rattle.cpn_core.specs.BindingCode.{binding_code}
use Rattle.cpn_due.specs.Due.{PlainEnabled, PlainDue}

abbrev pub Parts : Type 0
Parts = ℕ × (ℕ × (PlainBinding × List Needed))

abbrev pub enabled_code : Coded PlainEnabled
enabled_code =
    code_by Parts (coded× coded_ℕ (coded× coded_ℕ (coded× binding_code needs_code)))
    (λ x. (x.entry.earliest, (x.entry.element.transition, (x.entry.element.binding, x.needs))))
    (λ p. record { entry = record { earliest = p.0; element = record { transition = p.1.0; binding = p.1.1.0 } }; needs = p.1.1.1 })
    (λ _. refl)

abbrev pub due_code : Coded PlainDue
due_code =
    code_by (List PlainEnabled × (ℕ × ℕ)) (coded× (coded_list enabled_code) (coded× coded_ℕ coded_ℕ)) (λ d. (d.elements, (d.clock, d.spare))) (λ p. record { elements = p.0; clock = p.1.0; spare = p.1.1 })
    (λ _. refl)
