-- When two binding elements are the same.
use Rattle.std.proofs.Common.{◌≡◌, ℕ, ◌==◌, Bool, true, ◌&&◌, refl, ap₂}
use Rattle.std.specs.Cmp.{unsigned_Decides}
use Rattle.std.proofs.lemmas.Bool.{and_parts, and_from}
use lib.Pointwise.{pointwise}
use Rattle.cpn_definitions.specs.Value.{PlainValue}
use Rattle.cpn_definitions.specs.Order.{same_value}
use Rattle.cpn_definitions.specs.ValueOrder.{same_value_true, same_value_refl}
use Rattle.cpn_definitions.specs.Occurrence.{PlainElement}
use Rattle.cpn_same.specs.Equality.{DecidesEquality, decides_from, lists_decide}

-- whether one variable is bound to one value in both pairs
abbrev pub same_pair : (ℕ × PlainValue) → (ℕ × PlainValue) → Bool
same_pair pair other = (pair.0 == other.0) && same_value pair.1 other.1

-- whether two elements are the same: of one transition, with the same binding
abbrev pub same_element : PlainElement → PlainElement → Bool
same_element e other = (e.transition == other.transition) && pointwise same_pair e.binding other.binding

-- ---- laws

pub bindings_decide : DecidesEquality (pointwise same_pair)
bindings_decide = lists_decide same_pair (decides_from same_pair itself one)
  where
    itself : (pair : ℕ × PlainValue) → same_pair pair pair ≡ true
    itself pair = and_from (pair.0 == pair.0) (same_value pair.1 pair.1) ((unsigned_Decides pair.0 pair.0).1 refl) (same_value_refl pair.1)

    one : (pair other : ℕ × PlainValue) → same_pair pair other ≡ true → pair ≡ other
    one pair other is = let both = and_parts (pair.0 == other.0) (same_value pair.1 other.1) is in ap₂ (λ x v. (x, v)) ((unsigned_Decides pair.0 other.0).0 both.0) (same_value_true pair.1 other.1 both.1)

pub elements_decide : DecidesEquality same_element
elements_decide = decides_from same_element itself one
  where
    itself : (e : PlainElement) → same_element e e ≡ true
    itself e = and_from (e.transition == e.transition) (pointwise same_pair e.binding e.binding) ((unsigned_Decides e.transition e.transition).1 refl) ((bindings_decide e.binding e.binding).1 refl)

    one : (e other : PlainElement) → same_element e other ≡ true → e ≡ other
    one e other is =
        let both = and_parts (e.transition == other.transition) (pointwise same_pair e.binding other.binding) is in
        ap₂ (λ t b. record { transition = t; binding = b }) ((unsigned_Decides e.transition other.transition).0 both.0) ((bindings_decide e.binding other.binding).0 both.1)
