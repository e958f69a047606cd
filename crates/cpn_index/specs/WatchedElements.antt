-- The enabled elements that an index keeps, and which of them wait for a value on a place. Source: own choice.
use Rattle.std.specs.Prelude.{◌≡◌, ℕ, ◌==◌, Bool, not, ◌&&◌, ◌||◌, List}
use Rattle.std.specs.Coded.{Coded, code_by, coded×, coded_ℕ, coded_list}
use Rattle.std.specs.List.{filter, list_any}
use Rattle.std.proofs.Common.{refl}
use Rattle.cpn_definitions.specs.Value.{PlainValue}
use Rattle.cpn_definitions.specs.Occurrence.{PlainElement}
use Rattle.cpn_due.specs.Due.{PlainEnabled, is_of}
use Rattle.cpn_due.specs.DueCode.{enabled_code}
use Rattle.cpn_index.specs.Watchers.{is_needed, is_watched}
use Rattle.cpn_index.specs.declared.watchers.Watchers.{Watchers}

-- The enabled elements, in order; a clock; and for how many places they may wait.
pub record PlainElements : Type 0 where
  pub elements : List PlainEnabled
  pub clock : ℕ
  pub places : ℕ

abbrev pub elements_code : Coded PlainElements
elements_code =
    code_by (List PlainEnabled × (ℕ × ℕ)) (coded× (coded_list enabled_code) (coded× coded_ℕ coded_ℕ)) (λ d. (d.elements, (d.clock, d.places))) (λ p. record { elements = p.0; clock = p.1.0; places = p.1.1 }) (λ _. refl)

-- one of them is of the element, and needs a token of the value on the place
abbrev pub waits : List PlainEnabled → ℕ → PlainValue → PlainElement → Bool
waits elements p v e = list_any (λ x. is_of e x && is_needed p v x.needs) elements

-- Just those that wait are watched.
abbrev pub AreWatched : List PlainEnabled → Watchers → Type 0
AreWatched elements watchers = (p : ℕ) (v : PlainValue) (e : PlainElement) → is_watched watchers p v e ≡ waits elements p v e

-- Just those that wait are watched, and the one more.
abbrev pub AreWatchedWith : PlainEnabled → List PlainEnabled → Watchers → Type 0
AreWatchedWith x elements watchers = (p : ℕ) (v : PlainValue) (e : PlainElement) → is_watched watchers p v e ≡ ((is_of e x && is_needed p v x.needs) || waits elements p v e)

-- those of other transitions
abbrev pub of_others : ℕ → List PlainEnabled → List PlainEnabled
of_others t elements = filter (λ x. not (x.entry.element.transition == t)) elements
