-- The enabled binding elements of a marking, in order. Source: Jensen and Kristensen, chapter 11; the
-- order is our own choice.
use Rattle.std.specs.Prelude.{◌≡◌, ℕ, ◌≤◌, ◌<◌, ◌==◌, min, true, false, ◌↔◌, List, [], ◌∷◌, map, Option, Some, None, Contains}
use Rattle.std.specs.List.{filter}
use Rattle.std.specs.declared.cmp.Ordering.{Ordering}
use Rattle.std.specs.Ordering.{ordering_then, nat_cmp}
use Rattle.std.specs.Cmp.Lexicographic.{slice_cmp}
use Rattle.cpn_definitions.specs.Order.{value_cmp}
use Rattle.cpn_definitions.specs.Lists.{Rises}
use Rattle.cpn_definitions.specs.Marking.{Marking}
use Rattle.cpn_definitions.specs.Net.{PlainNet}
use Rattle.cpn_definitions.specs.Meaning.{PlainBinding}
use Rattle.cpn_definitions.specs.Occurrence.{PlainElement, covered}

-- An enabled element and its earliest time.
pub record PlainEntry : Type 0 where
  pub earliest : ℕ
  pub element : PlainElement

-- how two bindings of the same variables compare: by the values of the variables in declaration order
abbrev pub binding_cmp : PlainBinding → PlainBinding → Ordering
binding_cmp b c = slice_cmp value_cmp (map (λ pair. pair.1) b) (map (λ pair. pair.1) c)

-- how two elements compare: by transition number, then by binding
abbrev pub element_cmp : PlainElement → PlainElement → Ordering
element_cmp e f = ordering_then (nat_cmp e.transition f.transition) (binding_cmp e.binding f.binding)

abbrev pub entry_cmp : PlainEntry → PlainEntry → Ordering
entry_cmp x y = element_cmp x.element y.element

-- the time is the least one, not before the clock, at which the element is covered
pub record IsEarliest (n : PlainNet) (m : Marking) (clock : ℕ) (x : PlainEntry) : Type 0 where
  pub not_before : clock ≤ x.earliest
  pub is_covered : covered n m x.earliest x.element ≡ true
  pub not_earlier : (s : ℕ) → clock ≤ s → s < x.earliest → covered n m s x.element ≡ false

-- Enabled: the list has each element that is covered at some time not before the clock once, in order,
-- with the least such time; and it has no other.
pub record Enabled (n : PlainNet) (m : Marking) (clock : ℕ) (entries : List PlainEntry) : Type 0 where
  pub rising : Rises entry_cmp entries
  pub exact : (x : PlainEntry) → Contains entries x ↔ IsEarliest n m clock x

-- A binding of one transition that is covered at some time, and the least such time.
pub record PlainFound : Type 0 where
  pub binding : PlainBinding
  pub earliest : ℕ

-- the entries of a transition with these bindings
abbrev pub entries_of : ℕ → List PlainFound → List PlainEntry
entries_of t found = map (λ f. record { earliest = f.earliest; element = record { transition = t; binding = f.binding } }) found

-- Enabled of one transition: the list has each of its bindings that is covered at some time once, in order,
-- with the least such time; and it has no other.
pub record EnabledOf (n : PlainNet) (m : Marking) (t : ℕ) (found : List PlainFound) : Type 0 where
  pub rising : Rises entry_cmp (entries_of t found)
  pub exact : (x : PlainEntry) → Contains (entries_of t found) x ↔ ((x.element.transition ≡ t) × IsEarliest n m 0 x)

-- Ready: the enabled elements that are covered at the clock.
abbrev pub ready : ℕ → List PlainEntry → List PlainEntry
ready clock entries = filter (λ x. x.earliest == clock) entries

-- the lesser of a time and one that may be missing
abbrev pub or_sooner : ℕ → Option ℕ → ℕ
or_sooner time None = time
or_sooner time (Some other) = min time other

-- Next: the least earliest time, none where nothing is enabled at any time.
abbrev pub next_time : List PlainEntry → Option ℕ
next_time [] = None
next_time (x ∷ xs) = Some (or_sooner x.earliest (next_time xs))

-- Dead: nothing is covered in the marking at any time.
abbrev pub IsDead : PlainNet → Marking → Type 0
IsDead n m = (time : ℕ) (e : PlainElement) → covered n m time e ≡ false
