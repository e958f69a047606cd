-- The enabled elements of a marking that are kept, and which of them are ready at a clock. Source: own choice; what is ready, and
-- the next time, are the definitions'.
use Rattle.std.specs.Prelude.{ℕ, ◌==◌, not, Bool, nat_le, List, map, find, Option}
use Rattle.std.specs.List.{filter, list_any}
use Rattle.std.specs.Ordering.{is_eq}
use Rattle.std.specs.declared.cmp.Ordering.{Ordering}
use Rattle.cpn_definitions.specs.Occurrence.{PlainElement, Needed}
use Rattle.cpn_definitions.specs.Enabled.{PlainEntry, element_cmp, entry_cmp}
use Rattle.cpn_core.specs.declared.entries.EnabledElement.{EnabledElement}
use Rattle.cpn_core.specs.Elements.{enabled_view}

-- An enabled element: its entry, and what it needs.
pub record PlainEnabled : Type 0 where
  pub entry : PlainEntry
  pub needs : List Needed

abbrev pub plain_enabled : EnabledElement → PlainEnabled
plain_enabled x = record { entry = enabled_view x; needs = x.needs }

-- What is kept: enabled elements, each once and in the order of entries; a clock; and for how many more there is room.
pub record PlainDue : Type 0 where
  pub elements : List PlainEnabled
  pub clock : ℕ
  pub spare : ℕ

abbrev pub entries_in : List PlainEnabled → List PlainEntry
entries_in elements = map (λ x. x.entry) elements

-- how two of them compare: as their entries
abbrev pub enabled_cmp : PlainEnabled → PlainEnabled → Ordering
enabled_cmp x y = entry_cmp x.entry y.entry

-- the element is that of the entry
abbrev pub is_of : PlainElement → PlainEnabled → Bool
is_of e x = is_eq (element_cmp e x.entry.element)

-- one of them is of the element
abbrev pub is_kept : PlainElement → List PlainEnabled → Bool
is_kept e elements = list_any (is_of e) elements

-- the one that is of the element
abbrev pub kept_of : PlainElement → List PlainEnabled → Option PlainEnabled
kept_of e elements = find (is_of e) elements

-- those of other elements
abbrev pub without : PlainElement → List PlainEnabled → List PlainEnabled
without e elements = filter (λ x. not (is_of e x)) elements

-- those whose earliest time is not above the clock
abbrev pub due_at : ℕ → List PlainEnabled → List PlainEnabled
due_at clock elements = filter (λ x. nat_le x.entry.earliest clock) elements

-- the first one of a transition
abbrev pub first_of : ℕ → List PlainEnabled → Option PlainEnabled
first_of t elements = find (λ x. x.entry.element.transition == t) elements
