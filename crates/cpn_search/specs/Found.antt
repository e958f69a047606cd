-- What a search has found after some of the bindings of a transition, and after some of the transitions of a net.
use Rattle.std.specs.Prelude.{◌≡◌, ℕ, ◌<◌, max, false, ◌↔◌, List, [], ◌∷◌, map, Option, Some, None, Contains}
use Rattle.cpn_definitions.specs.Lists.{Rises}
use Rattle.cpn_definitions.specs.Marking.{Marking}
use Rattle.cpn_definitions.specs.Net.{PlainNet}
use Rattle.cpn_definitions.specs.Meaning.{PlainBinding}
use Rattle.cpn_definitions.specs.Occurrence.{PlainElement, covered}
use Rattle.cpn_definitions.specs.Enabled.{PlainEntry, PlainFound, entry_cmp, entries_of, IsEarliest}

-- the element of a transition and a binding
abbrev pub element_of : ℕ → PlainBinding → PlainElement
element_of t b = record { transition = t; binding = b }

-- the element is covered at no time
abbrev pub IsNeverCovered : PlainNet → Marking → PlainElement → Type 0
IsNeverCovered n m e = (time : ℕ) → covered n m time e ≡ false

-- the time is the least one at which the element is covered
abbrev pub IsLeastTime : PlainNet → Marking → PlainElement → ℕ → Type 0
IsLeastTime n m e time = IsEarliest n m 0 (record { earliest = time; element = e })

-- a binding with its least time, where there is one
abbrev pub found_of : PlainBinding → Option ℕ → List PlainFound
found_of b None = []
found_of b (Some time) = record { binding = b; earliest = time } ∷ []

-- the entry, not before the clock
abbrev pub not_before : ℕ → PlainEntry → PlainEntry
not_before clock x = record x { earliest = max clock x.earliest }

-- the entries of a transition at a clock
abbrev pub entries_at : ℕ → ℕ → List PlainFound → List PlainEntry
entries_at clock t found = map (not_before clock) (entries_of t found)

-- Enabled below a transition: the list has each element of a transition of a lower number that is covered at some time
-- not before the clock once, in order, with the least such time; and it has no other.
pub record EnabledBelow (n : PlainNet) (m : Marking) (clock t : ℕ) (entries : List PlainEntry) : Type 0 where
  pub rising : Rises entry_cmp entries
  pub exact : (x : PlainEntry) → Contains entries x ↔ ((x.element.transition < t) × IsEarliest n m clock x)
