-- How many steps an update may take. Source: own choice.
use Rattle.std.specs.Prelude.{◌≡◌, ◌⊎◌, ℕ, ◌+◌, ◌≤◌, ◌==◌, Bool, not, ◌&&◌, List, [], ◌∷◌, length}
use Rattle.std.specs.List.{filter, list_any, range_with_len}
use Rattle.std.specs.Ordering.{is_eq}
use Rattle.cpn_definitions.specs.Marking.{Marking}
use Rattle.cpn_definitions.specs.Net.{PlainNet, transition_at}
use Rattle.cpn_definitions.specs.Enabled.{PlainEntry, entry_cmp}
use Rattle.cpn_tmset.specs.Changed.{PlainChange}
use Rattle.cpn_stages.specs.Work.{IsFull, IsPinned}
use Rattle.cpn_due.specs.Due.{PlainEnabled, entries_in}
use Rattle.cpn_index.specs.Touched.{ReadsToldOtherwise}

-- the sum of the numbers that the items of a list have
abbrev pub IsSum : {A : Type 0} → (A → ℕ → Type 0) → List A → ℕ → Type 0
IsSum Has [] k = k ≡ 0
IsSum Has (x ∷ xs) k = (own later : ℕ) × Has x own × IsSum Has xs later × (k ≡ own + later)

-- the numbers of the transitions of a net
abbrev pub transitions_of : PlainNet → List ℕ
transitions_of n = range_with_len 0 (length n.transitions)

-- with a value on a place: Pinned of all transitions
abbrev pub IsPinnedInAll : PlainNet → Marking → PlainChange → ℕ → Type 0
IsPinnedInAll n m change k = IsSum (λ t own. IsPinned n m t change.place change.value own) (transitions_of n) k

-- as a whole: Full of a transition that reads a place otherwise on which a value is told, else none
abbrev pub IsFullIfRead : PlainNet → Marking → List PlainChange → ℕ → ℕ → Type 0
IsFullIfRead n m told t k = (ReadsToldOtherwise (transition_at n t) told × IsFull n m t k) ⊎ ((ReadsToldOtherwise (transition_at n t) told → ⊥) × (k ≡ 0))

-- the same element, with the same time
abbrev pub is_same_entry : PlainEntry → PlainEntry → Bool
is_same_entry x y = is_eq (entry_cmp x y) && (x.earliest == y.earliest)

-- the old entries that are gone or have another time
abbrev pub gone : List PlainEntry → List PlainEntry → List PlainEntry
gone old new = filter (λ x. not (list_any (is_same_entry x) new)) old

-- how many are gone of the entries of elements
abbrev pub gone_number : List PlainEntry → List PlainEnabled → ℕ
gone_number new elements = length (gone (entries_in elements) new)

-- The steps of an update are at most: Pinned, over all that is told and all transitions; Full, once for each transition that reads
-- a place otherwise on which a value is told; and one for each old entry that is gone or has another time.
pub record IsUpdateWork (n : PlainNet) (m : Marking) (told : List PlainChange) (old new : List PlainEntry) (k : ℕ) : Type 0 where
  pub pinned : ℕ
  pub pinned_is : IsSum (IsPinnedInAll n m) told pinned
  pub full : ℕ
  pub full_is : IsSum (IsFullIfRead n m told) (transitions_of n) full
  pub sum_is : k ≡ pinned + full + length (gone old new)

-- Within its work: there is such a number, and from the one count of steps to the other no more were made.
pub record IsWithinWork (n : PlainNet) (m : Marking) (told : List PlainChange) (old new : List PlainEntry) (before after : ℕ) : Type 0 where
  pub most : ℕ
  pub is_work : IsUpdateWork n m told old new most
  pub within : after ≤ before + most
