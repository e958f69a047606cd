-- What is kept when the least times of elements are taken anew in another marking. Source: own choice.
use Rattle.std.specs.Prelude.{◌≡◌, ◌⊎◌, ℕ, ◌<◌, ◌==◌, Bool, not, true, false, List, Option, Some, None, MatchOption, Contains}
use Rattle.std.specs.List.{AllByRecursion}
use Rattle.cpn_definitions.specs.Lists.{with_item}
use Rattle.cpn_definitions.specs.Marking.{Marking}
use Rattle.cpn_definitions.specs.Net.{PlainNet}
use Rattle.cpn_definitions.specs.Outcome.{gives}
use Rattle.cpn_definitions.specs.Occurrence.{PlainElement, Needed, needs_of, threshold, are_covered, may_occur, covered}
use Rattle.cpn_definitions.specs.Enabled.{IsEarliest}
use Rattle.cpn_tmset.specs.Changed.{PlainChange}
use Rattle.cpn_due.specs.Due.{PlainEnabled, enabled_cmp, kept_of, without}
use Rattle.cpn_index.specs.Touched.{touches}

-- the first time at which the marking covers the needs, where there is one
abbrev pub IsFirstTime : Marking → List Needed → Option ℕ → Type 0
IsFirstTime m needs first =
    MatchOption first ((time : ℕ) → are_covered (threshold time) m needs ≡ false)
    (λ least. (are_covered (threshold least) m needs ≡ true) × ((time : ℕ) → time < least → are_covered (threshold time) m needs ≡ false))

-- the same element with another time
abbrev pub at_time : ℕ → PlainEnabled → PlainEnabled
at_time time x = record x { entry = record x.entry { earliest = time } }

-- the others with the element at its new time, where it has one
abbrev pub retimed : Option ℕ → PlainEnabled → List PlainEnabled → List PlainEnabled
retimed None x others = others
retimed (Some time) x others = with_item enabled_cmp (at_time time x) others

-- Its needs are what the element needs in the net, and its transition may occur with its binding.
pub record IsOfNet (n : PlainNet) (x : PlainEnabled) : Type 0 where
  pub may : may_occur n x.entry.element ≡ true
  pub needs : needs_of n x.entry.element ≡ gives x.needs

-- Retimed: the new list has elements of the old one alone, each with the time that it had, or with its least time in the marking, and
-- with that if it needs what is told; and no old element is missing that is covered in the marking at some time.
pub record AreRetimed (n : PlainNet) (m : Marking) (told : List PlainChange) (old new : List PlainEnabled) : Type 0 where
  pub same : (x : PlainEnabled) → Contains new x → (y : PlainEnabled) × Contains old y × (y.entry.element ≡ x.entry.element) × (y.needs ≡ x.needs)
  pub timed : (x : PlainEnabled) → Contains new x → Contains old x ⊎ IsEarliest n m 0 x.entry
  pub anew : (x : PlainEnabled) → Contains new x → touches told x.needs ≡ true → IsEarliest n m 0 x.entry
  pub none_missing : (y : PlainEnabled) (time : ℕ) → Contains old y → covered n m time y.entry.element ≡ true → (x : PlainEnabled) × Contains new x × (x.entry.element ≡ y.entry.element)

-- Whether an element went, or has another time.
abbrev pub is_changed : Option ℕ → PlainEnabled → Bool
is_changed None x = true
is_changed (Some time) x = not (time == x.entry.earliest)

-- The element is back at its time in the marking, or is gone where it has none.
pub record IsBack (m : Marking) (x : PlainEnabled) (others new : List PlainEnabled) (changed : Bool) : Type 0 where
  pub first : Option ℕ
  pub is_first : IsFirstTime m x.needs first
  pub back : new ≡ retimed first x others
  pub answer : changed ≡ is_changed first x

-- Taken anew: where the element is there, it is back at its time in the marking or gone; else nothing changes.
pub record IsTakenAnew (m : Marking) (e : PlainElement) (old new : List PlainEnabled) (changed : Bool) : Type 0 where
  pub absent : kept_of e old ≡ None → (new ≡ old) × (changed ≡ false)
  pub there : (x : PlainEnabled) → kept_of e old ≡ Some x → IsBack m x (without e old) new changed

-- each is an element of the net
abbrev pub AreOfNet : PlainNet → List PlainEnabled → Type 0
AreOfNet n elements = AllByRecursion (IsOfNet n) elements
