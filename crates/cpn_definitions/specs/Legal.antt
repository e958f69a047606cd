-- Legal occurrence sequences. Source: Jensen and Kristensen, chapter 11.
use Rattle.std.specs.Prelude.{◌≡◌, ℕ, ◌≤◌, ◌<◌, ◌⊎◌, true, false, List, [], ◌∷◌, Some}
use Rattle.cpn_definitions.specs.Marking.{Marking}
use Rattle.cpn_definitions.specs.Net.{PlainNet}
use Rattle.cpn_definitions.specs.Occurrence.{PlainElement, covered, after}

-- LeastTime: the least time not before the clock at which some element is covered.
pub record LeastTime (n : PlainNet) (m : Marking) (clock time : ℕ) : Type 0 where
  pub not_before : clock ≤ time
  pub some : (e : PlainElement) × (covered n m time e ≡ true)
  pub none_earlier : (s : ℕ) (e : PlainElement) → clock ≤ s → s < time → covered n m s e ≡ false

-- A binding element and the time at which it occurs.
pub record TimedElement : Type 0 where
  pub element : PlainElement
  pub time : ℕ

-- An occurrence: its number among those of a sequence, from 0, its time, and its element.
pub record PlainOccurrence : Type 0 where
  pub number : ℕ
  pub time : ℕ
  pub element : PlainElement

-- what an occurrence is in a legal sequence
abbrev pub timed : PlainOccurrence → TimedElement
timed o = record { element = o.element; time = o.time }

-- Legal: from a marking at a clock, the elements may occur in this order at their times, and lead to the
-- last marking and clock. Each occurs at the least time, not before that of the one before it (of the first:
-- not before the clock), at which any element is covered. The last clock is the time of the last occurrence
-- (the clock, where there is none), or the least time from it.
abbrev pub Legal : PlainNet → Marking → ℕ → List TimedElement → Marking → ℕ → Type 0
Legal n m clock [] last end = (last ≡ m) × ((end ≡ clock) ⊎ LeastTime n m clock end)
Legal n m clock (o ∷ os) last end =
    LeastTime n m clock o.time
    × (covered n m o.time o.element ≡ true)
    × ((next : Marking) × (after n m o.time o.element ≡ Some next) × Legal n next o.time os last end)
