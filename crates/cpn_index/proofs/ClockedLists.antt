-- What is enabled from a clock on are the entries with their least times of all, or with the clock where that is later.
use Rattle.std.proofs.Common.{◌≡◌, ℕ, ◌≤◌, ◌<◌, ◌==◌, max, Bool, true, false, cond, nat_le, List, [], ◌∷◌, Option, Some, None, option_map, refl, sym, ap, ◌∙◌, subst, arith, ⊎_elim, Contains, Less}
use Rattle.std.specs.List.{AllByRecursion}
use Rattle.std.proofs.lemmas.Bool.{cases_lt}
use Rattle.cpn_definitions.specs.Lists.{Rises}
use Rattle.cpn_definitions.specs.Marking.{Marking}
use Rattle.cpn_definitions.specs.Net.{PlainNet}
use Rattle.cpn_definitions.specs.Occurrence.{PlainElement, covered}
use Rattle.cpn_definitions.specs.Enabled.{PlainEntry, entry_cmp, IsEarliest, Enabled, ready, or_sooner, next_time}
use Rattle.cpn_definitions.proofs.RisingLists.{IsIn, in_from_contains, contains_from_in, in_map, in_map_from}
use Rattle.cpn_definitions.proofs.LeastTimes.{covered_later, has_entry}
use Rattle.cpn_due.specs.Due.{PlainEnabled, entries_in, due_at}
use Rattle.cpn_index.specs.Clocks.{entry_from, from_clock_on}

-- the order is that of the elements
all_after : (clock : ℕ) (x : PlainEntry) (xs : List PlainEntry) → AllByRecursion (λ y. entry_cmp x y ≡ Less) xs → AllByRecursion (λ y. entry_cmp (entry_from clock x) y ≡ Less) (from_clock_on clock xs)
all_after clock x [] all = tt
all_after clock x (y ∷ xs) all = (all.0, all_after clock x xs all.1)

still_rising : (clock : ℕ) (xs : List PlainEntry) → Rises entry_cmp xs → Rises entry_cmp (from_clock_on clock xs)
still_rising clock [] rising = tt
still_rising clock (x ∷ xs) rising = (all_after clock x xs rising.0, still_rising clock xs rising.1)

module _ (n : PlainNet) (m : Marking) (clock : ℕ) where
  -- a least time of all, raised to the clock, is the least time from the clock on
  raised : (x : PlainEntry) → IsEarliest n m 0 x → IsEarliest n m clock (entry_from clock x)
  raised x is = ⊎_elim (λ early. sooner early) (λ late. later late) (cases_lt x.earliest clock)
    where
      sooner : x.earliest < clock → IsEarliest n m clock (entry_from clock x)
      sooner early = record {
        not_before = omega arith;
        is_covered = covered_later n m x.earliest (max clock x.earliest) x.element (omega arith) is.is_covered;
        not_earlier = λ s ge lt. absurd (omega (arith, early, ge, lt));
      }

      later : clock ≤ x.earliest → IsEarliest n m clock (entry_from clock x)
      later late = record {
        not_before = omega arith;
        is_covered = covered_later n m x.earliest (max clock x.earliest) x.element (omega arith) is.is_covered;
        not_earlier = λ s ge lt. is.not_earlier s (omega arith) (omega (arith, late, lt));
      }

  pub same_time : (x y : PlainEntry) → x.element ≡ y.element → IsEarliest n m clock x → IsEarliest n m clock y → x.earliest ≡ y.earliest
  same_time x y same first second = ⊎_elim (λ lt. absurd (before x y same first second lt)) (λ ge. ⊎_elim (λ gt. absurd (before y x (sym same) second first gt)) (λ le. omega arith) (cases_lt y.earliest x.earliest)) (cases_lt x.earliest y.earliest)
    where
      clash : (b : Bool) → b ≡ true → b ≡ false → ⊥
      clash b is not = cc

      before : (x y : PlainEntry) → x.element ≡ y.element → IsEarliest n m clock x → IsEarliest n m clock y → x.earliest < y.earliest → ⊥
      before x y same first second lt = clash (covered n m x.earliest y.element) (subst (λ (e : PlainElement). covered n m x.earliest e ≡ true) same first.is_covered) (second.not_earlier x.earliest first.not_before lt)

  pub from_clock_is_enabled : (entries : List PlainEntry) → Enabled n m 0 entries → Enabled n m clock (from_clock_on clock entries)
  from_clock_is_enabled entries enabled = record {
    rising = still_rising clock entries enabled.rising;
    exact = λ y. (λ has. of_listed y (in_map_from (entry_from clock) entries y (in_from_contains (from_clock_on clock entries) y has)), λ is. listed y is);
  }
    where
      of_listed : (y : PlainEntry) → (x : PlainEntry) × IsIn x entries × (entry_from clock x ≡ y) → IsEarliest n m clock y
      of_listed y of = subst (IsEarliest n m clock) of.2 (raised of.0 ((enabled.exact of.0).0 (contains_from_in entries of.0 of.1)))

      listed : (y : PlainEntry) → IsEarliest n m clock y → Contains (from_clock_on clock entries) y
      listed y is =
          let x = has_entry n m 0 y.earliest y.element is.is_covered in
          let here : IsIn (entry_from clock x.0) (from_clock_on clock entries) = in_map (entry_from clock) entries x.0 (in_from_contains entries x.0 ((enabled.exact x.0).1 x.2)) in
          let time : max clock x.0.earliest ≡ y.earliest = same_time (entry_from clock x.0) y x.1 (raised x.0 x.2) is in
          let same : entry_from clock x.0 ≡ y = entry_is (max clock x.0.earliest) y.earliest x.0.element y.element time x.1 in
          contains_from_in (from_clock_on clock entries) y (subst (λ (z : PlainEntry). IsIn z (from_clock_on clock entries)) same here)
        where
          entry_is : (s t : ℕ) (e f : PlainElement) → s ≡ t → e ≡ f → ◌≡◌ {A = PlainEntry} (record { earliest = s; element = e }) (record { earliest = t; element = f })
          entry_is s t e f time same = cc

-- ---- ready, and the next time

due_is : (clock time : ℕ) → (max clock time == clock) ≡ nat_le time clock
due_is clock time = grind arith

-- what is ready then are the entries that are due
pub ready_is_due : (clock : ℕ) (elements : List PlainEnabled) → ready clock (from_clock_on clock (entries_in elements)) ≡ from_clock_on clock (entries_in (due_at clock elements))
ready_is_due clock [] = refl
ready_is_due clock (x ∷ xs) = split (max clock x.entry.earliest == clock) (nat_le x.entry.earliest clock) (due_is clock x.entry.earliest) (ready_is_due clock xs)
  where
    split : (b d : Bool) → b ≡ d → ready clock (from_clock_on clock (entries_in xs)) ≡ from_clock_on clock (entries_in (due_at clock xs))
        → cond b (entry_from clock x.entry ∷ ready clock (from_clock_on clock (entries_in xs))) (ready clock (from_clock_on clock (entries_in xs))) ≡ from_clock_on clock (entries_in (cond d (x ∷ due_at clock xs) (due_at clock xs)))
    split true true e rest = ap (λ zs. entry_from clock x.entry ∷ zs) rest
    split true false e rest = cc
    split false true e rest = cc
    split false false e rest = rest

sooner_from : (clock time : ℕ) (other : Option ℕ) → or_sooner (max clock time) (option_map (max clock) other) ≡ max clock (or_sooner time other)
sooner_from clock time None = refl
sooner_from clock time (Some t) = omega arith

-- the next time is the least of all, or the clock where that is later
pub next_from_clock : (clock : ℕ) (entries : List PlainEntry) → next_time (from_clock_on clock entries) ≡ option_map (max clock) (next_time entries)
next_from_clock clock [] = refl
next_from_clock clock (x ∷ xs) = ap (λ (rest : Option ℕ). Some (or_sooner (max clock x.earliest) rest)) (next_from_clock clock xs) ∙ ap (λ (k : ℕ). Some k) (sooner_from clock x.earliest (next_time xs))
