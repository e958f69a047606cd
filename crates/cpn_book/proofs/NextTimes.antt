-- The next time of what is enabled in a marking: there is none where the marking is dead; else it is the least time at which an
-- element is covered, and something is ready when the clock stands at it.
use Rattle.std.proofs.Common.{◌≡◌, ℕ, ◌<◌, ◌≤◌, ◌⊎◌, ◌==◌, Bool, true, false, cond, List, [], ◌∷◌, length, Option, Some, None, refl, sym, ap, ◌∙◌, subst, inl, inr, arith, ⊎_elim, eq-eqb}
use Rattle.std.proofs.lemmas.Bool.{cases_lt, cases_Bool}
use Rattle.std.proofs.lemmas.Option.{same_Some}
use Rattle.cpn_definitions.specs.Marking.{Marking}
use Rattle.cpn_definitions.specs.Net.{PlainNet}
use Rattle.cpn_definitions.specs.Occurrence.{PlainElement, covered}
use Rattle.cpn_definitions.specs.Legal.{LeastTime}
use Rattle.cpn_definitions.specs.Enabled.{PlainEntry, IsEarliest, Enabled, ready, or_sooner, next_time, IsDead}
use Rattle.cpn_definitions.proofs.RisingLists.{IsIn, in_from_contains, contains_from_in}
use Rattle.cpn_definitions.proofs.LeastTimes.{none_is_dead, has_entry}
use Rattle.cpn_definitions.proofs.TruthValues.{not_both}

-- ---- the least of the earliest times

or_sooner_is : (time : ℕ) (other : Option ℕ) (least : ℕ) → or_sooner time other ≡ least → (least ≡ time) ⊎ (other ≡ Some least)
or_sooner_is time None least is = inl (sym is)
or_sooner_is time (Some t) least is = by (cases_lt t time)
  where
    by : (t < time) ⊎ (time ≤ t) → (least ≡ time) ⊎ (Some t ≡ Some least)
    by (inl lt) = inr (ap (λ (k : ℕ). Some k) (omega (arith, is)))
    by (inr ge) = inl (omega (arith, is))

or_sooner_below : (time : ℕ) (other : Option ℕ) (least : ℕ) → or_sooner time other ≡ least → least ≤ time
or_sooner_below time None least is = omega (arith, is)
or_sooner_below time (Some t) least is = omega (arith, is)

-- an entry has the next time
pub soonest_is_there : (xs : List PlainEntry) (time : ℕ) → next_time xs ≡ Some time → (x : PlainEntry) × IsIn x xs × (x.earliest ≡ time)
soonest_is_there [] time is = cc
soonest_is_there (x ∷ xs) time is =
    let least : or_sooner x.earliest (next_time xs) ≡ time = same_Some (or_sooner x.earliest (next_time xs)) time is in
    by (λ rest. soonest_is_there xs time rest) (or_sooner_is x.earliest (next_time xs) time least)
  where
    by : (next_time xs ≡ Some time → (y : PlainEntry) × IsIn y xs × (y.earliest ≡ time)) → (time ≡ x.earliest) ⊎ (next_time xs ≡ Some time) → (y : PlainEntry) × IsIn y (x ∷ xs) × (y.earliest ≡ time)
    by later (inl same) = (x, inl refl, sym same)
    by later (inr rest) = let y = later rest in (y.0, inr y.1, y.2)

nowhere_in_none : (xs : List PlainEntry) (x : PlainEntry) → next_time xs ≡ None → IsIn x xs → ⊥
nowhere_in_none [] x none here = here
nowhere_in_none (y ∷ xs) x none here = cc

-- none has an earlier one
pub none_is_sooner : (xs : List PlainEntry) (time : ℕ) (x : PlainEntry) → next_time xs ≡ Some time → IsIn x xs → time ≤ x.earliest
none_is_sooner [] time x is here = absurd here
none_is_sooner (y ∷ xs) time x is (inl same) =
    let least : or_sooner y.earliest (next_time xs) ≡ time = same_Some (or_sooner y.earliest (next_time xs)) time is in
    subst (λ (z : PlainEntry). time ≤ z.earliest) same (or_sooner_below y.earliest (next_time xs) time least)
none_is_sooner (y ∷ xs) time x is (inr there) = by (λ t some. none_is_sooner xs t x some there) (next_time xs) refl (same_Some (or_sooner y.earliest (next_time xs)) time is)
  where
    by : ((t : ℕ) → next_time xs ≡ Some t → t ≤ x.earliest) → (rest : Option ℕ) → next_time xs ≡ rest → or_sooner y.earliest rest ≡ time → time ≤ x.earliest
    by later None none least = absurd (nowhere_in_none xs x none there)
    by later (Some t) some least = let below : t ≤ x.earliest = later t some in omega (arith, least, below)

-- there is none of no entries alone
pub none_has_no_entry : (xs : List PlainEntry) → next_time xs ≡ None → xs ≡ []
none_has_no_entry [] none = refl
none_has_no_entry (x ∷ xs) none = cc

-- ---- in a marking

pub no_next_is_dead : (n : PlainNet) (m : Marking) (clock : ℕ) (entries : List PlainEntry) → Enabled n m clock entries → next_time entries ≡ None → IsDead n m
no_next_is_dead n m clock entries enabled none =
    let P : List PlainEntry → Type 0 = λ xs. Enabled n m clock xs in
    none_is_dead n m clock (subst P (none_has_no_entry entries none) enabled)

-- where an entry has the time, something is ready at it
one_is_ready : (time : ℕ) (xs : List PlainEntry) (x : PlainEntry) → IsIn x xs → x.earliest ≡ time → 0 < length (ready time xs)
one_is_ready time [] x here is = absurd here
one_is_ready time (y ∷ xs) x here is = by (λ later. one_is_ready time xs x later is) (y.earliest == time) refl here
  where
    by : (IsIn x xs → 0 < length (ready time xs)) → (b : Bool) → (y.earliest == time) ≡ b → (y ≡ x) ⊎ IsIn x xs → 0 < length (cond b (y ∷ ready time xs) (ready time xs))
    by rest true same where_it_is = omega arith
    by rest false other (inl same) = absurd (not_both (y.earliest == time) (eq-eqb y.earliest time (ap (λ (z : PlainEntry). z.earliest) same ∙ is)) other)
    by rest false other (inr later) = rest later

-- where nothing is ready, nothing is covered at the clock
pub none_is_covered : (n : PlainNet) (m : Marking) (clock : ℕ) (entries : List PlainEntry) → Enabled n m clock entries → length (ready clock entries) ≡ 0 → (e : PlainElement) → covered n m clock e ≡ false
none_is_covered n m clock entries enabled none e = ⊎_elim (λ yes. absurd (some yes)) (λ no. no) (cases_Bool (covered n m clock e))
  where
    some : covered n m clock e ≡ true → ⊥
    some is =
        let y = has_entry n m clock clock e is in
        now y.0 y.1 y.2 (cases_lt clock y.0.earliest)
      where
        now : (x : PlainEntry) → x.element ≡ e → IsEarliest n m clock x → (clock < x.earliest) ⊎ (x.earliest ≤ clock) → ⊥
        now x same earliest (inl late) = not_both (covered n m clock e) is (subst (λ f. covered n m clock f ≡ false) same (earliest.not_earlier clock (omega arith) late))
        now x same earliest (inr early) =
            let from = earliest.not_before in
            let one = one_is_ready clock entries x (in_from_contains entries x ((enabled.exact x).1 earliest)) (omega (arith, from, early)) in
            omega (arith, one, none)

module _ (n : PlainNet) (m : Marking) (clock time : ℕ) (entries : List PlainEntry) (enabled : Enabled n m clock entries) (next : next_time entries ≡ Some time) where
  -- the entry that has the next time
  there : (x : PlainEntry) × IsIn x entries × (x.earliest ≡ time)
  there = soonest_is_there entries time next

  its_earliest : IsEarliest n m clock there.0
  its_earliest = (enabled.exact there.0).0 (contains_from_in entries there.0 there.1)

  -- nothing is covered before it
  none_before : (s : ℕ) (e : PlainElement) → clock ≤ s → s < time → covered n m s e ≡ false
  none_before s e from before = ⊎_elim (λ yes. absurd (none yes)) (λ no. no) (cases_Bool (covered n m s e))
    where
      none : covered n m s e ≡ true → ⊥
      none is =
          let y = has_entry n m clock s e is in
          let late : time ≤ y.0.earliest = none_is_sooner entries time y.0 next (in_from_contains entries y.0 ((enabled.exact y.0).1 y.2)) in
          not_both (covered n m s e) is (subst (λ f. covered n m s f ≡ false) y.1 (y.2.not_earlier s from (omega arith)))

  pub next_is_least : LeastTime n m clock time
  next_is_least = record {
    not_before = subst (λ (t : ℕ). clock ≤ t) there.2 its_earliest.not_before;
    some = (there.0.element, subst (λ (t : ℕ). covered n m t there.0.element ≡ true) there.2 its_earliest.is_covered);
    none_earlier = none_before;
  }

  -- something is ready then
  pub some_are_ready : 0 < length (ready time entries)
  some_are_ready = one_is_ready time entries there.0 there.1 there.2
