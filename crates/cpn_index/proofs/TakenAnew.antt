-- The time of one element taken anew, and of all those that wait for a value on a place.
use Rattle.std.proofs.Common.{◌≡◌, ℕ, ◌+◌, ◌≤◌, ◌==◌, Bool, true, false, not, ◌&&◌, ◌||◌, List, [], ◌∷◌, ◌++◌, Option, Some, None, Contains, refl, sym, ap, ◌∙◌, subst, inl, inr, ⊎_elim, arith, eqb-true, eq-eqb}
use Rattle.std.specs.List.{list_any}
use Rattle.std.specs.Ordering.{is_eq}
use Rattle.std.proofs.lemmas.Bool.{and_parts, and_from}
use Rattle.std.proofs.lemmas.Cmp.{tied_back}
use Rattle.cpn_definitions.specs.Value.{PlainValue}
use Rattle.cpn_definitions.specs.Order.{value_cmp, same_value}
use Rattle.cpn_definitions.specs.ValueOrder.{value_cmp_total}
use Rattle.cpn_definitions.specs.Lists.{Rises, with_item}
use Rattle.cpn_definitions.specs.Marking.{Marking}
use Rattle.cpn_definitions.specs.Net.{PlainNet}
use Rattle.cpn_definitions.specs.Sound.{IsMarking}
use Rattle.cpn_definitions.specs.Occurrence.{PlainElement, Needed}
use Rattle.cpn_definitions.specs.Enabled.{PlainEntry, element_cmp, IsEarliest, Enabled}
use Rattle.cpn_definitions.proofs.KeyedEntries.{equal_from}
use Rattle.cpn_definitions.proofs.OneEnabledList.{entry_cmp_total}
use Rattle.cpn_definitions.proofs.RisingLists.{IsIn, in_from_contains, contains_from_in, in_append_cases, of_one_in, each_in, some_passes, one_that_passes}
use Rattle.cpn_search.specs.Found.{IsLeastTime}
use Rattle.cpn_search.proofs.LeastTimes.{not_never}
use Rattle.cpn_tmset.specs.Changed.{PlainChange, is_change, is_told}
use Rattle.cpn_due.specs.Due.{PlainEnabled, enabled_cmp, is_of, kept_of, without}
use Rattle.cpn_index.specs.Touched.{touches}
use Rattle.cpn_index.specs.Retimed.{IsFirstTime, at_time, retimed, IsOfNet, AreOfNet, AreRetimed, is_changed, IsTakenAnew}
use Rattle.cpn_index.specs.UpdateWork.{gone_number}
use Rattle.cpn_index.specs.Waiting.{same_element}
use Rattle.cpn_index.specs.Watchers.{is_needed}
use Rattle.cpn_index.specs.WatchedElements.{waits}
use Rattle.cpn_index.proofs.ClockedLists.{same_time}
use Rattle.cpn_index.proofs.KeptLists.{or_cases, kept_of_in, of_itself}
use Rattle.cpn_index.proofs.RetimedLists.{none_anew, retimed_then, still_of_net, least_anew, anew_none, anew_some, IsAnew, is_anew_absent, is_anew_none, is_anew_some}
use Rattle.cpn_index.proofs.GoneEntries.{is_gone, one_if, gone_with_item, gone_without, not_gone, gone_if_late}

module _ (n : PlainNet) (m : Marking) (marking : IsMarking n.places m) (e : PlainElement) (old : List PlainEnabled) (rising : Rises enabled_cmp old) (own : AreOfNet n old) where
  pub each : (y : PlainEnabled) → Contains old y → IsOfNet n y
  each y h = of_one_in (IsOfNet n) old y own (in_from_contains old y h)

  -- the list is retimed, and what is of the element has its least time
  abbrev pub Anew : List PlainEnabled → Type 0
  Anew new = AreRetimed n m [] old new × IsAnew n m marking e old rising each new e

  pub taken_anew : (new : List PlainEnabled) (changed : Bool) → IsTakenAnew m e old new changed → Anew new
  taken_anew new changed is = split (kept_of e old) refl
    where
      back : (x : PlainEnabled) → kept_of e old ≡ Some x → (first : Option ℕ) → IsFirstTime m x.needs first → Anew (retimed first x (without e old))
      back x kept None first =
          let never = least_anew n m marking e old rising each x None (kept_of_in e old x kept).0 first in
          (anew_none n m marking e old rising each x kept never, is_anew_none n m marking e old rising each x)
      back x kept (Some time) first =
          let least = least_anew n m marking e old rising each x (Some time) (kept_of_in e old x kept).0 first in
          (anew_some n m marking e old rising each x kept time least, is_anew_some n m marking e old rising each x time least)

      split : (o : Option PlainEnabled) → kept_of e old ≡ o → Anew new
      split None none = subst Anew (sym (is.absent none).0) (none_anew n m old, is_anew_absent n m marking e old rising each none)
      split (Some x) kept = let its = is.there x kept in subst Anew (sym its.back) (back x kept its.first its.is_first)

  abbrev pub Fewer : List PlainEntry → Bool → List PlainEnabled → Type 0
  Fewer final changed new = one_if changed + gone_number final new ≤ gone_number final old

  module _ (final : List PlainEntry) (enabled : Enabled n m 0 final) where
    one_time : (x : PlainEnabled) (time : ℕ) → IsLeastTime n m x.entry.element time → IsEarliest n m 0 x.entry → time ≡ x.entry.earliest
    one_time x time least own = same_time n m 0 (record { earliest = time; element = x.entry.element }) x.entry refl least own

    -- an element that went or has another time was gone from the final list, and no more are gone now
    pub fewer_gone : (new : List PlainEnabled) (changed : Bool) → IsTakenAnew m e old new changed → one_if changed + gone_number final new ≤ gone_number final old
    fewer_gone new changed is = split (kept_of e old) refl
      where
        of_net : (x : PlainEnabled) → kept_of e old ≡ Some x → IsOfNet n x
        of_net x kept = each x (contains_from_in old x (kept_of_in e old x kept).0)

        back : (x : PlainEnabled) → kept_of e old ≡ Some x → (first : Option ℕ) → IsFirstTime m x.needs first → Fewer final (is_changed first x) (retimed first x (without e old))
        back x kept None first =
            let never = least_anew n m marking e old rising each x None (kept_of_in e old x kept).0 first in
            let out = gone_without final e old x rising kept in
            let late : is_gone final x ≡ true = gone_if_late n m final enabled x (of_net x kept) (λ is. not_never n m 0 x.entry is never) in
            let one : one_if (is_gone final x) ≡ 1 = ap one_if late in
            omega (arith, out, one)
        back x kept (Some time) first =
            let least = least_anew n m marking e old rising each x (Some time) (kept_of_in e old x kept).0 first in
            let out = gone_without final e old x rising kept in
            let there : one_if (is_gone final (at_time time x)) ≡ 0 = ap one_if (not_gone n m final enabled (at_time time x) least) in
            let put = gone_with_item final (at_time time x) (without e old) in
            at_its_time (time == x.entry.earliest) refl least out there put
          where
            others : List PlainEnabled
            others = without e old

            at_its_time : (b : Bool) → (time == x.entry.earliest) ≡ b → IsLeastTime n m x.entry.element time → gone_number final old ≡ one_if (is_gone final x) + gone_number final others → one_if (is_gone final (at_time time x)) ≡ 0
                → gone_number final (with_item enabled_cmp (at_time time x) others) ≡ one_if (is_gone final (at_time time x)) + gone_number final others → one_if (not b) + gone_number final (with_item enabled_cmp (at_time time x) others) ≤ gone_number final old
            at_its_time true same least out there put = omega (arith, out, there, put)
            at_its_time false other least out there put =
                let late : is_gone final x ≡ true = gone_if_late n m final enabled x (of_net x kept) (λ is. clash (time == x.entry.earliest) (eq-eqb time x.entry.earliest (one_time x time least is)) other) in
                let one : one_if (is_gone final x) ≡ 1 = ap one_if late in
                omega (arith, out, one, there, put)
              where
                clash : (b : Bool) → b ≡ true → b ≡ false → ⊥
                clash b is other = cc

        absent_none : (new ≡ old) × (changed ≡ false) → Fewer final changed new
        absent_none none = subst (λ (b : Bool). Fewer final b new) (sym none.1) (subst (Fewer final false) (sym none.0) (omega arith))

        split : (o : Option PlainEnabled) → kept_of e old ≡ o → Fewer final changed new
        split None none = absent_none (is.absent none)
        split (Some x) kept = let its = is.there x kept in subst (λ (b : Bool). Fewer final b new) (sym its.answer) (subst (Fewer final (is_changed its.first x)) (sym its.back) (back x kept its.first its.is_first))

-- ---- of those that wait

same_back : (v w : PlainValue) → same_value v w ≡ true → same_value w v ≡ true
same_back v w is = ap is_eq (tied_back value_cmp_total v w (equal_from (value_cmp v w) is))

element_back : (e f : PlainElement) → same_element e f ≡ true → same_element f e ≡ true
element_back e f is = ap is_eq (tied_back entry_cmp_total (record { earliest = 0; element = e }) (record { earliest = 0; element = f }) (equal_from (element_cmp e f) is))

-- what is touched by one change needs its value on its place
touched_needs : (change : PlainChange) (needs : List Needed) → touches (change ∷ []) needs ≡ true → is_needed change.place change.value needs ≡ true
touched_needs change [] is = cc
touched_needs change (need ∷ needs) is =
    ⊎_elim (λ here. left _ _ (need_is here)) (λ there. right _ _ (touched_needs change needs there)) (or_cases (is_told need.place need.value (change ∷ [])) (touches (change ∷ []) needs) is)
  where
    left : (a b : Bool) → a ≡ true → (a || b) ≡ true
    left a b is = rw is refl

    right : (a b : Bool) → b ≡ true → (a || b) ≡ true
    right true b is = refl
    right false b is = is

    need_is : is_told need.place need.value (change ∷ []) ≡ true → ((change.place == need.place) && same_value change.value need.value) ≡ true
    need_is told =
        ⊎_elim (λ one. let parts = and_parts (need.place == change.place) (same_value need.value change.value) one in
        and_from _ _ (eq-eqb change.place need.place (sym (eqb-true need.place change.place parts.0))) (same_back need.value change.value parts.1)) (λ none. absurd (clash none)) (or_cases (is_change need.place need.value change) false told)
      where
        clash : false ≡ true → ⊥
        clash is = cc

-- where all that wait for a value have their least time, the list is retimed for that value
pub waiting_anew
    : {A : Type 0} (view : A → PlainElement) (n : PlainNet) (m : Marking) (change : PlainChange) (old new : List PlainEnabled) (waiting : List A)
    → ((e : PlainElement) → list_any (λ a. same_element e (view a)) waiting ≡ waits old change.place change.value e)
    → AreRetimed n m [] old new → ((a : A) → IsIn a waiting → (z : PlainEnabled) → Contains new z → is_of (view a) z ≡ true → IsEarliest n m 0 z.entry)
    → AreRetimed n m (change ∷ []) old new
waiting_anew view n m change old new waiting exact are anew = record {
  same = are.same;
  timed = are.timed;
  anew = λ x h touched. of_waiting x h touched;
  none_missing = are.none_missing;
}
  where
    of_waiting : (x : PlainEnabled) → Contains new x → touches (change ∷ []) x.needs ≡ true → IsEarliest n m 0 x.entry
    of_waiting x h touched =
        let y = are.same x h in
        let needed : is_needed change.place change.value y.0.needs ≡ true = subst (λ (ns : List Needed). is_needed change.place change.value ns ≡ true) (sym y.3) (touched_needs change x.needs touched) in
        let waits_there : waits old change.place change.value x.entry.element ≡ true =
        some_passes (λ z. is_of x.entry.element z && is_needed change.place change.value z.needs) old y.0 (in_from_contains old y.0 y.1) (and_from _ _ (of_itself x.entry.element y.0 y.2) needed) in
        let one = one_that_passes (λ a. same_element x.entry.element (view a)) waiting (exact x.entry.element ∙ waits_there) in
        anew one.0 one.1 x h (element_back x.entry.element (view one.0) one.2)

-- ---- one after another

-- all that is kept of the elements has its least time in the marking
abbrev pub AreAnew : {A : Type 0} → (A → PlainElement) → PlainNet → Marking → List A → List PlainEnabled → Type 0
AreAnew {A} view n m waiting elements = (a : A) → IsIn a waiting → (z : PlainEnabled) → Contains elements z → is_of (view a) z ≡ true → IsEarliest n m 0 z.entry

pub still_each : (n : PlainNet) (m : Marking) (told : List PlainChange) (old new : List PlainEnabled) → AreRetimed n m told old new → AreOfNet n old → AreOfNet n new
still_each n m told old new are own = each_in (IsOfNet n) new (λ x h. still_of_net n m told old new are (λ y there. of_one_in (IsOfNet n) old y own (in_from_contains old y there)) x (contains_from_in new x h))

-- what was retimed for what was told, and then for more
pub change_anew : (n : PlainNet) (m : Marking) (told : List PlainChange) (change : PlainChange) (first second third : List PlainEnabled) → AreOfNet n first → AreRetimed n m told first second → (AreOfNet n second → AreRetimed n m (change ∷ []) second third) → AreRetimed n m (told ++ change ∷ []) first third
change_anew n m told change first second third own one two = retimed_then n m told (change ∷ []) first second third one (two (still_each n m told first second one own))

module _ {A : Type 0} (view : A → PlainElement) (n : PlainNet) (m : Marking) (marking : IsMarking n.places m) (start now : List PlainEnabled) (own : AreOfNet n start) (so_far : AreRetimed n m [] start now) (rising : Rises enabled_cmp now) where
  pub own_now : AreOfNet n now
  own_now = still_each n m [] start now so_far own

  -- one more
  pub one_anew : (waiting : List A) (a : A) (new : List PlainEnabled) (changed : Bool) → AreAnew view n m waiting now → IsTakenAnew m (view a) now new changed → AreRetimed n m [] start new × AreAnew view n m (waiting ++ a ∷ []) new
  one_anew waiting a new changed anew is =
      let taken = taken_anew n m marking (view a) now rising own_now new changed is in (
        retimed_then n m [] [] start now new so_far taken.0,
        λ b h z there of. ⊎_elim (λ earlier. ⊎_elim (λ before. anew b earlier z before of) (λ earliest. earliest) (taken.0.timed z there)) (λ last. taken.1 z there (subst (λ (c : A). is_of (view c) z ≡ true) (only b last) of)) (in_append_cases waiting (a ∷ []) b h),
      )
    where
      only : (b : A) → IsIn b (a ∷ []) → b ≡ a
      only b (inl same) = sym same
      only b (inr h) = absurd h

  -- with a step where it went, or has another time
  pub one_fewer : (a : A) (new : List PlainEnabled) (changed : Bool) (final : List PlainEntry) → Enabled n m 0 final → IsTakenAnew m (view a) now new changed → one_if changed + gone_number final new ≤ gone_number final now
  one_fewer a new changed final enabled is = fewer_gone n m marking (view a) now rising own_now final enabled new changed is
