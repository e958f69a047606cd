-- Times taken anew: of one element, of one told value after another, and of all that is told.
use Rattle.std.proofs.Common.{◌≡◌, ◌⊎◌, ℕ, Bool, true, false, ◌||◌, List, [], ◌∷◌, ◌++◌, Option, Some, None, MatchOption, Contains, refl, sym, ap, ◌∙◌, subst, inl, inr, ⊎_elim}
use Rattle.std.proofs.lemmas.Bool.{cases_Bool}
use Rattle.cpn_definitions.specs.Value.{PlainValue}
use Rattle.cpn_definitions.specs.Lists.{Rises, with_item}
use Rattle.cpn_definitions.specs.Marking.{Marking}
use Rattle.cpn_definitions.specs.Net.{PlainNet}
use Rattle.cpn_definitions.specs.Sound.{IsMarking}
use Rattle.cpn_definitions.specs.Outcome.{gives}
use Rattle.cpn_definitions.specs.Occurrence.{PlainElement, Needed, needs_of, may_occur, covered}
use Rattle.cpn_definitions.specs.Enabled.{IsEarliest}
use Rattle.cpn_definitions.proofs.RisingLists.{IsIn, in_from_contains, contains_from_in}
use Rattle.cpn_definitions.proofs.TruthValues.{not_both}
use Rattle.cpn_search.specs.Found.{IsNeverCovered, IsLeastTime}
use Rattle.cpn_search.proofs.LeastTimes.{told_by_needs}
use Rattle.cpn_tmset.specs.Changed.{PlainChange, is_change, is_told}
use Rattle.cpn_due.specs.Due.{PlainEnabled, enabled_cmp, is_of, kept_of, without}
use Rattle.cpn_index.specs.Touched.{touches}
use Rattle.cpn_index.specs.Retimed.{IsFirstTime, at_time, IsOfNet, AreRetimed}
use Rattle.cpn_index.proofs.KeptLists.{or_cases, of_with_item, with_item_has, kept_of_in, none_of, without_from, without_has, one_of_rising}

untouched : (needs : List Needed) → touches [] needs ≡ true → ⊥
untouched [] touched = cc
untouched (need ∷ needs) touched = untouched needs touched

-- nothing is taken anew
pub none_anew : (n : PlainNet) (m : Marking) (old : List PlainEnabled) → AreRetimed n m [] old old
none_anew n m old = record {
  same = λ x h. (x, h, refl, refl);
  timed = λ x h. inl h;
  anew = λ x h touched. absurd (untouched x.needs touched);
  none_missing = λ y time h is. (y, h, refl);
}

-- what one more is told
pub told_more : (p : ℕ) (v : PlainValue) (told more : List PlainChange) → is_told p v (told ++ more) ≡ (is_told p v told || is_told p v more)
told_more p v [] more = refl
told_more p v (change ∷ told) more = split (is_change p v change) (told_more p v told more)
  where
    split : (b : Bool) → is_told p v (told ++ more) ≡ (is_told p v told || is_told p v more) → (b || is_told p v (told ++ more)) ≡ ((b || is_told p v told) || is_told p v more)
    split true rest = refl
    split false rest = rest

touched_more : (told more : List PlainChange) (needs : List Needed) → touches (told ++ more) needs ≡ true → (touches told needs ≡ true) ⊎ (touches more needs ≡ true)
touched_more told more [] is = cc
touched_more told more (need ∷ needs) is =
    ⊎_elim (λ here. ⊎_elim (λ first. inl (left _ _ first)) (λ second. inr (left _ _ second)) (or_cases (is_told need.place need.value told) (is_told need.place need.value more) (sym (told_more need.place need.value told more) ∙ here)))
    (λ there. ⊎_elim (λ first. inl (right _ _ first)) (λ second. inr (right _ _ second)) (touched_more told more needs there))
    (or_cases (is_told need.place need.value (told ++ more)) (touches (told ++ more) needs) is)
  where
    left : (a b : Bool) → a ≡ true → (a || b) ≡ true
    left a b is = rw is refl

    right : (a b : Bool) → b ≡ true → (a || b) ≡ true
    right true b is = refl
    right false b is = is

-- what is told first, and then more
pub retimed_then : (n : PlainNet) (m : Marking) (told more : List PlainChange) (first second third : List PlainEnabled) → AreRetimed n m told first second → AreRetimed n m more second third → AreRetimed n m (told ++ more) first third
retimed_then n m told more first second third one two = record {
  same = λ x h. let y = two.same x h in let z = one.same y.0 y.1 in (z.0, z.1, z.2 ∙ y.2, z.3 ∙ y.3);
  timed = λ x h. ⊎_elim (λ before. one.timed x before) (λ earliest. inr earliest) (two.timed x h);
  anew = λ x h touched. ⊎_elim (λ of_told. ⊎_elim (λ before. one.anew x before of_told) (λ earliest. earliest) (two.timed x h)) (λ of_more. two.anew x h of_more) (touched_more told more x.needs touched);
  none_missing = λ y time h is. let z = one.none_missing y time h is in let x = two.none_missing z.0 time z.1 (subst (λ (e : PlainElement). covered n m time e ≡ true) (sym z.2) is) in (x.0, x.1, x.2 ∙ z.2);
}

-- each is still an element of the net
pub still_of_net : (n : PlainNet) (m : Marking) (told : List PlainChange) (old new : List PlainEnabled) → AreRetimed n m told old new → ((y : PlainEnabled) → Contains old y → IsOfNet n y) → (x : PlainEnabled) → Contains new x → IsOfNet n x
still_of_net n m told old new are each x h =
    let y = are.same x h in
    let its = each y.0 y.1 in
    record {
      may = subst (λ (e : PlainElement). may_occur n e ≡ true) y.2 its.may;
      needs = subst (λ (e : PlainElement). needs_of n e ≡ gives x.needs) y.2 (subst (λ (ns : List Needed). needs_of n y.0.entry.element ≡ gives ns) y.3 its.needs);
    }

-- ---- of one element

module _ (n : PlainNet) (m : Marking) (marking : IsMarking n.places m) (e : PlainElement) (old : List PlainEnabled) (rising : Rises enabled_cmp old) (each : (y : PlainEnabled) → Contains old y → IsOfNet n y) where
  -- the time anew is the least time
  pub least_anew : (x : PlainEnabled) (first : Option ℕ) → IsIn x old → IsFirstTime m x.needs first → MatchOption first (IsNeverCovered n m x.entry.element) (IsLeastTime n m x.entry.element)
  least_anew x first h is = let its = each x (contains_from_in old x h) in told_by_needs n m x.entry.element x.needs first marking its.may its.needs is

  module _ (x : PlainEnabled) (kept : kept_of e old ≡ Some x) where
    here : IsIn x old
    here = (kept_of_in e old x kept).0

    of_e : is_of e x ≡ true
    of_e = (kept_of_in e old x kept).1

    of_others : (z : PlainEnabled) → IsIn z (without e old) → (y : PlainEnabled) × Contains old y × (y.entry.element ≡ z.entry.element) × (y.needs ≡ z.needs)
    of_others z h = (z, contains_from_in old z (without_from e old z h).0, refl, refl)

    -- an old one is one of the others, or the element itself
    kept_or_other : (y : PlainEnabled) → IsIn y old → IsIn y (without e old) ⊎ (x ≡ y)
    kept_or_other y h = ⊎_elim (λ of. inr (one_of_rising e old x y rising here h of_e of)) (λ other. inl (without_has e old y h other)) (cases_Bool (is_of e y))

    pub anew_none : ((time : ℕ) → covered n m time x.entry.element ≡ false) → AreRetimed n m [] old (without e old)
    anew_none never = record {
      same = λ z h. of_others z (in_from_contains (without e old) z h);
      timed = λ z h. inl (contains_from_in old z (without_from e old z (in_from_contains (without e old) z h)).0);
      anew = λ z h touched. absurd (untouched z.needs touched);
      none_missing = λ y time h is. ⊎_elim (λ other. (y, contains_from_in (without e old) y other, refl)) (λ itself. absurd (not_both (covered n m time x.entry.element) (subst (λ (k : PlainEnabled). covered n m time k.entry.element ≡ true) (sym itself) is) (never time))) (kept_or_other y (in_from_contains old y h));
    }

    module _ (time : ℕ) (least : IsLeastTime n m x.entry.element time) where
      abbrev others : List PlainEnabled
      others = without e old

      abbrev anew_list : List PlainEnabled
      anew_list = with_item enabled_cmp (at_time time x) others

      of_anew : (z : PlainEnabled) → Contains anew_list z → (at_time time x ≡ z) ⊎ IsIn z others
      of_anew z h = of_with_item enabled_cmp (at_time time x) z others (in_from_contains anew_list z h)

      in_anew : (z : PlainEnabled) → (at_time time x ≡ z) ⊎ IsIn z others → Contains anew_list z
      in_anew z h = contains_from_in anew_list z (with_item_has enabled_cmp (at_time time x) z others h)

      pub anew_some : AreRetimed n m [] old anew_list
      anew_some = record {
        same = λ z h. ⊎_elim (λ is. (x, contains_from_in old x here, ap (λ (k : PlainEnabled). k.entry.element) is, ap (λ (k : PlainEnabled). k.needs) is)) (λ other. of_others z other) (of_anew z h);
        timed = λ z h. ⊎_elim (λ is. inr (subst (λ (k : PlainEnabled). IsEarliest n m 0 k.entry) is least)) (λ other. inl (contains_from_in old z (without_from e old z other).0)) (of_anew z h);
        anew = λ z h touched. absurd (untouched z.needs touched);
        none_missing = λ y s h is. ⊎_elim (λ other. (y, in_anew y (inr other), refl)) (λ itself. (at_time time x, in_anew (at_time time x) (inl refl), ap (λ (k : PlainEnabled). k.entry.element) itself)) (kept_or_other y (in_from_contains old y h));
      }

  -- ---- and what is of the element has its least time then

  -- all that is kept of the element has its least time in the marking
  abbrev pub IsAnew : List PlainEnabled → PlainElement → Type 0
  IsAnew new f = (z : PlainEnabled) → Contains new z → is_of f z ≡ true → IsEarliest n m 0 z.entry

  pub is_anew_absent : kept_of e old ≡ None → IsAnew old e
  is_anew_absent none z h of = absurd (none_of e old z none (in_from_contains old z h) of)

  pub is_anew_none : (x : PlainEnabled) → IsAnew (without e old) e
  is_anew_none x z h of = absurd (not_both (is_of e z) of (without_from e old z (in_from_contains (without e old) z h)).1)

  pub is_anew_some : (x : PlainEnabled) (time : ℕ) → IsLeastTime n m x.entry.element time → IsAnew (with_item enabled_cmp (at_time time x) (without e old)) e
  is_anew_some x time least z h of =
      ⊎_elim (λ is. subst (λ (k : PlainEnabled). IsEarliest n m 0 k.entry) is least) (λ other. absurd (not_both (is_of e z) of (without_from e old z other).1))
      (of_with_item enabled_cmp (at_time time x) z (without e old) (in_from_contains (with_item enabled_cmp (at_time time x) (without e old)) z h))

  -- what was anew stays so
  pub still_anew : (told : List PlainChange) (new : List PlainEnabled) (f : PlainElement) → AreRetimed n m told old new → IsAnew old f → IsAnew new f
  still_anew told new f are anew z h of = ⊎_elim (λ before. anew z before of) (λ earliest. earliest) (are.timed z h)
