-- Numbers of monitors in lists that grow.
use Rattle.std.proofs.Common.{◌≡◌, ◌∙◌, refl, sym, subst, inl, inr, ◌⊎◌, ◌↔◌, ℕ, ◌+◌, ◌<◌, ◌≤◌, ◌==◌, Bool, true, false, not, List, [], ◌∷◌, ◌++◌, length, take, get_or, Option, Some, None, min, nat_le, eqb-true, arith}
use Rattle.std.specs.Prelude.{Contains}
use Rattle.std.specs.List.{AllByRecursion}
use Rattle.std.specs.Option.{is_some, is_none}
use Rattle.std.proofs.lemmas.Bool.{eqb-false, leb-true, leb-false}
use Rattle.std.proofs.lemmas.List.{take_more, take_all}
use Rattle.std.proofs.lemmas.List.Elements.{Contains-append_left, Contains-append_right, Contains-append_cases, Contains-push, Contains-push_cases}
use Rattle.cpn_numbers.specs.NumberLists.{numbers_at}
use Rattle.cpn_monitor.specs.Noted.{IsLeastOf, IsLesser}

-- ---- all of a list

pub all_more : {A : Type 0} (P : A → Type 0) (xs : List A) (x : A) → AllByRecursion P xs → P x → AllByRecursion P (xs ++ x ∷ [])
all_more P [] x all is = (is, tt)
all_more P (y ∷ xs) x all is = (all.0, all_more P xs x all.1 is)

pub all_weaker : {A : Type 0} (P Q : A → Type 0) → ((x : A) → P x → Q x) → (xs : List A) → AllByRecursion P xs → AllByRecursion Q xs
all_weaker P Q weaker [] all = tt
all_weaker P Q weaker (x ∷ xs) all = (weaker x all.0, all_weaker P Q weaker xs all.1)

-- ---- the numbers below a count

abbrev AreBelow : List ℕ → ℕ → Type 0
AreBelow numbers count = (k : ℕ) → Contains numbers k ↔ (k < count)

pub none_below : (numbers : List ℕ) → numbers ≡ [] → AreBelow numbers 0
none_below numbers none k = (λ h. (let there = subst (λ xs. Contains xs k) none h in let lt = there.1 in absurd (omega (arith, lt))), λ lt. absurd (omega (arith, lt)))

pub below_more : (old new : List ℕ) (count : ℕ) → new ≡ old ++ count ∷ [] → AreBelow old count → AreBelow new (count + 1)
below_more old new count is are k = (
  λ h. elim (Contains-push_cases old count k (subst (λ xs. Contains xs k) is h)) [ inl was ↦ (let lt = (are k).0 was in omega (arith, lt)) | inr last ↦ omega (arith, last) ],
  λ lt. subst (λ xs. Contains xs k) (sym is) (by lt (k == count) refl),
)
  where
    by : k < count + 1 → (b : Bool) → (k == count) ≡ b → Contains (old ++ count ∷ []) k
    by lt true e = subst (Contains (old ++ count ∷ [])) (sym (eqb-true k count e)) (Contains-push old count)
    by lt false e = let differ = eqb-false k count e in Contains-append_left old (count ∷ []) k ((are k).1 (omega (arith, lt, differ)))

pub below_all : (numbers : List ℕ) (i count : ℕ) → i ≡ count → AreBelow numbers i → AreBelow numbers count
below_all numbers i count is are = subst (AreBelow numbers) is are

-- ---- the monitors that an occurrence concerns

-- those of a transition, and those of some places
abbrev AreOf : List ℕ → List ℕ → List (List ℕ) → List ℕ → Type 0
AreOf first places of_place numbers = (k : ℕ) → Contains numbers k ↔ (Contains first k ⊎ ((p : ℕ) × Contains places p × Contains (numbers_at of_place p) k))

pub concerned_none : (first places : List ℕ) (of_place : List (List ℕ)) (numbers : List ℕ) → numbers ≡ first → AreOf first (take 0 places) of_place numbers
concerned_none first places of_place numbers is k = (
  λ h. inl (subst (λ xs. Contains xs k) is h),
  λ h. elim h [ inl there ↦ subst (λ xs. Contains xs k) (sym is) there | inr beside ↦ (let lt = beside.1.1 in absurd (omega (arith, lt))) ],
)

pub concerned_more : (first places : List ℕ) (of_place : List (List ℕ)) (i : ℕ) → i < length places → (old new : List ℕ) → AreOf first (take i places) of_place old → new ≡ old ++ numbers_at of_place (get_or places i 0)
    → AreOf first (take (i + 1) places) of_place new
concerned_more first places of_place i lt old new are is k = (
  λ h. elim (Contains-append_cases old (numbers_at of_place (get_or places i 0)) k (subst (λ xs. Contains xs k) is h)) [
    | inl was ↦ elim ((are k).0 was) [ inl there ↦ inl there | inr beside ↦ inr (beside.0, earlier beside.0 beside.1, beside.2) ]
    | inr last ↦ inr (get_or places i 0, this, last)
  ],
  λ h. subst (λ xs. Contains xs k) (sym is) (elim h [
    | inl there ↦ Contains-append_left old (numbers_at of_place (get_or places i 0)) k ((are k).1 (inl there))
    | inr beside ↦ elim (Contains-push_cases (take i places) (get_or places i 0) beside.0 (subst (λ xs. Contains xs beside.0) one_more beside.1)) [
      | inl before ↦ Contains-append_left old (numbers_at of_place (get_or places i 0)) k ((are k).1 (inr (beside.0, before, beside.2)))
      | inr same ↦ Contains-append_right old (numbers_at of_place (get_or places i 0)) k (subst (λ q. Contains (numbers_at of_place q) k) (sym same) beside.2)
    ]
  ]),
)
  where
    one_more : take (i + 1) places ≡ take i places ++ get_or places i 0 ∷ []
    one_more = take_more places i 0 lt

    earlier : (q : ℕ) → Contains (take i places) q → Contains (take (i + 1) places) q
    earlier q h = subst (λ xs. Contains xs q) (sym one_more) (Contains-append_left (take i places) (get_or places i 0 ∷ []) q h)

    this : Contains (take (i + 1) places) (get_or places i 0)
    this = subst (λ xs. Contains xs (get_or places i 0)) (sym one_more) (Contains-push (take i places) (get_or places i 0))

pub concerned_all : (first places : List ℕ) (of_place : List (List ℕ)) (i : ℕ) → length places ≤ i → (numbers : List ℕ) → AreOf first (take i places) of_place numbers → AreOf first places of_place numbers
concerned_all first places of_place i all numbers are = subst (λ xs. AreOf first xs of_place numbers) (take_all i places all) are

-- ---- the least number

-- where the next number passes
pub least_with : (passes : ℕ → Bool) (numbers : List ℕ) (number : ℕ) (found : Option ℕ) (least : ℕ) → IsLeastOf passes numbers found → passes number ≡ true → IsLesser found number least → IsLeastOf passes (numbers ++ number ∷ []) (Some least)
least_with passes numbers number None least none passed is = (
  subst (Contains (numbers ++ number ∷ [])) (sym is) (Contains-push numbers number),
  subst (λ k. passes k ≡ true) (sym is) passed,
  all_more (λ k. passes k ≡ true → least ≤ k) numbers number (all_weaker (λ k. passes k ≡ false) (λ k. passes k ≡ true → least ≤ k) (λ k fails holds. let clash = sym fails ∙ holds in cc) numbers none) (λ _. omega (arith, is)),
)
least_with passes numbers number (Some first) least found passed is = (
  elim (lesser_cases first number) [
    | inl low ↦ subst (Contains (numbers ++ number ∷ [])) (sym (is ∙ low)) (Contains-append_left numbers (number ∷ []) first found.0)
    | inr high ↦ subst (Contains (numbers ++ number ∷ [])) (sym (is ∙ high)) (Contains-push numbers number)
  ],
  elim (lesser_cases first number) [
    | inl low ↦ subst (λ k. passes k ≡ true) (sym (is ∙ low)) found.1
    | inr high ↦ subst (λ k. passes k ≡ true) (sym (is ∙ high)) passed
  ],
  all_more (λ k. passes k ≡ true → least ≤ k) numbers number (all_weaker (λ k. passes k ≡ true → first ≤ k) (λ k. passes k ≡ true → least ≤ k) (λ k up holds. (let low = up holds in omega (arith, low, is))) numbers found.2) (λ _. omega (arith, is)),
)
  where
    lesser_cases : (a b : ℕ) → (min a b ≡ a) ⊎ (min a b ≡ b)
    lesser_cases a b = by (nat_le a b) refl
      where
        by : (t : Bool) → nat_le a b ≡ t → (min a b ≡ a) ⊎ (min a b ≡ b)
        by true e = let le = leb-true a b e in inl (omega (arith, le))
        by false e = let gt = leb-false a b e in inr (omega (arith, gt))

-- and where it does not
pub least_without : (passes : ℕ → Bool) (numbers : List ℕ) (number : ℕ) (found : Option ℕ) → IsLeastOf passes numbers found → passes number ≡ false → IsLeastOf passes (numbers ++ number ∷ []) found
least_without passes numbers number None none fails = all_more (λ k. passes k ≡ false) numbers number none fails
least_without passes numbers number (Some first) found fails = (Contains-append_left numbers (number ∷ []) first found.0, found.1, all_more (λ k. passes k ≡ true → first ≤ k) numbers number found.2 (λ passed. let clash = sym fails ∙ passed in cc))

-- none was found, as it is told
pub none_found : {A : Type 0} (found : Option A) (none : Bool) → is_some found ≡ not none → none ≡ is_none found
none_found None true e = refl
none_found None false e = cc
none_found (Some x) true e = cc
none_found (Some x) false e = refl
