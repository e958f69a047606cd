-- Laws: which numbers stand in lists where one is put behind the others.
use Rattle.std.proofs.Common.{◌≡◌, ◌∙◌, refl, sym, ap, subst, ℕ, zero, suc, ◌+◌, ◌-◌, ◌<◌, ◌==◌, ◌⊎◌, ◌↔◌, inl, inr, Bool, true, false, cond, List, [], ◌∷◌, ◌++◌, length, get_or, set, replicate, Some, slice_get, ap₂, map, Vec, Global, arith, eqb-true}
use Rattle.std.specs.Prelude.{Contains}
use Rattle.std.proofs.lemmas.Bool.{eqb-false}
use Rattle.std.proofs.lemmas.Bool.Decides.{nat_tests}
use Rattle.std.proofs.lemmas.Option.{slice_get_within}
use Rattle.std.proofs.lemmas.List.{map-append, map-set, get_or-map, get_or-set_same, get_or-set_other, length-map, length-set}
use Rattle.std.proofs.lemmas.List.Elements.{Contains-append_left, Contains-push, Contains-push_cases}
use Rattle.cpn_numbers.specs.NumberLists.{numbers_at, ends_with, with_last, with_number}

-- ---- the last number

last_at : (xs : List ℕ) (n x t : ℕ) → n + 1 ≡ length xs → slice_get xs n ≡ Some x → ends_with t xs ≡ (x == t)
last_at [] n x t long is = absurd (omega arith)
last_at (y ∷ []) zero x t long is = let same : y ≡ x = cc in ap (λ z. z == t) same
last_at (y ∷ []) (suc n) x t long is = absurd (omega arith)
last_at (y ∷ z ∷ zs) zero x t long is = absurd (omega arith)
last_at (y ∷ z ∷ zs) (suc n) x t long is = last_at (z ∷ zs) n x t (omega arith) is

pub last_is : (xs : List ℕ) (x t : ℕ) → Some x ≡ slice_get xs (length xs - 1) → ends_with t xs ≡ (x == t)
last_is xs x t is = let within = slice_get_within xs (length xs - 1) x (sym is) in last_at xs (length xs - 1) x t (omega (arith, within)) (sym is)

-- ---- one list

-- what a list ends with is in it
ends_in : (n : ℕ) (xs : List ℕ) → ends_with n xs ≡ true → Contains xs n
ends_in n [] is = cc
ends_in n (x ∷ []) is = (0, omega arith, eqb-true x n is)
ends_in n (x ∷ y ∷ ys) is = let rest = ends_in n (y ∷ ys) is in (suc rest.0, (let lt = rest.1 in omega (arith, lt)), rest.2)

-- A number is in the list with one more where it was there or is that one.
pub in_with_last : (n : ℕ) (xs : List ℕ) (m : ℕ) → Contains (with_last n xs) m ↔ (Contains xs m ⊎ (m ≡ n))
in_with_last n xs m = split (ends_with n xs) refl
  where
    split : (b : Bool) → ends_with n xs ≡ b → Contains (cond b xs (xs ++ n ∷ [])) m ↔ (Contains xs m ⊎ (m ≡ n))
    split true is = (λ h. inl h, λ h. elim h [ inl there ↦ there | inr same ↦ subst (Contains xs) (sym same) (ends_in n xs is) ])
    split false is = (
      λ h. elim (Contains-push_cases xs n m h) [ inl there ↦ inl there | inr same ↦ inr (sym same) ],
      λ h. elim h [ inl there ↦ Contains-append_left xs (n ∷ []) m there | inr same ↦ subst (Contains (xs ++ n ∷ [])) (sym same) (Contains-push xs n) ],
    )

-- ---- one of the lists

pub as_many_with : (k n : ℕ) (lists : List (List ℕ)) → length (with_number k n lists) ≡ length lists
as_many_with k n lists = length-set lists k (with_last n (numbers_at lists k))

-- the list of the number has one more, and each other list is as it was
pub at_with_number : (k n : ℕ) (lists : List (List ℕ)) (j : ℕ) → k < length lists → numbers_at (with_number k n lists) j ≡ cond (j == k) (with_last n (numbers_at lists k)) (numbers_at lists j)
at_with_number k n lists j there = split (j == k) refl
  where
    split : (b : Bool) → (j == k) ≡ b → numbers_at (with_number k n lists) j ≡ cond b (with_last n (numbers_at lists k)) (numbers_at lists j)
    split true is = ap (numbers_at (with_number k n lists)) (eqb-true j k is) ∙ get_or-set_same lists k (with_last n (numbers_at lists k)) [] there
    split false is = get_or-set_other lists k j (with_last n (numbers_at lists k)) [] (eqb-false j k is)

-- So a number is in a list where it was there, or where it was put there.
pub in_with_number : (k n : ℕ) (lists : List (List ℕ)) (j m : ℕ) → k < length lists → Contains (numbers_at (with_number k n lists) j) m ↔ (Contains (numbers_at lists j) m ⊎ ((j ≡ k) × (m ≡ n)))
in_with_number k n lists j m there = split (j == k) refl
  where
    split : (b : Bool) → (j == k) ≡ b → Contains (numbers_at (with_number k n lists) j) m ↔ (Contains (numbers_at lists j) m ⊎ ((j ≡ k) × (m ≡ n)))
    split true is =
        let at : j ≡ k = eqb-true j k is in
        let now : numbers_at (with_number k n lists) j ≡ with_last n (numbers_at lists j) = at_with_number k n lists j there ∙ ap (λ b. cond b (with_last n (numbers_at lists k)) (numbers_at lists j)) is ∙ ap (λ i. with_last n (numbers_at lists i)) (sym at) in
        let here = in_with_last n (numbers_at lists j) m in (
          λ h. elim (here.0 (subst (λ xs. Contains xs m) now h)) [ inl old ↦ inl old | inr same ↦ inr (at, same) ],
          λ h. subst (λ xs. Contains xs m) (sym now) (here.1 (elim h [ inl old ↦ inl old | inr both ↦ inr both.1 ])),
        )
    split false is =
        let now : numbers_at (with_number k n lists) j ≡ numbers_at lists j = at_with_number k n lists j there ∙ ap (λ b. cond b (with_last n (numbers_at lists k)) (numbers_at lists j)) is in (
          λ h. inl (subst (λ xs. Contains xs m) now h),
          λ h. elim h [ inl old ↦ subst (λ xs. Contains xs m) (sym now) old | inr both ↦ absurd (eqb-false j k is both.0) ],
        )

-- ---- empty lists

pub none_in_empty : (count k m : ℕ) → Contains (numbers_at (replicate count []) k) m → ⊥
none_in_empty zero k m h = omega (arith, h.1)
none_in_empty (suc count) zero m h = omega (arith, h.1)
none_in_empty (suc count) (suc k) m h = none_in_empty count k m h

-- ---- as the program has them

abbrev pub lists_of : List (Vec ℕ Global) → List (List ℕ)
lists_of lists = map (λ (numbers : Vec ℕ Global). numbers.items) lists

-- a list that is set to its numbers with one more
pub list_set : (k n : ℕ) (lists : List (Vec ℕ Global)) (old new : Vec ℕ Global) → k < length (lists_of lists) → old ≡ get_or lists k old → new.items ≡ with_last n old.items → lists_of (set lists k new) ≡ with_number k n (lists_of lists)
list_set k n lists old new there is with =
    let there' : k < length lists = (let long = length-map lists (λ (numbers : Vec ℕ Global). numbers.items) in omega (arith, there, long)) in
    map-set (λ (numbers : Vec ℕ Global). numbers.items) lists k new
    ∙ ap (set (lists_of lists) k) (with ∙ ap (λ (numbers : Vec ℕ Global). with_last n numbers.items) is ∙ ap (with_last n) (sym (get_or-map (λ (numbers : Vec ℕ Global). numbers.items) lists k old [] there')))

-- one empty list more
pub empty_more : (lists : List (Vec ℕ Global)) (count : ℕ) (more : Vec ℕ Global) → more.items ≡ [] → lists_of lists ≡ replicate count [] → lists_of (lists ++ more ∷ []) ≡ replicate (count + 1) []
empty_more lists count more none are = map-append (λ (numbers : Vec ℕ Global). numbers.items) lists (more ∷ []) ∙ ap₂ (λ (xs : List (List ℕ)) (x : List ℕ). xs ++ x ∷ []) are none ∙ last_one count ∙ ap (λ k. replicate k []) (let more : suc count ≡ count + 1 = omega arith in more)
  where
    last_one : (count : ℕ) → ◌≡◌ {A = List (List ℕ)} (replicate count [] ++ [] ∷ []) (replicate (suc count) [])
    last_one zero = refl
    last_one (suc count) = ap (λ xs. [] ∷ xs) (last_one count)

-- a list as it is borrowed
pub here : (lists : List (Vec ℕ Global)) (k : ℕ) (one : Vec ℕ Global) → k < length lists → one ≡ get_or lists k one → one.items ≡ numbers_at (lists_of lists) k
here lists k one lt is = ap (λ (numbers : Vec ℕ Global). numbers.items) is ∙ sym (get_or-map (λ (numbers : Vec ℕ Global). numbers.items) lists k one [] lt)
