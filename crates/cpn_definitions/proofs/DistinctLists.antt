-- Lists of names that are distinct: two such lists behind one another, and lists that tell their positions apart.
use Rattle.std.proofs.Common.{◌≡◌, ℕ, zero, suc, ◌<◌, Bool, true, false, List, [], ◌∷◌, ◌++◌, length, slice_index_or, refl, sym, ap, subst, arith}
use Rattle.std.specs.List.{AllByRecursion, IsDistinct, list_any}
use Rattle.std.specs.Str.{bytes_eq}
use Rattle.std.proofs.lemmas.Map.Keys.{IsDistinct-cons, IsDistinct-head, IsDistinct-tail}
use Rattle.std.proofs.lemmas.Slice.Eq.{bytes_eq-Decides}
use Rattle.cpn_definitions.specs.DistinctNames.{AreDistinct}
use Rattle.cpn_definitions.proofs.RisingLists.{each_appended}

pub same_bytes : (x y : List ℕ) → bytes_eq x y ≡ true → x ≡ y
same_bytes x y h = (bytes_eq-Decides x y).0 h

pub bytes_of_itself : (x : List ℕ) → bytes_eq x x ≡ true
bytes_of_itself x = (bytes_eq-Decides x x).1 refl

-- names that are not the same
pub apart_bytes : (x y : List ℕ) → (x ≡ y → ⊥) → bytes_eq x y ≡ false
apart_bytes x y other = by (bytes_eq x y) refl
  where
    by : (b : Bool) → bytes_eq x y ≡ b → b ≡ false
    by false e = refl
    by true e = absurd (other (same_bytes x y e))

-- a name that is among some is none that is not
pub among_or_not : (x y : List ℕ) (names : List (List ℕ)) → list_any (bytes_eq x) names ≡ true → list_any (bytes_eq y) names ≡ false → bytes_eq x y ≡ false
among_or_not x y names there none = apart_bytes x y (λ same. let again : list_any (bytes_eq y) names ≡ true = subst (λ z. list_any (bytes_eq z) names ≡ true) same there in cc)

-- ---- one list behind another

-- what holds of each where something else does
pub each_also : {X : Type 0} (P Q : X → Type 0) → ((x : X) → P x → Q x) → (xs : List X) → AllByRecursion P xs → AllByRecursion Q xs
each_also P Q also [] all = tt
each_also P Q also (x ∷ xs) all = (also x all.0, each_also P Q also xs all.1)

-- two lists, all of the first among some names, and none of the second
pub distinct_behind : (names xs ys : List (List ℕ)) → AreDistinct xs → AreDistinct ys → AllByRecursion (λ x. list_any (bytes_eq x) names ≡ true) xs → AllByRecursion (λ y. list_any (bytes_eq y) names ≡ false) ys
    → AreDistinct (xs ++ ys)
distinct_behind names [] ys dx dy there none = dy
distinct_behind names (x ∷ xs) ys dx dy there none =
    IsDistinct-cons bytes_eq x (xs ++ ys) (each_appended (λ y. bytes_eq x y ≡ false) xs ys (IsDistinct-head bytes_eq x xs dx) (each_also (λ y. list_any (bytes_eq y) names ≡ false) (λ y. bytes_eq x y ≡ false) (λ y h. among_or_not x y names there.0 h) ys none))
    (distinct_behind names xs ys (IsDistinct-tail bytes_eq x xs dx) dy there.1 none)

-- ---- positions

-- one name stands at one position alone
abbrev pub TellsPositions : List (List ℕ) → Type 0
TellsPositions names = (i j : ℕ) → i < length names → j < length names → slice_index_or names i [] ≡ slice_index_or names j [] → i ≡ j

first_apart : (x : List ℕ) (ys : List (List ℕ)) → ((j : ℕ) → j < length ys → x ≡ slice_index_or ys j [] → ⊥) → AllByRecursion (λ y. bytes_eq x y ≡ false) ys
first_apart x [] other = tt
first_apart x (y ∷ ys) other = (apart_bytes x y (other 0 (omega arith)), first_apart x ys (λ j lt. other (suc j) (omega arith)))

-- Names that tell their positions are distinct,
pub distinct_from_positions : (names : List (List ℕ)) → TellsPositions names → AreDistinct names
unfolding IsDistinct
distinct_from_positions [] tells = tt
distinct_from_positions (x ∷ xs) tells =
    IsDistinct-cons bytes_eq x xs (first_apart x xs (λ j lt same. let e = tells 0 (suc j) (omega arith) (omega arith) same in absurd (omega (arith, e))))
    (distinct_from_positions xs (λ i j lt lt2 same. let e = tells (suc i) (suc j) (omega arith) (omega arith) same in omega (arith, e)))

apart_at : (x : List ℕ) (ys : List (List ℕ)) (j : ℕ) → j < length ys → AllByRecursion (λ y. bytes_eq x y ≡ false) ys → x ≡ slice_index_or ys j [] → ⊥
apart_at x [] j lt all same = absurd (omega arith)
apart_at x (y ∷ ys) zero lt all same = let yes = bytes_of_itself x in let no : bytes_eq x x ≡ false = subst (λ z. bytes_eq x z ≡ false) (sym same) all.0 in absurd cc
apart_at x (y ∷ ys) (suc j) lt all same = apart_at x ys j (omega arith) all.1 same

-- and distinct names tell their positions.
pub positions_from_distinct : (names : List (List ℕ)) → AreDistinct names → TellsPositions names
positions_from_distinct [] d i j lt lt2 same = absurd (omega arith)
positions_from_distinct (x ∷ xs) d zero zero lt lt2 same = refl
positions_from_distinct (x ∷ xs) d zero (suc j) lt lt2 same = absurd (apart_at x xs j (omega arith) (IsDistinct-head bytes_eq x xs d) same)
positions_from_distinct (x ∷ xs) d (suc i) zero lt lt2 same = absurd (apart_at x xs i (omega arith) (IsDistinct-head bytes_eq x xs d) (sym same))
positions_from_distinct (x ∷ xs) d (suc i) (suc j) lt lt2 same = ap suc (positions_from_distinct xs (IsDistinct-tail bytes_eq x xs d) i j (omega arith) (omega arith) same)
