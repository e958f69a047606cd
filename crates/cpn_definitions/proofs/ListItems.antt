-- The items of a list: the last one, one that is set, and one of them with what stands before and behind it.
use Rattle.std.proofs.Common.{◌≡◌, ℕ, zero, suc, ◌+◌, ◌<◌, List, [], ◌∷◌, ◌++◌, length, map, get_or, drop, Option, Some, None, refl, sym, ap, ◌∙◌, arith, inl, inr, slice_get, slice_set, option_map}
use Rattle.std.specs.List.{AllByRecursion}
use Rattle.std.proofs.lemmas.List.{drop_more}
use Rattle.cpn_definitions.proofs.RisingLists.{IsIn}

-- ---- the last of a list

pub last_is : {A : Type 0} (xs : List A) (x : A) → slice_get (xs ++ x ∷ []) (length xs) ≡ Some x
last_is [] x = refl
last_is (y ∷ xs) x = last_is xs x

pub last_changed : {A : Type 0} (xs : List A) (x y : A) → slice_set (xs ++ x ∷ []) (length xs) y ≡ xs ++ y ∷ []
last_changed [] x y = refl
last_changed (z ∷ xs) x y = ap (λ ys. z ∷ ys) (last_changed xs x y)

pub last_is_at : {A : Type 0} (xs : List A) (k : ℕ) (x : A) → length xs ≡ k → slice_get (xs ++ x ∷ []) k ≡ Some x
last_is_at xs k x same = rw (← same) (last_is xs x)

pub map_more : {A B : Type 0} (f : A → B) (xs : List A) (x : A) → map f (xs ++ x ∷ []) ≡ map f xs ++ f x ∷ []
map_more f [] x = refl
map_more f (y ∷ xs) x = ap (λ ys. f y ∷ ys) (map_more f xs x)

-- ---- one item of a list

-- An item at its index, with what stands before and behind it; another may be put there.
pub record IsSplit {A : Type 0} (xs : List A) (i : ℕ) (x : A) : Type 0 where
  pub before : List A
  pub later : List A
  pub is : xs ≡ before ++ x ∷ later
  pub place : length before ≡ i
  pub changed : (y : A) → slice_set xs i y ≡ before ++ y ∷ later

pub split_at : {A : Type 0} (xs : List A) (i : ℕ) (x : A) → slice_get xs i ≡ Some x → IsSplit xs i x
split_at [] zero x is = absurd cc
split_at [] (suc i) x is = absurd cc
split_at (y ∷ ys) zero x is = let same : y ≡ x = cc in record { before = []; later = ys; is = ap (λ z. z ∷ ys) same; place = refl; changed = λ z. refl }
split_at (y ∷ ys) (suc i) x is =
    let rest = split_at ys i x is in
    record { before = y ∷ rest.before; later = rest.later; is = ap (λ xs. y ∷ xs) rest.is; place = ap (λ (k : ℕ). suc k) rest.place; changed = λ z. ap (λ xs. y ∷ xs) (rest.changed z) }

-- what stands at an index is in the list, and the index is below its length
pub in_from_get : {A : Type 0} (xs : List A) (i : ℕ) (x : A) → slice_get xs i ≡ Some x → IsIn x xs
in_from_get [] zero x is = cc
in_from_get [] (suc i) x is = cc
in_from_get (y ∷ ys) zero x is = let same : y ≡ x = cc in inl same
in_from_get (y ∷ ys) (suc i) x is = inr (in_from_get ys i x is)

pub place_known : {A : Type 0} (xs : List A) (i : ℕ) (x : A) → slice_get xs i ≡ Some x → i < length xs
place_known [] zero x is = absurd cc
place_known [] (suc i) x is = absurd cc
place_known (y ∷ ys) zero x is = omega arith
place_known (y ∷ ys) (suc i) x is = let rest = place_known ys i x is in omega arith

-- the next item of those that are left, as it is seen, and the others
pub next_left : {A B : Type 0} (view : A → B) (xs : List A) (i : ℕ) (x : A) → i < length xs → x ≡ get_or xs i x → map view (drop i xs) ≡ view x ∷ map view (drop (i + 1) xs)
next_left view xs i x lt is = ap (map view) (drop_more xs i x lt ∙ ap (λ y. y ∷ drop (i + 1) xs) (sym is))

-- lists that are one have one head
pub head_of : {A : Type 0} (x y : A) (xs ys : List A) → x ∷ xs ≡ y ∷ ys → x ≡ y
head_of x y xs ys e = cc

-- ---- an item that is set, and the others

pub set_there : {A : Type 0} (xs : List A) (i : ℕ) (x : A) → i < length xs → slice_get (slice_set xs i x) i ≡ Some x
set_there [] i x lt = absurd (omega arith)
set_there (y ∷ xs) zero x lt = refl
set_there (y ∷ xs) (suc i) x lt = set_there xs i x (omega arith)

pub set_elsewhere : {A : Type 0} (xs : List A) (i j : ℕ) (x : A) → (i ≡ j → ⊥) → slice_get (slice_set xs i x) j ≡ slice_get xs j
set_elsewhere [] i j x other = refl
set_elsewhere (y ∷ xs) zero zero x other = absurd (other refl)
set_elsewhere (y ∷ xs) zero (suc j) x other = refl
set_elsewhere (y ∷ xs) (suc i) zero x other = refl
set_elsewhere (y ∷ xs) (suc i) (suc j) x other = set_elsewhere xs i j x (λ e. other (ap (λ (k : ℕ). suc k) e))

pub set_long : {A : Type 0} (xs : List A) (i : ℕ) (x : A) → length (slice_set xs i x) ≡ length xs
set_long [] i x = refl
set_long (y ∷ xs) zero x = refl
set_long (y ∷ xs) (suc i) x = ap (λ (k : ℕ). suc k) (set_long xs i x)

-- ---- what holds of each

pub all_parts : {A : Type 0} (P : A → Type 0) (xs ys : List A) → AllByRecursion P (xs ++ ys) → AllByRecursion P xs × AllByRecursion P ys
all_parts P [] ys all = (tt, all)
all_parts P (x ∷ xs) ys all = let rest = all_parts P xs ys all.1 in ((all.0, rest.0), rest.1)

-- ---- what may be there

-- a value that is made of another comes from one
pub made_of : {A B : Type 0} (f : A → B) (o : Option A) (y : B) → option_map f o ≡ Some y → (x : A) × (o ≡ Some x) × (f x ≡ y)
made_of f None y is = cc
made_of f (Some x) y is = (x, refl, (let same : f x ≡ y = cc in same))
