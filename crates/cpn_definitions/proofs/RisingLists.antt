-- What is in a list, and lists in rising order of a comparison: what filters, maps and joins keep of both.
use Rattle.std.proofs.Common.{◌≡◌, ℕ, zero, suc, ◌<◌, ◌⊎◌, Bool, true, false, cond, ◌||◌, List, [], ◌∷◌, ◌++◌, map, length, slice_index_or, refl, sym, ap, ◌∙◌, subst, inl, inr, ⊎_elim, arith, Contains, Ordering, Less}
use Rattle.std.specs.List.{filter, flat_map, list_all, list_any, AllByRecursion}
use Rattle.std.proofs.lemmas.Bool.{cond_both, and_parts}
use Rattle.std.proofs.Math.Bool.{or-true}
use Rattle.cpn_definitions.specs.Lists.{Rises}

-- x is in the list, by recursion on the list
abbrev pub IsIn : {X : Type 0} → X → List X → Type 0
IsIn x [] = ⊥
IsIn x (y ∷ ys) = (y ≡ x) ⊎ IsIn x ys

-- each of the first list comes before each of the second
abbrev pub AllBefore : {X : Type 0} → (X → X → Ordering) → List X → List X → Type 0
AllBefore c xs ys = AllByRecursion (λ x. AllByRecursion (λ y. c x y ≡ Less) ys) xs

-- ---- in a list

in_from_index : {X : Type 0} (xs : List X) (x : X) (k : ℕ) → k < length xs → slice_index_or xs k x ≡ x → IsIn x xs
in_from_index [] x k lt at = absurd (omega arith)
in_from_index (y ∷ ys) x zero lt at = inl at
in_from_index (y ∷ ys) x (suc k) lt at = inr (in_from_index ys x k (omega arith) at)

pub in_from_contains : {X : Type 0} (xs : List X) (x : X) → Contains xs x → IsIn x xs
in_from_contains xs x h = in_from_index xs x h.0 h.1 h.2

pub contains_from_in : {X : Type 0} (xs : List X) (x : X) → IsIn x xs → Contains xs x
contains_from_in [] x h = absurd h
contains_from_in (y ∷ ys) x (inl e) = (0, omega arith, e)
contains_from_in (y ∷ ys) x (inr h) = let rest = contains_from_in ys x h in (suc rest.0, omega arith, rest.2)

pub in_append_left : {X : Type 0} (xs ys : List X) (x : X) → IsIn x xs → IsIn x (xs ++ ys)
in_append_left [] ys x h = absurd h
in_append_left (z ∷ xs) ys x (inl e) = inl e
in_append_left (z ∷ xs) ys x (inr h) = inr (in_append_left xs ys x h)

pub in_append_right : {X : Type 0} (xs ys : List X) (x : X) → IsIn x ys → IsIn x (xs ++ ys)
in_append_right [] ys x h = h
in_append_right (z ∷ xs) ys x h = inr (in_append_right xs ys x h)

pub in_append_cases : {X : Type 0} (xs ys : List X) (x : X) → IsIn x (xs ++ ys) → IsIn x xs ⊎ IsIn x ys
in_append_cases [] ys x h = inr h
in_append_cases (z ∷ xs) ys x (inl e) = inl (inl e)
in_append_cases (z ∷ xs) ys x (inr h) = ⊎_elim (λ g. inl (inr g)) (λ g. inr g) (in_append_cases xs ys x h)

pub in_map : {X Y : Type 0} (f : X → Y) (xs : List X) (x : X) → IsIn x xs → IsIn (f x) (map f xs)
in_map f [] x h = absurd h
in_map f (y ∷ ys) x (inl e) = inl (ap f e)
in_map f (y ∷ ys) x (inr h) = inr (in_map f ys x h)

-- what is in a mapped list comes from something in the list
pub in_map_from : {X Y : Type 0} (f : X → Y) (xs : List X) (y : Y) → IsIn y (map f xs) → (x : X) × IsIn x xs × (f x ≡ y)
in_map_from f [] y h = absurd h
in_map_from f (x ∷ xs) y (inl e) = (x, inl refl, e)
in_map_from f (x ∷ xs) y (inr h) = let rest = in_map_from f xs y h in (rest.0, inr rest.1, rest.2)

pub in_flat_map : {X Y : Type 0} (f : X → List Y) (xs : List X) (x : X) (y : Y) → IsIn x xs → IsIn y (f x) → IsIn y (flat_map f xs)
in_flat_map f [] x y h g = absurd h
in_flat_map f (z ∷ xs) x y (inl e) g = in_append_left (f z) (flat_map f xs) y (subst (λ w. IsIn y (f w)) (sym e) g)
in_flat_map f (z ∷ xs) x y (inr h) g = in_append_right (f z) (flat_map f xs) y (in_flat_map f xs x y h g)

-- what a flat map has comes from one of the list
pub in_flat_from : {X Y : Type 0} (f : X → List Y) (xs : List X) (y : Y) → IsIn y (flat_map f xs) → (x : X) × IsIn x xs × IsIn y (f x)
in_flat_from f [] y h = absurd h
in_flat_from f (x ∷ xs) y h = ⊎_elim (λ g. (x, inl refl, g)) (λ g. let rest = in_flat_from f xs y g in (rest.0, inr rest.1, rest.2)) (in_append_cases (f x) (flat_map f xs) y h)

pub in_filter : {X : Type 0} (p : X → Bool) (xs : List X) (x : X) → IsIn x xs → p x ≡ true → IsIn x (filter p xs)
in_filter p [] x h passes = absurd h
in_filter p (y ∷ ys) x (inl e) passes =
    cond_both (p y) (y ∷ filter p ys) (filter p ys) (IsIn x) (λ _. inl e) (λ no. let yes : p y ≡ true = ap p e ∙ passes in cc)
in_filter p (y ∷ ys) x (inr h) passes =
    cond_both (p y) (y ∷ filter p ys) (filter p ys) (IsIn x) (λ _. inr (in_filter p ys x h passes)) (λ _. in_filter p ys x h passes)

-- what a filter keeps is in the list and passes
pub in_filter_from : {X : Type 0} (p : X → Bool) (xs : List X) (x : X) → IsIn x (filter p xs) → IsIn x xs × (p x ≡ true)
in_filter_from p [] x h = absurd h
in_filter_from p (y ∷ ys) x h = split (in_filter_from p ys x) (p y) refl h
  where
    split : (IsIn x (filter p ys) → IsIn x ys × (p x ≡ true)) → (b : Bool) → p y ≡ b → IsIn x (cond b (y ∷ filter p ys) (filter p ys)) → IsIn x (y ∷ ys) × (p x ≡ true)
    split rest true is (inl e) = (inl e, ap p (sym e) ∙ is)
    split rest true is (inr g) = (inr (rest g).0, (rest g).1)
    split rest false is g = (inr (rest g).0, (rest g).1)

-- a test that all pass passes at each
pub passes_at : {X : Type 0} (p : X → Bool) (xs : List X) (x : X) → list_all p xs ≡ true → IsIn x xs → p x ≡ true
passes_at p [] x all h = absurd h
passes_at p (y ∷ ys) x all (inl e) = ap p (sym e) ∙ (and_parts (p y) (list_all p ys) all).0
passes_at p (y ∷ ys) x all (inr h) = passes_at p ys x (and_parts (p y) (list_all p ys) all).1 h

-- a test that passes at each passes all
pub all_pass : {X : Type 0} (p : X → Bool) (xs : List X) → ((x : X) → IsIn x xs → p x ≡ true) → list_all p xs ≡ true
all_pass p [] each = refl
all_pass p (y ∷ ys) each = rw (each y (inl refl)) (all_pass p ys (λ x h. each x (inr h)))

-- one that passes makes a test of any pass, and comes from it
pub some_passes : {X : Type 0} (p : X → Bool) (xs : List X) (x : X) → IsIn x xs → p x ≡ true → list_any p xs ≡ true
some_passes p [] x h is = absurd h
some_passes p (y ∷ ys) x (inl e) is = rw (ap p e ∙ is) refl
some_passes p (y ∷ ys) x (inr h) is = rw (some_passes p ys x h is) (or-true (p y))

pub one_that_passes : {X : Type 0} (p : X → Bool) (xs : List X) → list_any p xs ≡ true → (x : X) × IsIn x xs × (p x ≡ true)
one_that_passes p [] any = cc
one_that_passes {X} p (y ∷ ys) any = split (one_that_passes p ys) (p y) refl any
  where
    split : (list_any p ys ≡ true → (x : X) × IsIn x ys × (p x ≡ true)) → (b : Bool) → p y ≡ b → (b || list_any p ys) ≡ true → (x : X) × IsIn x (y ∷ ys) × (p x ≡ true)
    split rest true is h = (y, inl refl, is)
    split rest false is h = let later = rest h in (later.0, inr later.1, later.2)

-- ---- of each in a list

pub each_in : {X : Type 0} (P : X → Type 0) (xs : List X) → ((x : X) → IsIn x xs → P x) → AllByRecursion P xs
each_in P [] each = tt
each_in P (x ∷ xs) each = (each x (inl refl), each_in P xs (λ y h. each y (inr h)))

pub of_one_in : {X : Type 0} (P : X → Type 0) (xs : List X) (x : X) → AllByRecursion P xs → IsIn x xs → P x
of_one_in P [] x all h = absurd h
of_one_in P (y ∷ ys) x all (inl e) = subst P e all.0
of_one_in P (y ∷ ys) x all (inr h) = of_one_in P ys x all.1 h

pub each_filtered : {X : Type 0} (P : X → Type 0) (p : X → Bool) (xs : List X) → AllByRecursion P xs → AllByRecursion P (filter p xs)
each_filtered P p [] all = tt
each_filtered P p (x ∷ xs) all =
    cond_both (p x) (x ∷ filter p xs) (filter p xs) (AllByRecursion P) (λ _. (all.0, each_filtered P p xs all.1)) (λ _. each_filtered P p xs all.1)

pub each_mapped : {X Y : Type 0} (P : Y → Type 0) (f : X → Y) (xs : List X) → AllByRecursion (λ x. P (f x)) xs → AllByRecursion P (map f xs)
each_mapped P f [] all = tt
each_mapped P f (x ∷ xs) all = (all.0, each_mapped P f xs all.1)

pub each_implied : {X : Type 0} (P Q : X → Type 0) (xs : List X) → ((x : X) → P x → Q x) → AllByRecursion P xs → AllByRecursion Q xs
each_implied P Q [] so all = tt
each_implied P Q (x ∷ xs) so all = (so x all.0, each_implied P Q xs so all.1)

pub each_appended : {X : Type 0} (P : X → Type 0) (xs ys : List X) → AllByRecursion P xs → AllByRecursion P ys → AllByRecursion P (xs ++ ys)
each_appended P [] ys first second = second
each_appended P (x ∷ xs) ys first second = (first.0, each_appended P xs ys first.1 second)

pub each_flat : {X Y : Type 0} (P : Y → Type 0) (f : X → List Y) (xs : List X) → AllByRecursion (λ x. AllByRecursion P (f x)) xs → AllByRecursion P (flat_map f xs)
each_flat P f [] all = tt
each_flat P f (x ∷ xs) all = each_appended P (f x) (flat_map f xs) all.0 (each_flat P f xs all.1)

-- ---- rising lists

pub rises_mapped : {X Y : Type 0} (c : X → X → Ordering) (d : Y → Y → Ordering) (f : X → Y) (xs : List X) → ((x y : X) → c x y ≡ Less → d (f x) (f y) ≡ Less) → Rises c xs → Rises d (map f xs)
rises_mapped c d f [] so h = tt
rises_mapped c d f (x ∷ xs) so h =
    (each_mapped (λ y. d (f x) y ≡ Less) f xs (each_implied (λ y. c x y ≡ Less) (λ y. d (f x) (f y) ≡ Less) xs (so x) h.0), rises_mapped c d f xs so h.1)

pub rises_appended : {X : Type 0} (c : X → X → Ordering) (xs ys : List X) → Rises c xs → Rises c ys → AllBefore c xs ys → Rises c (xs ++ ys)
rises_appended c [] ys first second between = second
rises_appended c (x ∷ xs) ys first second between = (each_appended (λ y. c x y ≡ Less) xs ys first.0 between.0, rises_appended c xs ys first.1 second between.1)

-- where all that f gives of one element comes before all that it gives of those after it
pub rises_flat
    : {X Y : Type 0} (P : X → Type 0) (c : X → X → Ordering) (d : Y → Y → Ordering) (f : X → List Y) (xs : List X)
    → ((x : X) → P x → Rises d (f x))
    → ((x y : X) → P x → P y → c x y ≡ Less → AllBefore d (f x) (f y))
    → AllByRecursion P xs
    → Rises c xs
    → Rises d (flat_map f xs)
rises_flat P c d f [] within between all h = tt
rises_flat {X} {Y} P c d f (x ∷ xs) within between all h =
    rises_appended d (f x) (flat_map f xs) (within x all.0) (rises_flat P c d f xs within between all.1 h.1) (before_all xs all.1 h.0)
  where
    before_all : (ys : List X) → AllByRecursion P ys → AllByRecursion (λ y. c x y ≡ Less) ys → AllBefore d (f x) (flat_map f ys)
    before_all ys of_ys later =
        each_in (λ u. AllByRecursion (λ w. d u w ≡ Less) (flat_map f ys)) (f x)
        (λ u h. each_flat (λ w. d u w ≡ Less) f ys
        (each_in (λ y. AllByRecursion (λ w. d u w ≡ Less) (f y)) ys (λ y g. of_one_in (λ v. AllByRecursion (λ w. d v w ≡ Less) (f y)) (f x) u (between x y all.0 (of_one_in P ys y of_ys g) (of_one_in (λ z. c x z ≡ Less) ys y later g)) h)))
