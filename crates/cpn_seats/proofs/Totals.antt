-- Sums over all views, turns modulo 2^64, and the change of one view.
use Rattle.std.proofs.Common.{◌≡◌, ◌⊎◌, ℕ, zero, suc, ◌+◌, ◌*◌, ◌/◌, ◌%◌, ◌^◌, ◌<◌, ◌≤◌, Bool, true, false, List, [], ◌∷◌, ◌++◌, length, set, refl, sym, ap, ◌∙◌, subst, inl, inr, ⊎_elim, arith}
use Rattle.std.proofs.Math.Nat.{add-mul-mod_self_right, mod-add-div'}
use mathlib.Core.Option.{some, some-ne-none, some-injective}
use lib.ListN.{get_elem?}
use Rattle.atomic_table.proofs.Lists.{at_set, at_snoc}
use Rattle.cpn_seats.specs.declared.views.View.{View}
use Rattle.cpn_seats.specs.Turns.{total, one_if, turns_out, numbers_out, Apart}

pub total_set : (f : View → ℕ) (vs : List View) (i : ℕ) (v w : View) → get_elem? vs i ≡ some v → total f (set vs i w) + f v ≡ total f vs + f w
total_set f [] i v w e = absurd (some-ne-none v (sym e))
total_set f (x ∷ xs) zero v w e = omega (arith, ap f (some-injective x v e))
total_set f (x ∷ xs) (suc i) v w e = omega (arith, total_set f xs i v w e)

pub total_le : (f g : View → ℕ) (vs : List View) → ((i : ℕ) (v : View) → get_elem? vs i ≡ some v → f v ≤ g v) → total f vs ≤ total g vs
total_le f g [] h = omega arith
total_le f g (x ∷ xs) h = let a = h 0 x refl in let b = total_le f g xs (λ i v e. h (suc i) v e) in omega arith

pub total_snoc : (f : View → ℕ) (vs : List View) (w : View) → total f (vs ++ w ∷ []) ≡ total f vs + f w
total_snoc f [] w = omega arith
total_snoc f (x ∷ xs) w = omega (arith, total_snoc f xs w)

one_if_le : (b : Bool) (n : ℕ) → (b ≡ true → 0 < n) → one_if b ≤ n
one_if_le true n h = let a = h refl in omega arith
one_if_le false n h = omega arith

pub turns_out_le : (v : View) → (v.waits ≡ true → 0 < length v.numbers) → turns_out v ≤ numbers_out v
turns_out_le v h = one_if_le v.waits (length v.numbers) h

turn_after : (a n : ℕ) → (a % n + 1) % n ≡ (a + 1) % n
turn_after a n =
    let split = mod-add-div' a n in
    let e : (a % n + 1) + a / n * n ≡ a + 1 = omega arith in
    sym (add-mul-mod_self_right (a % n + 1) (a / n) n) ∙ ap (λ (k : ℕ). k % n) e

pub next_turn : (a : ℕ) → (a % 2 ^ 64 + 1) % 2 ^ 64 ≡ (a + 1) % 2 ^ 64
next_turn a = turn_after a (2 ^ 64)

pub set_here : (vs : List View) (i : ℕ) (v w : View) → get_elem? vs i ≡ some v → get_elem? (set vs i w) i ≡ some w
set_here [] i v w e = absurd (some-ne-none v (sym e))
set_here (x ∷ xs) zero v w e = refl
set_here (x ∷ xs) (suc i) v w e = set_here xs i v w e

-- a fact of each view, where one view changes
pub each_set : (F : View → Type 0) (vs : List View) (id : ℕ) (w : View) → ((j : ℕ) (u : View) → (j ≡ id → ⊥) → get_elem? vs j ≡ some u → F u) → F w → (j : ℕ) (u : View) → get_elem? (set vs id w) j ≡ some u → F u
each_set F vs id w others mine j u e =
    ⊎_elim (λ (t : (j ≡ id) × (w ≡ u)). subst F t.1 mine) (λ (t : (j ≡ id → ⊥) × (get_elem? vs j ≡ some u)). others j u t.0 t.1) (at_set vs id j w u e)

pub apart_sym : (v w : View) → Apart v w → Apart w v
apart_sym v w a = record { turns = λ x y e. a.turns y x (sym e); numbers = λ n x y. a.numbers n y x }

-- the same of two views
pub apart_set : (vs : List View) (id : ℕ) (w : View)
    → ((i j : ℕ) (x y : View) → get_elem? vs i ≡ some x → get_elem? vs j ≡ some y → (i ≡ j → ⊥) → Apart x y)
    → ((j : ℕ) (u : View) → (j ≡ id → ⊥) → get_elem? vs j ≡ some u → Apart w u)
    → (i j : ℕ) (x y : View) → get_elem? (set vs id w) i ≡ some x → get_elem? (set vs id w) j ≡ some y → (i ≡ j → ⊥) → Apart x y
apart_set vs id w all mine i j x y ex ey ne =
    ⊎_elim
    (λ (t : (i ≡ id) × (w ≡ x)). ⊎_elim
    (λ (r : (j ≡ id) × (w ≡ y)). absurd (ne (t.0 ∙ sym r.0)))
    (λ (r : (j ≡ id → ⊥) × (get_elem? vs j ≡ some y)). subst (λ (z : View). Apart z y) t.1 (mine j y r.0 r.1))
    (at_set vs id j w y ey))
    (λ (t : (i ≡ id → ⊥) × (get_elem? vs i ≡ some x)). ⊎_elim
    (λ (r : (j ≡ id) × (w ≡ y)). subst (λ (z : View). Apart x z) r.1 (apart_sym w x (mine i x t.0 t.1)))
    (λ (r : (j ≡ id → ⊥) × (get_elem? vs j ≡ some y)). all i j x y t.1 r.1 ne)
    (at_set vs id j w y ey))
    (at_set vs id i w x ex)

-- the same where a view comes
pub each_snoc : (F : View → Type 0) (vs : List View) (w : View) → ((j : ℕ) (u : View) → get_elem? vs j ≡ some u → F u) → F w → (j : ℕ) (u : View) → get_elem? (vs ++ w ∷ []) j ≡ some u → F u
each_snoc F vs w others mine j u e = ⊎_elim (λ (t : get_elem? vs j ≡ some u). others j u t) (λ (t : w ≡ u). subst F t mine) (at_snoc vs w u j e)

none_past : (vs : List View) (j : ℕ) (u : View) → get_elem? vs j ≡ some u → j < length vs
none_past [] j u e = absurd (some-ne-none u (sym e))
none_past (x ∷ xs) zero u e = omega arith
none_past (x ∷ xs) (suc j) u e = let h = none_past xs j u e in omega arith

-- the place of what stands in the longer list
snoc_place : (vs : List View) (w u : View) (j : ℕ) → get_elem? (vs ++ w ∷ []) j ≡ some u → (get_elem? vs j ≡ some u) ⊎ ((j ≡ length vs) × (w ≡ u))
snoc_place [] w u zero e = inr (refl, some-injective w u e)
snoc_place [] w u (suc j) e = absurd (some-ne-none u (sym e))
snoc_place (x ∷ xs) w u zero e = inl e
snoc_place (x ∷ xs) w u (suc j) e = ⊎_elim inl (λ (t : (j ≡ length xs) × (w ≡ u)). inr (ap suc t.0, t.1)) (snoc_place xs w u j e)

pub apart_snoc : (vs : List View) (w : View)
    → ((i j : ℕ) (x y : View) → get_elem? vs i ≡ some x → get_elem? vs j ≡ some y → (i ≡ j → ⊥) → Apart x y)
    → ((j : ℕ) (u : View) → get_elem? vs j ≡ some u → Apart w u)
    → (i j : ℕ) (x y : View) → get_elem? (vs ++ w ∷ []) i ≡ some x → get_elem? (vs ++ w ∷ []) j ≡ some y → (i ≡ j → ⊥) → Apart x y
apart_snoc vs w all mine i j x y ex ey ne =
    ⊎_elim
    (λ (t : get_elem? vs i ≡ some x). ⊎_elim
    (λ (r : get_elem? vs j ≡ some y). all i j x y t r ne)
    (λ (r : (j ≡ length vs) × (w ≡ y)). subst (λ (z : View). Apart x z) r.1 (apart_sym w x (mine i x t)))
    (snoc_place vs w y j ey))
    (λ (t : (i ≡ length vs) × (w ≡ x)). ⊎_elim
    (λ (r : get_elem? vs j ≡ some y). subst (λ (z : View). Apart z y) t.1 (mine j y r))
    (λ (r : (j ≡ length vs) × (w ≡ y)). absurd (ne (t.0 ∙ sym r.0)))
    (snoc_place vs w y j ey))
    (snoc_place vs w x i ex)

-- the change of two views of different places
pub total_set_two : (f : View → ℕ) (vs : List View) (i j : ℕ) (v w x y : View) → (j ≡ i → ⊥) → get_elem? vs i ≡ some v → get_elem? (set vs i x) j ≡ some w
    → total f (set (set vs i x) j y) + f v + f w ≡ total f vs + f x + f y
total_set_two f vs i j v w x y ne e g =
    let a = total_set f vs i v x e in
    let b = total_set f (set vs i x) j w y g in
    omega arith
