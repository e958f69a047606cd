-- What lists contain that are made of others.
use Rattle.std.proofs.Common.{◌≡◌, ℕ, zero, suc, ◌<◌, List, [], ◌∷◌, length, get_or, map, Option, Some, None, refl, sym, ap, subst, ◌∙◌, inl, inr, arith}
use Rattle.std.specs.Prelude.{◌⊎◌, Contains}
use Rattle.std.specs.List.{filter_map, flat_map}
use Rattle.std.proofs.lemmas.List.{get_or-map, length-map}
use Rattle.std.proofs.lemmas.List.Elements.{Contains-append_left, Contains-append_right, Contains-append_cases}

module _ {X : Type 0} where
  pub at_head : (x : X) (xs : List X) → Contains (x ∷ xs) x
  at_head x xs = (0, omega arith, refl)

  pub in_tail : (x : X) (xs : List X) (y : X) → Contains xs y → Contains (x ∷ xs) y
  in_tail x xs y h = let lt = h.1 in (suc h.0, omega arith, h.2)

  pub in_none : (y : X) → Contains [] y → ⊥
  in_none y h = let lt = h.1 in omega arith

  by_place : (x : X) (xs : List X) (y : X) (k : ℕ) → k < length (x ∷ xs) → get_or (x ∷ xs) k y ≡ y → (x ≡ y) ⊎ Contains xs y
  by_place x xs y zero lt e = inl e
  by_place x xs y (suc k) lt e = inr (k, omega arith, e)

  pub head_or_tail : (x : X) (xs : List X) (y : X) → Contains (x ∷ xs) y → (x ≡ y) ⊎ Contains xs y
  head_or_tail x xs y h = by_place x xs y h.0 h.1 h.2

module _ {X Y : Type 0} (f : X → Y) where
  pub mapped : (xs : List X) (x : X) → Contains xs x → Contains (map f xs) (f x)
  mapped xs x h = (h.0, rw (length-map xs f) h.1, get_or-map f xs h.0 x (f x) h.1 ∙ ap f h.2)

  pub from_map : (xs : List X) (y : Y) → Contains (map f xs) y → (x : X) × Contains xs x × (f x ≡ y)
  from_map [] y h = absurd (in_none y h)
  from_map (x ∷ xs) y h =
      elim (head_or_tail (f x) (map f xs) y h) [
        | inl e ↦ (x, at_head x xs, e)
        | inr later ↦ let from = from_map xs y later in (from.0, in_tail x xs from.0 from.1, from.2)
      ]

module _ {X Y : Type 0} (f : X → List Y) where
  pub flat_mapped : (xs : List X) (x : X) (y : Y) → Contains xs x → Contains (f x) y → Contains (flat_map f xs) y
  flat_mapped [] x y h there = absurd (in_none x h)
  flat_mapped (v ∷ xs) x y h there =
      elim (head_or_tail v xs x h) [
        | inl e ↦ Contains-append_left (f v) (flat_map f xs) y (subst (λ (z : X). Contains (f z) y) (sym e) there)
        | inr later ↦ Contains-append_right (f v) (flat_map f xs) y (flat_mapped xs x y later there)
      ]

  pub from_flat_map : (xs : List X) (y : Y) → Contains (flat_map f xs) y → (x : X) × Contains xs x × Contains (f x) y
  from_flat_map [] y h = absurd (in_none y h)
  from_flat_map (x ∷ xs) y h =
      elim (Contains-append_cases (f x) (flat_map f xs) y h) [
        | inl here ↦ (x, at_head x xs, here)
        | inr later ↦ let from = from_flat_map xs y later in (from.0, in_tail x xs from.0 from.1, from.2)
      ]

module _ {X Y : Type 0} (f : X → Option Y) where
  filtered_first : (x : X) (xs : List X) (y : Y) → f x ≡ Some y → Contains (filter_map f (x ∷ xs)) y
  filtered_first x xs y e = rw e (at_head y (filter_map f xs))

  filtered_later : (x : X) (xs : List X) (y : Y) → Contains (filter_map f xs) y → Contains (filter_map f (x ∷ xs)) y
  filtered_later x xs y h = by (f x) refl
    where
      by : (o : Option Y) → f x ≡ o → Contains (filter_map f (x ∷ xs)) y
      by None e = rw e h
      by (Some z) e = rw e (in_tail z (filter_map f xs) y h)

  pub filtered : (xs : List X) (x : X) (y : Y) → Contains xs x → f x ≡ Some y → Contains (filter_map f xs) y
  filtered [] x y h e = absurd (in_none x h)
  filtered (v ∷ xs) x y h e =
      elim (head_or_tail v xs x h) [
        | inl same ↦ filtered_first v xs y (ap f same ∙ e)
        | inr later ↦ filtered_later v xs y (filtered xs x y later e)
      ]

  pub from_filter_map : (xs : List X) (y : Y) → Contains (filter_map f xs) y → (x : X) × Contains xs x × (f x ≡ Some y)
  from_filter_map [] y h = absurd (in_none y h)
  from_filter_map (x ∷ xs) y h = by (λ later. let from = from_filter_map xs y later in (from.0, in_tail x xs from.0 from.1, from.2)) (f x) refl
    where
      by : (Contains (filter_map f xs) y → (v : X) × Contains (x ∷ xs) v × (f v ≡ Some y)) → (o : Option Y) → f x ≡ o → (v : X) × Contains (x ∷ xs) v × (f v ≡ Some y)
      by rest None e = rest (rw e at h)
      by rest (Some z) e =
          elim (head_or_tail z (filter_map f xs) y (rw e at h)) [
            | inl same ↦ (x, at_head x xs, e ∙ ap Some same)
            | inr later ↦ rest later
          ]
