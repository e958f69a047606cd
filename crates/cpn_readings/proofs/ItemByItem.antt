-- Lists that correspond item by item, one item after another.
use Rattle.std.proofs.Common.{◌≡◌, ℕ, ◌+◌, ◌<◌, List, [], ◌∷◌, ◌++◌, length, take, get_or, map}
use Rattle.std.proofs.lemmas.List.{take_more, map-append}
use Rattle.cpn_readings.specs.ItemByItem.{EachIs}

module _ {A B : Type 0} (Is : A → B → Type 0) where
  -- one item more of each
  pub each_is_more : (xs : List A) (ys : List B) (x : A) (y : B) → EachIs Is xs ys → Is x y → EachIs Is (xs ++ x ∷ []) (ys ++ y ∷ [])
  each_is_more [] [] x y h k = (k, tt)
  each_is_more (z ∷ xs) (w ∷ ys) x y h k = (h.0, each_is_more xs ys x y h.1 k)
  each_is_more [] (w ∷ ys) x y h k = absurd h
  each_is_more (z ∷ xs) [] x y h k = absurd h

  module _ {V W : Type 0} (seen : V → A) (view : W → B) (vs : List V) (i : ℕ) (d : V) (lt : i < length vs) (ws : List W) where
    -- the item at a position, and what stands for it
    pub each_is_next : (w : W) → EachIs Is (map seen (take i vs)) (map view ws) → Is (seen (get_or vs i d)) (view w) → EachIs Is (map seen (take (i + 1) vs)) (map view (ws ++ w ∷ []))
    each_is_next w h k =
        let fronts : map seen (take (i + 1) vs) ≡ map seen (take i vs) ++ seen (get_or vs i d) ∷ [] = rw (take_more vs i d lt) (map-append seen (take i vs) (get_or vs i d ∷ [])) in
        rw (fronts, map-append view ws (w ∷ [])) (each_is_more (map seen (take i vs)) (map view ws) (seen (get_or vs i d)) (view w) h k)
