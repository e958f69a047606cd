-- Lists that correspond item by item, where an item that owns its text is seen.
use Rattle.std.proofs.Common.{◌≡◌, ℕ, ◌+◌, ◌<◌, List, [], ◌∷◌, ◌++◌, length, take, get_or, map, subst}
use Rattle.cpn_readings.specs.ItemByItem.{EachIs}
use Rattle.cpn_readings.proofs.ItemByItem.{each_is_next}

-- the item that is seen at a position, and what stands for it
pub each_is_seen : {A B V W : Type 0} (Is : A → B → Type 0) (seen : V → A) (view : W → B) (vs : List V) (i : ℕ) (v : V) → i < length vs → v ≡ get_or vs i v → (ws : List W) (w : W) → EachIs Is (map seen (take i vs)) (map view ws) → Is (seen v) (view w)
    → EachIs Is (map seen (take (i + 1) vs)) (map view (ws ++ w ∷ []))
each_is_seen Is seen view vs i v lt at ws w h k = each_is_next Is seen view vs i v lt ws w h (subst (λ x. Is (seen x) (view w)) at k)
