-- A list that is read item by item, each with its number: what it is read as, given the items that were read and the rest.
use Rattle.std.proofs.Common.{◌≡◌, ℕ, suc, ◌+◌, ◌<◌, ◌≤◌, List, [], ◌∷◌, ◌++◌, length, drop, get_or, map, refl, sym, ap, ◌∙◌, add-one}
use Rattle.std.specs.Prelude.{Option}
use Rattle.std.proofs.lemmas.List.{drop_more, drop_all, append-nil}
use Rattle.cpn_readings.specs.Reading.{Reading, read, refused, each_from, Refuses}
use Rattle.cpn_readings.proofs.ReadLists.{with_front, front_more, refuses_through}

module _ {R V A B : Type 0} (seen : V → A) (f : ℕ → A → Reading R B) (vs : List V) where
  module _ (i : ℕ) (v : V) (lt : i < length vs) (at : v ≡ get_or vs i v) where
    front_item : map seen (drop i vs) ≡ seen v ∷ map seen (drop (i + 1) vs)
    front_item = rw (drop_more vs i v lt, ← at) refl

    -- the item at a position is read
    pub numbered_more : (front : List B) (y : B) → f i (seen v) ≡ read y → with_front (front ++ y ∷ []) (each_from f (i + 1) (map seen (drop (i + 1) vs))) ≡ with_front front (each_from f i (map seen (drop i vs)))
    unfolding each_from
    numbered_more front y h = rw (front_item, h, add-one i) (front_more front y (each_from f (suc i) (map seen (drop (suc i) vs))))

    item_refused : (front : List B) (refusal : R) → f i (seen v) ≡ refused refusal → with_front front (each_from f i (map seen (drop i vs))) ≡ refused refusal
    unfolding each_from
    item_refused front refusal h = rw (front_item, h) refl

    -- the item at a position is refused, and so is the list
    pub numbered_refused : (front : List B) (o : Option R) → with_front front (each_from f i (map seen (drop i vs))) ≡ each_from f 0 (map seen vs) → Refuses o (f i (seen v)) → Refuses o (each_from f 0 (map seen vs))
    numbered_refused front o inv h = refuses_through o (f i (seen v)) (each_from f 0 (map seen vs)) (λ refusal e. sym inv ∙ item_refused front refusal e) h

  -- each item was read
  pub numbered_done : (i : ℕ) (front : List B) → length vs ≤ i → with_front front (each_from f i (map seen (drop i vs))) ≡ each_from f 0 (map seen vs) → each_from f 0 (map seen vs) ≡ read front
  unfolding each_from
  numbered_done i front past inv = sym inv ∙ rw (drop_all i vs past) (ap read (append-nil front))
