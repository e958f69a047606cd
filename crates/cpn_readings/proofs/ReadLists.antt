-- A list that is read item by item: what it is read as, given the items that were read and the rest.
use Rattle.std.proofs.Common.{◌≡◌, ℕ, ◌+◌, ◌<◌, ◌≤◌, List, [], ◌∷◌, ◌++◌, length, drop, get_or, map, refl, sym, ap, ◌∙◌, append_assoc}
use Rattle.std.specs.Prelude.{Option, Some, None}
use Rattle.std.proofs.lemmas.List.{drop_more, drop_all, append-nil}
use Rattle.cpn_readings.specs.Reading.{Reading, read, refused, ◌>>=◌, each, Refuses}

-- the items that were read, before what the rest is read as
abbrev pub with_front : {R A : Type 0} → List A → Reading R (List A) → Reading R (List A)
with_front front (read xs) = read (front ++ xs)
with_front front (refused refusal) = refused refusal

-- one more item goes from the rest to those that were read
pub front_more : {R A : Type 0} (front : List A) (x : A) (rest : Reading R (List A)) → with_front (front ++ x ∷ []) rest ≡ with_front front (rest >>= (λ xs. read (x ∷ xs)))
front_more front x (read xs) = ap read (append_assoc front (x ∷ []) xs)
front_more front x (refused refusal) = refl

module _ {R V A B : Type 0} (seen : V → A) (f : A → Reading R B) where
  each_item : (front : List B) (x : A) (xs : List A) (y : B) → f x ≡ read y → with_front (front ++ y ∷ []) (each f xs) ≡ with_front front (each f (x ∷ xs))
  unfolding each
  each_item front x xs y h = rw h (front_more front y (each f xs))

  item_refused : (front : List B) (x : A) (xs : List A) (refusal : R) → f x ≡ refused refusal → with_front front (each f (x ∷ xs)) ≡ refused refusal
  unfolding each
  item_refused front x xs refusal h = rw h refl

  module _ (vs : List V) (i : ℕ) (d : V) (lt : i < length vs) where
    front_item : map seen (drop i vs) ≡ seen (get_or vs i d) ∷ map seen (drop (i + 1) vs)
    front_item = rw (drop_more vs i d lt) refl

    -- the item at a position is read
    pub each_more_at : (front : List B) (y : B) → f (seen (get_or vs i d)) ≡ read y → with_front (front ++ y ∷ []) (each f (map seen (drop (i + 1) vs))) ≡ with_front front (each f (map seen (drop i vs)))
    each_more_at front y h = rw front_item (each_item front (seen (get_or vs i d)) (map seen (drop (i + 1) vs)) y h)

    -- the item at a position is refused, and so is the list
    pub each_refused_at : (front : List B) (refusal : R) → with_front front (each f (map seen (drop i vs))) ≡ each f (map seen vs) → f (seen (get_or vs i d)) ≡ refused refusal → each f (map seen vs) ≡ refused refusal
    each_refused_at front refusal inv h = sym inv ∙ rw front_item (item_refused front (seen (get_or vs i d)) (map seen (drop (i + 1) vs)) refusal h)

  module _ (vs : List V) (i : ℕ) (v : V) (lt : i < length vs) (at : v ≡ get_or vs i v) where
    -- an item is read
    pub each_more : (front : List B) (y : B) → f (seen v) ≡ read y → with_front (front ++ y ∷ []) (each f (map seen (drop (i + 1) vs))) ≡ with_front front (each f (map seen (drop i vs)))
    each_more front y h = each_more_at vs i v lt front y (rw (← at) h)

    -- an item is refused, and so is the list
    pub each_refused : (front : List B) (refusal : R) → with_front front (each f (map seen (drop i vs))) ≡ each f (map seen vs) → f (seen v) ≡ refused refusal → each f (map seen vs) ≡ refused refusal
    each_refused front refusal inv h = each_refused_at vs i v lt front refusal inv (rw (← at) h)

  -- each item was read
  pub each_done : (vs : List V) (i : ℕ) (front : List B) → length vs ≤ i → with_front front (each f (map seen (drop i vs))) ≡ each f (map seen vs) → each f (map seen vs) ≡ read front
  unfolding each
  each_done vs i front past inv = sym inv ∙ rw (drop_all i vs past) (ap read (append-nil front))

-- where a part is refused, so is the whole
pub refuses_through : {R A B : Type 0} (o : Option R) (part : Reading R A) (whole : Reading R B) → ((refusal : R) → part ≡ refused refusal → whole ≡ refused refusal) → Refuses o part → Refuses o whole
refuses_through None part whole through h = tt
refuses_through (Some refusal) part whole through h = through refusal h
