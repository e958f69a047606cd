-- Lists that are made item by item of another one are seen as its items are.
use Rattle.std.proofs.Common.{◌≡◌, ℕ, ◌+◌, ◌<◌, ◌≤◌, List, [], ◌∷◌, ◌++◌, map, take, length, get_or, sym, ap, ap₂, ◌∙◌}
use Rattle.std.proofs.lemmas.List.{map-append, take_all, take_more}

module _ {A B C : Type 0} (see : A → C) (view : B → C) (items : List A) where
  -- one item more is made
  pub grown_next
      : (made longer : List B) (i : ℕ) (item : A) (new : B)
      → i < length items
      → item ≡ get_or items i item
      → view new ≡ see item
      → longer ≡ made ++ new ∷ []
      → map view made ≡ map see (take i items)
      → map view longer ≡ map see (take (i + 1) items)
  grown_next made longer i item new lt is same grown so_far =
      let next : take (i + 1) items ≡ take i items ++ item ∷ [] = take_more items i item lt ∙ ap (λ x. take i items ++ x ∷ []) (sym is) in
      ap (map view) grown ∙ map-append view made (new ∷ []) ∙ ap₂ (λ xs x. xs ++ x ∷ []) so_far same ∙ sym (ap (map see) next ∙ map-append see (take i items) (item ∷ []))

  -- all are
  pub grown_all : (made : List B) (i : ℕ) → length items ≤ i → map view made ≡ map see (take i items) → map view made ≡ map see items
  grown_all made i past so_far = so_far ∙ ap (map see) (take_all i items past)
