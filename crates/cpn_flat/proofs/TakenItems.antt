-- What is made of the items so far of a list, and of all of them.
use Rattle.std.proofs.Common.{◌≡◌, ℕ, ◌≤◌, List, ◌++◌, length, take, map, ap, ◌∙◌}
use Rattle.std.proofs.lemmas.List.{take_all}

module _ {V A B : Type 0} (f : A → B) (view : V → A) (vs : List V) (old : List B) (i : ℕ) (now : List B) (h : now ≡ old ++ map f (map view (take i vs))) where
  -- all items
  pub pushed_all : length vs ≤ i → now ≡ old ++ map f (map view vs)
  pushed_all past = h ∙ ap (λ xs. old ++ map f (map view xs)) (take_all i vs past)
