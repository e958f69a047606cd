-- A list that was made item by item from another one, when all items were seen.
use Rattle.std.proofs.Common.{◌≡◌, ℕ, ◌≤◌, List, length, take, map, ap, ◌∙◌}
use Rattle.std.proofs.lemmas.List.{take_all}

pub mapped_all : {V A B : Type 0} (f : A → B) (seen : V → A) (vs : List V) (i : ℕ) → length vs ≤ i → (made : List B) → made ≡ map f (map seen (take i vs)) → made ≡ map f (map seen vs)
mapped_all f seen vs i past made h = h ∙ ap (λ ws. map f (map seen ws)) (take_all i vs past)
