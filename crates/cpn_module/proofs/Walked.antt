-- Walks over the rest of a list: what the answer at the next item makes of them.
use Rattle.std.proofs.Common.{◌≡◌, ℕ, ◌+◌, ◌<◌, ◌≤◌, List, ◌∷◌, length, drop, get_or, Bor, refl, sym, ap, ◌∙◌, subst, add-one}
use Rattle.std.specs.Prelude.{Result, Ok, Err}
use Rattle.std.proofs.lemmas.List.{drop_more, drop_all}
use Rattle.cpn_module.specs.Walks.{IsWalk, none_left, passed, refused}

module _ {V E : Type 0} (Answers : ℕ → Bor V → Result (Unit {0}) E → Type 0) (vs : List V) (i : ℕ) where
  module _ (v : V) (lt : i < length vs) (at : v ≡ get_or vs i v) (item : Bor V) where
    front : item.now ≡ v → item.now ∷ drop (i + 1) vs ≡ drop i vs
    front is = ap (λ w. w ∷ drop (i + 1) vs) is ∙ rw (drop_more vs i v lt, ← at) refl

    -- it is passed
    pub next_passed : (r : Result (Unit {0}) E) → Answers i item (Ok tt) → item.now ≡ v → IsWalk Answers (i + 1) (drop (i + 1) vs) r → IsWalk Answers i (drop i vs) r
    next_passed r answer is rest = subst (λ (xs : List V). IsWalk Answers i xs r) (front is) (passed i item (drop (i + 1) vs) r answer (subst (λ (n : ℕ). IsWalk Answers n (drop (i + 1) vs) r) (add-one i) rest))

    -- it is refused
    pub next_refused : (e : E) → Answers i item (Err e) → item.now ≡ v → IsWalk Answers i (drop i vs) (Err e)
    next_refused e answer is = subst (λ (xs : List V). IsWalk Answers i xs (Err e)) (front is) (refused i item (drop (i + 1) vs) e answer)

  -- there is none
  pub no_next : length vs ≤ i → IsWalk Answers i (drop i vs) (Ok tt)
  no_next past = subst (λ (xs : List V). IsWalk Answers i xs (Ok tt)) (sym (drop_all i vs past)) (none_left i)
