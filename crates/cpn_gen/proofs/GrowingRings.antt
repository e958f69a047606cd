-- A ring of one place more has one more place, one more transition, and its two arcs.
use Rattle.std.proofs.Common.{◌≡◌, ℕ, zero, suc, ◌+◌, List, [], ◌∷◌, ◌++◌, map, codes, subst, sym, ap, ap₂, ◌∙◌, append_assoc, append-nil, add-one, zero-add, arith}
use Rattle.std.proofs.lemmas.List.{map-append}
use Rattle.std.proofs.lemmas.List.FromFn.{map-range_with_len_more}
use Rattle.std.specs.List.{flat_map, range_with_len}
use Rattle.serde_json.specs.Data.{Data}
use Rattle.serde_json.specs.View.{view}
use Rattle.serde_json.specs.declared.value.Value.{Value}
use Rattle.cpn_gen.specs.GeneratedNets.{numbers_below, arc, next, arcs_of}

-- ---- one number more

joined_from : {X : Type 0} (f : ℕ → List X) (a n j : ℕ) → a + n ≡ j → flat_map f (range_with_len a (suc n)) ≡ flat_map f (range_with_len a n) ++ f j
joined_from f a zero j at =
    let same : a ≡ j = omega arith in
    subst (λ k. f a ++ [] ≡ f k) same (append-nil (f a))
joined_from f a (suc n) j at = ap (λ xs. f a ++ xs) (joined_from f (a + 1) n j (omega arith)) ∙ sym (append_assoc (f a) _ (f j))

more_joined : {X : Type 0} (f : ℕ → List X) (i : ℕ) → flat_map f (numbers_below (i + 1)) ≡ flat_map f (numbers_below i) ++ f i
more_joined f i = rw add-one (joined_from f 0 i i (zero-add i))

-- ---- values in a list

-- one more is pushed
pushed_more : (values later : List Value) (value : Value) → later ≡ values ++ value ∷ [] → map view later ≡ map view values ++ view value ∷ []
pushed_more values later value pushed = ap (map view) pushed ∙ map-append view values (value ∷ [])

-- the one of the next number
pub next_part : (f : ℕ → Data) (i : ℕ) (values later : List Value) (value : Value) → map view values ≡ map f (numbers_below i) → view value ≡ f i → later ≡ values ++ value ∷ [] → map view later ≡ map f (numbers_below (i + 1))
next_part f i values later value so_far is pushed = pushed_more values later value pushed ∙ ap₂ (λ xs x. xs ++ x ∷ []) so_far is ∙ sym (map-range_with_len_more f 0 i i (zero-add i))

-- the arcs of the next transition
pub next_arcs : (n i : ℕ) (values between later : List Value) (first second : Value) → map view values ≡ flat_map (arcs_of n) (numbers_below i)
    → view first ≡ arc i i (codes "transition") → view second ≡ arc (next n i) i (codes "place") → between ≡ values ++ first ∷ [] → later ≡ between ++ second ∷ []
    → map view later ≡ flat_map (arcs_of n) (numbers_below (i + 1))
next_arcs n i values between later first second so_far first_is second_is pushed pushed_too =
    pushed_more between later second pushed_too
    ∙ ap (λ xs. xs ++ view second ∷ []) (pushed_more values between first pushed)
    ∙ append_assoc (map view values) (view first ∷ []) (view second ∷ [])
    ∙ ap₂ (λ xs ys. xs ++ ys) so_far (ap₂ (λ x y. x ∷ y ∷ []) first_is second_is)
    ∙ sym (more_joined (arcs_of n) i)
