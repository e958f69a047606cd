-- Where a variable stands among the pairs of a partial binding, there its value is held.
use Rattle.std.proofs.Common.{◌≡◌, ℕ, zero, suc, ◌==◌, Bool, true, false, cond, List, [], ◌∷◌, get_or, slice_set, Option, Some, None, Result, Ok, Err, refl, sym, ap, ◌∙◌, subst}
use Rattle.std.specs.Option.{option_map}
use Rattle.cpn_definitions.specs.Value.{PlainValue}
use Rattle.cpn_core.specs.declared.values.Value.{Value}
use Rattle.cpn_stages.specs.Partial.{PlainPartial, IsKept, Extends}
use Rattle.cpn_stages.proofs.Partials.{extends_itself}
use Rattle.cpn_match.specs.declared.partials.PartialPair.{PartialPair}
use Rattle.cpn_match.specs.Pairs.{option_view, pairs_view}
use Rattle.cpn_stages.specs.Fitting.{agreed, held}
use Rattle.cpn_match.specs.Indices.{index_among}
use Rattle.cpn_match.specs.Answers.{BecomesIf, Becomes}

next_none : (o : Option ℕ) → option_map (λ (k : ℕ). suc k) o ≡ None → o ≡ None
next_none None h = refl
next_none (Some k) h = cc

-- a variable that stands nowhere is not held
pub held_nowhere : (x : ℕ) (v : PlainValue) (b : PlainPartial) → index_among x b ≡ None → held x v b ≡ None
held_nowhere x v [] h = refl
held_nowhere x v (pair ∷ b) h = split (x == pair.0) (λ g. held_nowhere x v b g) h
  where
    split : (here : Bool) → (index_among x b ≡ None → held x v b ≡ None) → cond here (Some 0) (option_map (λ (k : ℕ). suc k) (index_among x b)) ≡ None → cond here (option_map (λ value. (pair.0, value) ∷ b) (agreed pair.1 v)) (option_map (λ rest. pair ∷ rest) (held x v b)) ≡ None
    split true rest h = cc
    split false rest h = ap (option_map (λ rest. pair ∷ rest)) (rest (next_none (index_among x b) h))

-- what becomes of one thing is made of what becomes of another
pub becomes_made : {A B E : Type 0} (f : A → B) (r : Result Bool E) (new : A) (wanted : Option A) → Becomes r new wanted → Becomes r (f new) (option_map f wanted)
becomes_made f (Ok true) new wanted is = ap (option_map f) is
becomes_made f (Ok false) new wanted is = ap (option_map f) is
becomes_made f (Err e) new wanted is = tt

next_some : (o : Option ℕ) (i : ℕ) → option_map (λ (k : ℕ). suc k) o ≡ Some i → (j : ℕ) × (i ≡ suc j) × (o ≡ Some j)
next_some None i h = cc
next_some (Some j) i h = (j, same h, refl)
  where
    same : Some (suc j) ≡ Some i → i ≡ suc j
    same h = cc

-- it is held by the pair where it stands
pub held_there : {E : Type 0} (pairs : List PartialPair) (i x : ℕ) (v : PlainValue) (p : PartialPair) (slot : Option Value) (r : Result Bool E)
    → index_among x (pairs_view pairs) ≡ Some i → p ≡ get_or pairs i p → Becomes r (option_view slot) (agreed (option_view p.value) v)
    → Becomes r (pairs_view (slice_set pairs i (record { variable = p.variable; value = slot }))) (held x v (pairs_view pairs))
held_there [] i x v p slot r found is becomes = cc
held_there (q ∷ pairs) i x v p slot r found is becomes = split (x == q.variable) found (λ j at has. held_there pairs j x v p slot r at has becomes)
  where
    here : i ≡ 0 → p ≡ q
    here at = is ∙ ap (λ k. get_or (q ∷ pairs) k p) at

    first : p ≡ q → Becomes r (pairs_view (record { variable = p.variable; value = slot } ∷ pairs)) (option_map (λ value. (q.variable, value) ∷ pairs_view pairs) (agreed (option_view q.value) v))
    first same =
        subst (λ (k : PartialPair). Becomes r (pairs_view (record { variable = k.variable; value = slot } ∷ pairs)) (option_map (λ value. (q.variable, value) ∷ pairs_view pairs) (agreed (option_view q.value) v))) (sym same)
        (becomes_made (λ value. (q.variable, value) ∷ pairs_view pairs) r (option_view slot) (agreed (option_view q.value) v) (subst (λ (k : PartialPair). Becomes r (option_view slot) (agreed (option_view k.value) v)) same becomes))

    split : (test : Bool) → cond test (Some 0) (option_map (λ (k : ℕ). suc k) (index_among x (pairs_view pairs))) ≡ Some i
        → ((j : ℕ) → index_among x (pairs_view pairs) ≡ Some j → p ≡ get_or pairs j p → Becomes r (pairs_view (slice_set pairs j (record { variable = p.variable; value = slot }))) (held x v (pairs_view pairs)))
        → Becomes r (pairs_view (slice_set (q ∷ pairs) i (record { variable = p.variable; value = slot }))) (cond test (option_map (λ value. (q.variable, value) ∷ pairs_view pairs) (agreed (option_view q.value) v)) (option_map (λ rest. (q.variable, option_view q.value) ∷ rest) (held x v (pairs_view pairs))))
    split true h rest =
        let at : i ≡ 0 = sym (some_same h) in
        subst (λ (k : ℕ). Becomes r (pairs_view (slice_set (q ∷ pairs) k (record { variable = p.variable; value = slot }))) (option_map (λ value. (q.variable, value) ∷ pairs_view pairs) (agreed (option_view q.value) v))) (sym at) (first (here at))
      where
        some_same : Some 0 ≡ Some i → 0 ≡ i
        some_same h = cc
    split false h rest =
        let next = next_some (index_among x (pairs_view pairs)) i h in
        let has : p ≡ get_or pairs next.0 p = is ∙ ap (λ k. get_or (q ∷ pairs) k p) next.1 in
        subst (λ (k : ℕ). Becomes r (pairs_view (slice_set (q ∷ pairs) k (record { variable = p.variable; value = slot }))) (option_map (λ rest. (q.variable, option_view q.value) ∷ rest) (held x v (pairs_view pairs)))) (sym next.1)
        (becomes_made (λ rest. (q.variable, option_view q.value) ∷ rest) r (pairs_view (slice_set pairs next.0 (record { variable = p.variable; value = slot }))) (held x v (pairs_view pairs)) (rest next.0 next.2 has))

pub held_there_if
    : (pairs : List PartialPair) (i x : ℕ) (v : PlainValue) (p : PartialPair) (slot : Option Value) (is' : Bool)
    → index_among x (pairs_view pairs) ≡ Some i → p ≡ get_or pairs i p → BecomesIf is' (option_view slot) (agreed (option_view p.value) v)
    → BecomesIf is' (pairs_view (slice_set pairs i (record { variable = p.variable; value = slot }))) (held x v (pairs_view pairs))
held_there_if pairs i x v p slot is' found is becomes = held_there {E = ⊥} pairs i x v p slot (Ok is') found is becomes

-- where the value of one pair is kept, all are
pub kept_there : (pairs : List PartialPair) (i : ℕ) (p : PartialPair) (slot : Option Value) → p ≡ get_or pairs i p → IsKept (option_view p.value) (option_view slot)
    → Extends (pairs_view pairs) (pairs_view (slice_set pairs i (record { variable = p.variable; value = slot })))
kept_there [] i p slot is kept = tt
kept_there (q ∷ pairs) zero p slot is kept = (ap (λ (k : PartialPair). k.variable) is, subst (λ (k : PartialPair). IsKept (option_view k.value) (option_view slot)) is kept, extends_itself (pairs_view pairs))
kept_there (q ∷ pairs) (suc i) p slot is kept = let rest = extends_itself (pairs_view (q ∷ pairs)) in (refl, rest.1, kept_there pairs i p slot is kept)
