-- Shapes, one level or one item at a time.
use Rattle.std.proofs.Common.{◌≡◌, ℕ, zero, suc, ◌+◌, ◌<◌, ◌≤◌, min, true, ◌&&◌, nat_eq, List, [], ◌∷◌, length, get_or, drop, refl, sym, ap, ◌∙◌, arith, add-one, drop-cons, Option, Some, None, option_map}
use Rattle.std.proofs.lemmas.Bool.Decides.{nat_tests}
use Rattle.cpn_definitions.specs.Colour.{has_shape, have_shapes, all_have_shape, constructor_at}
use Rattle.cpn_core.specs.declared.values.Value.{Value}
use Rattle.cpn_core.specs.declared.colours.Shape.{Shape}
use Rattle.cpn_core.specs.Views.{value_view, values_view}
use Rattle.cpn_core.specs.Colours.{shape_view, shapes_view, constructors_view}

-- the constructor at a position among the declared ones, and none past them
pub declared_at : (cs : List (Option Shape)) (k : ℕ) (d : Option Shape) → k < length cs → d ≡ get_or cs k d → constructor_at (constructors_view cs) k ≡ Some (option_map shape_view d)
declared_at [] k d lt e = let no : ⊥ = omega arith in absurd no
declared_at (None ∷ cs) zero d lt e = ap (λ o. Some (option_map shape_view o)) (sym e)
declared_at (Some s ∷ cs) zero d lt e = ap (λ o. Some (option_map shape_view o)) (sym e)
declared_at (None ∷ cs) (suc k) d lt e = declared_at cs k d (omega arith) e
declared_at (Some s ∷ cs) (suc k) d lt e = declared_at cs k d (omega arith) e

pub none_declared : (cs : List (Option Shape)) (k : ℕ) → length cs ≤ k → constructor_at (constructors_view cs) k ≡ None
none_declared [] k le = refl
none_declared (c ∷ cs) zero le = let no : ⊥ = omega arith in absurd no
none_declared (None ∷ cs) (suc k) le = none_declared cs k (omega arith)
none_declared (Some s ∷ cs) (suc k) le = none_declared cs k (omega arith)

-- from an index on the values have the shapes where the item there has its own and those after it have theirs
pub held_more
    : (vs : List Value) (ss : List Shape) (i : ℕ) (v : Value) (s : Shape)
    → i < length vs
    → i < length ss
    → v ≡ get_or vs i v
    → s ≡ get_or ss i s
    → have_shapes (values_view (drop i vs)) (shapes_view (drop i ss)) ≡ (has_shape (value_view v) (shape_view s) && have_shapes (values_view (drop (i + 1) vs)) (shapes_view (drop (i + 1) ss)))
held_more vs ss i v s lv ls ev es =
    let dv : drop i vs ≡ v ∷ drop (i + 1) vs = rw add-one (drop-cons vs i v lv ∙ ap (λ x. x ∷ drop (suc i) vs) (sym ev)) in
    let ds : drop i ss ≡ s ∷ drop (i + 1) ss = rw add-one (drop-cons ss i s ls ∙ ap (λ x. x ∷ drop (suc i) ss) (sym es)) in
    rw (dv, ds) refl

-- where the shorter row ends, the values have the shapes if there are as many of both
pub held_all : (vs : List Value) (ss : List Shape) (i : ℕ) → i ≡ min (length vs) (length ss) → have_shapes (values_view (drop i vs)) (shapes_view (drop i ss)) ≡ nat_eq (length vs) (length ss)
held_all [] [] i e = let z : i ≡ 0 = omega arith in rw z refl
held_all [] (s ∷ ss) i e = let z : i ≡ 0 = omega arith in rw z (grind (arith, nat_tests))
held_all (v ∷ vs) [] i e = let z : i ≡ 0 = omega arith in rw z (grind (arith, nat_tests))
held_all (v ∷ vs) (s ∷ ss) zero e = let no : ⊥ = omega arith in absurd no
held_all (v ∷ vs) (s ∷ ss) (suc i) e = held_all vs ss i (omega arith) ∙ grind (arith, nat_tests)

-- the item at an index has its shape, so it is left to those after it
pub held_next
    : (vs : List Value) (ss : List Shape) (i : ℕ) (v : Value) (s : Shape)
    → i < length vs
    → i < length ss
    → v ≡ get_or vs i v
    → s ≡ get_or ss i s
    → has_shape (value_view v) (shape_view s) ≡ true
    → have_shapes (values_view (drop i vs)) (shapes_view (drop i ss)) ≡ have_shapes (values_view (drop (i + 1) vs)) (shapes_view (drop (i + 1) ss))
held_next vs ss i v s lv ls ev es holds = held_more vs ss i v s lv ls ev es ∙ ap (λ b. b && have_shapes (values_view (drop (i + 1) vs)) (shapes_view (drop (i + 1) ss))) holds

-- the same where all items are of one shape
pub all_held_next
    : (vs : List Value) (s : Shape) (i : ℕ) (v : Value)
    → i < length vs
    → v ≡ get_or vs i v
    → has_shape (value_view v) (shape_view s) ≡ true
    → all_have_shape (values_view (drop i vs)) (shape_view s) ≡ all_have_shape (values_view (drop (i + 1) vs)) (shape_view s)
all_held_next vs s i v lv ev holds =
    let dv : drop i vs ≡ v ∷ drop (i + 1) vs = rw add-one (drop-cons vs i v lv ∙ ap (λ x. x ∷ drop (suc i) vs) (sym ev)) in
    rw dv (ap (λ b. b && all_have_shape (values_view (drop (i + 1) vs)) (shape_view s)) holds)
