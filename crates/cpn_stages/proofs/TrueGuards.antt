-- Where a guard holds under a binding, each equation of it gives its variable the value of its inscription.
use Rattle.std.proofs.Common.{◌≡◌, ◌⊎◌, ℕ, Bool, true, false, cond, List, [], ◌∷◌, Option, Some, None, refl, sym, ap, ◌∙◌, subst, inl, inr, ⊎_elim}
use Rattle.cpn_definitions.specs.Value.{PlainValue, boolean}
use Rattle.cpn_definitions.specs.Order.{same_value}
use Rattle.cpn_definitions.specs.ValueOrder.{same_value_true}
use Rattle.cpn_definitions.specs.Outcome.{gives, given, gives_and}
use Rattle.cpn_definitions.specs.Operations.{truth_in, operated}
use Rattle.cpn_definitions.specs.Inscription.{operation, equality, PlainExpr, variable, conjunction, no_exprs, more_exprs, Functions}
use Rattle.cpn_definitions.specs.Net.{PlainTransition}
use Rattle.cpn_definitions.specs.Meaning.{PlainBinding, bound_value, Setting, done_with, with_first, meant, meant_each, setting_of, meaning, is_true}
use Rattle.cpn_definitions.specs.Bindable.{conjuncts_of, equation}
use Rattle.cpn_definitions.specs.Occurrence.{guard_holds}
use Rattle.cpn_definitions.proofs.Outcomes.{same_given, bound_parts, gives_and_parts}
use Rattle.cpn_definitions.proofs.RisingLists.{IsIn, in_append_cases, passes_at, in_flat_from}
use Rattle.cpn_stages.specs.Stages.{parts_of}

-- ---- a part of a conjunct that is true is true

truth_is : (v : PlainValue) (b : Bool) → truth_in v ≡ gives b → v ≡ boolean b
truth_is (boolean c) b h = ap boolean (same_given c b h)
truth_is v b h = cc

true_is : (v : PlainValue) → is_true v ≡ true → v ≡ boolean true
true_is (boolean b) h = ap boolean h
true_is v h = cc

abbrev MeansTrue : Setting → List PlainValue → PlainExpr → Type 0
MeansTrue s locals e = meant e s locals ≡ gives (boolean true)

both_true : (e f : PlainExpr) (s : Setting) (locals : List PlainValue) → MeansTrue s locals (conjunction e f) → MeansTrue s locals e × MeansTrue s locals f
both_true e f s locals is =
    let first = bound_parts (meant e s locals) _ (boolean true) is in
    let second = bound_parts (truth_in first.0) _ (boolean true) first.2 in
    let value : first.0 ≡ boolean second.0 = truth_is first.0 second.0 second.1 in
    split second.0 (first.1 ∙ ap gives value) second.2
  where
    split : (b : Bool) → meant e s locals ≡ gives (boolean b) → cond b (meant f s locals) (gives (boolean false)) ≡ gives (boolean true) → MeansTrue s locals e × MeansTrue s locals f
    split true here h = (here, h)
    split false here h = cc

part_true : (e part : PlainExpr) (s : Setting) (locals : List PlainValue) → IsIn part (conjuncts_of e) → MeansTrue s locals e → MeansTrue s locals part
part_true (conjunction e f) part s locals h is =
    let both = both_true e f s locals is in
    ⊎_elim (λ here. part_true e part s locals here both.0) (λ there. part_true f part s locals there both.1) (in_append_cases (conjuncts_of e) (conjuncts_of f) part h)
part_true e part s locals (inl same) is = subst (MeansTrue s locals) same is
part_true e part s locals (inr h) is = absurd h

pub guard_part_true : (funs : Functions) (t : PlainTransition) (b : PlainBinding) (part : PlainExpr) → guard_holds funs t.guard b ≡ true → IsIn part (parts_of t) → meaning funs part b 0 ≡ gives (boolean true)
guard_part_true funs t b part holds h =
    let of_one = in_flat_from conjuncts_of t.guard part h in
    let value = gives_and_parts (meaning funs of_one.0 b 0) is_true (passes_at (λ e. gives_and (meaning funs e b 0) is_true) t.guard of_one.0 holds of_one.1) in
    part_true of_one.0 part (setting_of funs b 0) [] of_one.2 (value.1 ∙ ap gives (true_is value.0 value.2))

-- ---- an equation that is true

-- both sides have one value
equal_sides : (e f : PlainExpr) (s : Setting) (locals : List PlainValue) → MeansTrue s locals (equation e f) → (v : PlainValue) × (meant e s locals ≡ gives v) × (meant f s locals ≡ gives v)
equal_sides e f s locals is =
    let parts = bound_parts (meant_each (more_exprs e (more_exprs f no_exprs)) s locals) (done_with (operation equality) s.calls) (boolean true) is in
    let first = bound_parts (meant e s locals) _ parts.0 parts.1 in
    let rest = bound_parts (meant_each (more_exprs f no_exprs) s locals) (with_first first.0) parts.0 first.2 in
    let second = bound_parts (meant f s locals) _ rest.0 rest.1 in
    let behind : second.0 ∷ [] ≡ rest.0 = same_given (second.0 ∷ []) rest.0 second.2 in
    let all : first.0 ∷ second.0 ∷ [] ≡ parts.0 = ap (λ vs. first.0 ∷ vs) behind ∙ same_given (first.0 ∷ rest.0) parts.0 rest.2 in
    let compared : operated equality (first.0 ∷ second.0 ∷ []) ≡ gives (boolean true) = subst (λ vs. operated equality vs ≡ gives (boolean true)) (sym all) parts.2 in
    let same : first.0 ≡ second.0 = same_value_true first.0 second.0 (truth (same_value first.0 second.0) compared) in
    (second.0, first.1 ∙ ap gives same, second.1)
  where
    truth : (b : Bool) → gives (boolean b) ≡ gives (boolean true) → b ≡ true
    truth true h = refl
    truth false h = cc

given_is : (x : ℕ) (b : PlainBinding) (v : PlainValue) → given (bound_value x b) ≡ gives v → bound_value x b ≡ Some v
given_is x b v h = split (bound_value x b) h
  where
    split : (o : Option PlainValue) → given o ≡ gives v → o ≡ Some v
    split None h = cc
    split (Some w) h = ap Some (same_given w v h)

-- the variable has the value of the inscription
pub equation_gives : (funs : Functions) (b : PlainBinding) (x : ℕ) (e part : PlainExpr) → meaning funs part b 0 ≡ gives (boolean true) → (part ≡ equation (variable x) e) ⊎ (part ≡ equation e (variable x))
    → (v : PlainValue) × (bound_value x b ≡ Some v) × (meaning funs e b 0 ≡ gives v)
equation_gives funs b x e part is (inl first) =
    let sides = equal_sides (variable x) e (setting_of funs b 0) [] (subst (MeansTrue (setting_of funs b 0) []) first is) in
    (sides.0, given_is x b sides.0 sides.1, sides.2)
equation_gives funs b x e part is (inr second) =
    let sides = equal_sides e (variable x) (setting_of funs b 0) [] (subst (MeansTrue (setting_of funs b 0) []) second is) in
    (sides.0, given_is x b sides.0 sides.2, sides.1)
