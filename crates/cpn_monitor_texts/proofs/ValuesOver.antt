-- What is accepted over variables: an integer or a fault under each binding of them; and a variable that is refused is declared.
use Rattle.std.proofs.Common.{◌≡◌, ◌<◌, ◌==◌, ◌||◌, ℕ, Bool, true, false, List, [], ◌∷◌, length, Option, Some, None, refl, sym, subst, inl, inr, arith}
use Rattle.std.specs.Prelude.{not, cond}
use Rattle.std.specs.List.{find, AllByRecursion}
use Rattle.std.proofs.lemmas.Bool.Decides.{nat_tests}
use Rattle.cpn_definitions.proofs.RisingLists.{IsIn, each_implied}
use Rattle.cpn_definitions.specs.Bindable.{variables_of}
use Rattle.cpn_definitions.specs.Inscription.{PlainExpr}
use Rattle.cpn_definitions.specs.Meaning.{meaning}
use Rattle.cpn_definitions.specs.Net.{PlainNet, PlainTransition}
use Rattle.cpn_definitions.specs.Outcome.{Outcome, gives, faults, no_meaning}
use Rattle.cpn_definitions.specs.Value.{PlainValue}
use Rattle.cpn_monitor.specs.Fitting.{MeansInteger, IsIntegerOver}
use Rattle.cpn_trees.specs.Trees.{PlainAst}
use Rattle.cpn_typing.specs.AcceptedTransitions.{IsNetOf}
use Rattle.cpn_typing.specs.Consistency.{IsConsistent}
use Rattle.cpn_typing.specs.Contexts.{in_monitor}
use Rattle.cpn_typing.specs.Expressions.{typed}
use Rattle.cpn_typing.specs.GuardsAndDelays.{checked_value}
use Rattle.cpn_typing.specs.Law.{Means, IsReadable}
use Rattle.cpn_typing.specs.Names.{Declared, ok}
use Rattle.cpn_typing.specs.Types.{int_type}
use Rattle.cpn_typing.proofs.Acceptance.{accepted_reads}
use Rattle.cpn_typing.proofs.Consistent.{accepted_parts, same_accepted}
use Rattle.cpn_typing.proofs.MeaningsInNets.{IsInteger, AreAmong, world_of, monitor_means}
use Rattle.cpn_monitor_texts.specs.Variables.{is_among, first_outside, unless_outside, over, value_over}

-- ---- lists

-- what is found has what each item has
found_has : {X : Type 0} (P : X → Type 0) (test : X → Bool) (xs : List X) (x : X) → AllByRecursion P xs → find test xs ≡ Some x → P x
found_has P test [] x all e = cc
found_has {X} P test (y ∷ ys) x all e = by (test y) (found_has P test ys x all.1) e
  where
    by : (b : Bool) → (find test ys ≡ Some x → P x) → cond b (Some y) (find test ys) ≡ Some x → P x
    by true later h = let same : y ≡ x = cc in subst P same all.0
    by false later h = later h

same_number : (y x : ℕ) → (y == x) ≡ true → y ≡ x
same_number y x h = grind (arith, nat_tests)

in_list : (vars : List ℕ) (x : ℕ) → is_among vars x ≡ true → IsIn x vars
in_list [] x h = cc
in_list (y ∷ ys) x h = by (y == x) refl (in_list ys x) h
  where
    by : (b : Bool) → (y == x) ≡ b → (is_among ys x ≡ true → IsIn x ys) → (b || is_among ys x) ≡ true → IsIn x (y ∷ ys)
    by true e later k = inl (same_number y x e)
    by false e later k = inr (later k)

-- where none is outside, each is one of these
all_among : (vars xs : List ℕ) → first_outside vars xs ≡ None → AreAmong xs vars
all_among vars [] e x h = absurd h
all_among vars (y ∷ ys) e x h = by (is_among vars y) refl (λ k. all_among vars ys k x) e h
  where
    by : (b : Bool) → is_among vars y ≡ b → (first_outside vars ys ≡ None → IsIn x ys → IsIn x vars) → cond (not b) (Some y) (first_outside vars ys) ≡ None → IsIn x (y ∷ ys) → IsIn x vars
    by true is later k (inl same) = subst (λ z. IsIn z vars) same (in_list vars y is)
    by true is later k (inr rest) = later k rest
    by false is later k g = cc

-- ---- inscriptions

-- what is accepted over variables is what the rules accept, and has no other variable
pub record IsOver (ds : Declared) (vars : List ℕ) (tree : PlainAst) (e : PlainExpr) : Type 0 where
  pub accepted : checked_value ds tree ≡ ok e
  pub none_outside : first_outside vars (variables_of e) ≡ None

pub over_parts : (ds : Declared) (vars : List ℕ) (tree : PlainAst) (e : PlainExpr) → value_over ds vars tree ≡ ok e → IsOver ds vars tree e
over_parts ds vars tree e h =
    let first = accepted_parts (checked_value ds tree) (over ds vars) e h in
    by first.0 first.1 (first_outside vars (variables_of first.0)) refl first.2
  where
    by : (x : PlainExpr) → checked_value ds tree ≡ ok x → (o : Option ℕ) → first_outside vars (variables_of x) ≡ o → unless_outside ds x o ≡ ok e → IsOver ds vars tree e
    by x is None none k = subst (IsOver ds vars tree) (same_accepted x e k) (record { accepted = is; none_outside = none })
    by x is (Some y) some k = cc

-- an integer or a fault
means_integer : (o : Outcome PlainValue) → Means IsInteger o → MeansInteger o
means_integer (gives v) h = subst (λ w. MeansInteger (gives w)) (sym h.1) tt
means_integer (faults f) h = tt
means_integer no_meaning h = absurd h

-- What is accepted over the variables of a transition is an integer over them.
pub over_is_integer : (ds : Declared) → IsConsistent ds → (n : PlainNet) → IsNetOf ds n → (t : PlainTransition) (tree : PlainAst) (e : PlainExpr) → value_over ds t.vars tree ≡ ok e → IsIntegerOver n t e
over_is_integer ds good n of t tree e h b time bound in_time =
    let parts = over_parts ds t.vars tree e h in
    means_integer (meaning n.functions e b time) (monitor_means ds good n of tree e parts.accepted t.vars (all_among t.vars (variables_of e) parts.none_outside) b time bound)

-- The variables of what is accepted are declared.
pub variables_declared : (ds : Declared) → IsConsistent ds → (tree : PlainAst) (e : PlainExpr) → checked_value ds tree ≡ ok e → AllByRecursion (λ x. x < length ds.variables) (variables_of e)
variables_declared ds good tree e is =
    let first = accepted_parts (typed ds in_monitor tree [] (Some int_type)) _ e is in
    let same = same_accepted first.0.expr e first.2 in
    let reads = accepted_reads (world_of ds good [] 0) in_monitor tree [] (Some int_type) first.0 first.1 in
    let all = subst (λ f. AllByRecursion (IsReadable ds in_monitor) (variables_of f)) same reads in
    each_implied (IsReadable ds in_monitor) (λ x. x < length ds.variables) (variables_of e) (λ x readable. let named = readable.1 in (good.numbered named.0 x named.1.0 named.1.1).is_below) all

-- so is one that is outside of some
pub outside_is_declared : (ds : Declared) (vars : List ℕ) (e : PlainExpr) (x : ℕ) → AllByRecursion (λ y. y < length ds.variables) (variables_of e) → first_outside vars (variables_of e) ≡ Some x → x < length ds.variables
outside_is_declared ds vars e x all h = found_has (λ y. y < length ds.variables) _ (variables_of e) x all h

-- ---- what is answered

-- the rules accept it, and then its variables are looked at
pub then_over : (ds : Declared) (vars : List ℕ) (tree : PlainAst) (e : PlainExpr) → checked_value ds tree ≡ ok e → value_over ds vars tree ≡ over ds vars e
then_over ds vars tree e is = rw is refl

pub over_is : (ds : Declared) (vars : List ℕ) (e : PlainExpr) (o : Option ℕ) → first_outside vars (variables_of e) ≡ o → over ds vars e ≡ unless_outside ds e o
over_is ds vars e o found = rw found refl
