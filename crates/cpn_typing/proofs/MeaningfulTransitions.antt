-- A transition of accepted inscriptions is meaningful in each net of what is declared.
use Rattle.std.proofs.Common.{◌≡◌, ℕ, ◌<◌, true, nat_lt, List, [], ◌∷◌, ◌++◌, length, Option, Some, None, sym, subst, ⊎_elim, lt-ltb}
use Rattle.std.specs.List.{flat_map, AllByRecursion}
use Rattle.cpn_definitions.specs.Inscription.{PlainExpr}
use Rattle.cpn_definitions.specs.Outcome.{HasMeaning}
use Rattle.cpn_definitions.specs.Meaning.{PlainBinding}
use Rattle.cpn_definitions.specs.Bindable.{variables_of}
use Rattle.cpn_definitions.specs.Net.{PlainArc, PlainTransition, PlainNet}
use Rattle.cpn_definitions.specs.Occurrence.{binds, transition_delay}
use Rattle.cpn_definitions.proofs.RisingLists.{IsIn, in_from_contains, contains_from_in, in_append_left, in_append_right, in_append_cases, all_pass, of_one_in}
use Rattle.cpn_trees.specs.Trees.{PlainAsts, no_ast, more_asts}
use Rattle.cpn_trees.specs.DeclTrees.{PlainDecl}
use Rattle.cpn_typing.specs.Types.{bool_type, int_type}
use Rattle.cpn_typing.specs.Names.{Declared, nothing_declared, ok}
use Rattle.cpn_typing.specs.Contexts.{in_guard, in_delay}
use Rattle.cpn_typing.specs.Expressions.{typed}
use Rattle.cpn_typing.specs.Declarations.{all_declared}
use Rattle.cpn_typing.specs.Multisets.{Side, input, output}
use Rattle.cpn_typing.specs.GuardsAndDelays.{checked_guard}
use Rattle.cpn_typing.specs.InscriptionVariables.{inscription_variables}
use Rattle.cpn_typing.specs.AcceptedTransitions.{delay_variables, arcs_variables, transition_variables, IsAcceptedArc, IsAcceptedDelay, IsAcceptedTransition, IsNetOf, ArcMeans, IsMeaningfulTransition}
use Rattle.cpn_typing.specs.Consistency.{IsConsistent}
use Rattle.cpn_typing.proofs.Consistent.{accepted_parts, same_accepted, declarations_consistent}
use Rattle.cpn_typing.proofs.MeaningsInNets.{AreAmong, arc_means, guard_has_meaning, delay_has_meaning, arc_reads_declared, text_reads_declared}

-- ---- what stands in a transition is among its variables

among_vars : (ds : Declared) (t : PlainTransition) → IsAcceptedTransition ds t → (xs : List ℕ) → ((x : ℕ) → IsIn x xs → IsIn x (transition_variables t)) → AreAmong xs t.vars
among_vars ds t h xs part x is = in_from_contains t.vars x ((h.variables.exact x).1 (contains_from_in (transition_variables t) x (part x is)))

guard_in : (t : PlainTransition) (x : ℕ) → IsIn x (flat_map variables_of t.guard) → IsIn x (transition_variables t)
guard_in t x h = in_append_left (flat_map variables_of t.guard) (delay_variables t.delay ++ (arcs_variables t.inputs ++ arcs_variables t.outputs)) x h

delay_in : (t : PlainTransition) (x : ℕ) → IsIn x (delay_variables t.delay) → IsIn x (transition_variables t)
delay_in t x h =
    in_append_right (flat_map variables_of t.guard) (delay_variables t.delay ++ (arcs_variables t.inputs ++ arcs_variables t.outputs)) x
    (in_append_left (delay_variables t.delay) (arcs_variables t.inputs ++ arcs_variables t.outputs) x h)

arcs_in : (t : PlainTransition) (x : ℕ) → IsIn x (arcs_variables t.inputs ++ arcs_variables t.outputs) → IsIn x (transition_variables t)
arcs_in t x h =
    in_append_right (flat_map variables_of t.guard) (delay_variables t.delay ++ (arcs_variables t.inputs ++ arcs_variables t.outputs)) x
    (in_append_right (delay_variables t.delay) (arcs_variables t.inputs ++ arcs_variables t.outputs) x h)

-- ---- what stands in it is declared

abbrev BelowAll : Declared → List ℕ → Type 0
BelowAll ds xs = (x : ℕ) → IsIn x xs → x < length ds.variables

below_of : (ds : Declared) (xs : List ℕ) → AllByRecursion (λ x. x < length ds.variables) xs → BelowAll ds xs
below_of ds xs h x is = of_one_in (λ y. y < length ds.variables) xs x h is

guard_below : (ds : Declared) → IsConsistent ds → (tree : PlainAsts) (guard : List PlainExpr) → checked_guard ds tree ≡ ok guard → BelowAll ds (flat_map variables_of guard)
guard_below ds good no_ast guard is = subst (λ es. BelowAll ds (flat_map variables_of es)) (same_accepted [] guard is) (λ x h. absurd h)
guard_below ds good (more_asts a rest) guard is =
    let first = accepted_parts (typed ds in_guard a [] (Some bool_type)) _ guard is in
    let others = accepted_parts (checked_guard ds rest) _ guard first.2 in
    subst (λ es. BelowAll ds (flat_map variables_of es)) (same_accepted (first.0.expr ∷ others.0) guard others.2)
    (λ x h. ⊎_elim (below_of ds (variables_of first.0.expr) (text_reads_declared ds good in_guard a [] (Some bool_type) first.0 first.1) x) (guard_below ds good rest others.0 others.1 x)
    (in_append_cases (variables_of first.0.expr) (flat_map variables_of others.0) x h))

delay_below : (ds : Declared) → IsConsistent ds → (delay : Option PlainExpr) → IsAcceptedDelay ds delay → BelowAll ds (delay_variables delay)
delay_below ds good None h = λ x is. absurd is
delay_below ds good (Some delay) h =
    let first = accepted_parts (typed ds in_delay h.0 [] (Some int_type)) _ delay h.1 in
    subst (λ e. BelowAll ds (variables_of e)) (same_accepted first.0.expr delay first.2) (below_of ds (variables_of first.0.expr) (text_reads_declared ds good in_delay h.0 [] (Some int_type) first.0 first.1))

arcs_below : (ds : Declared) → IsConsistent ds → (side : Side) (arcs : List PlainArc) → AllByRecursion (IsAcceptedArc ds side) arcs → BelowAll ds (arcs_variables arcs)
arcs_below ds good side [] h x is = absurd is
arcs_below ds good side (arc ∷ arcs) h x is =
    ⊎_elim (below_of ds (inscription_variables arc.expr) (arc_reads_declared ds good side arc.colour h.0.tree arc.expr h.0.is) x) (arcs_below ds good side arcs h.1 x)
    (in_append_cases (inscription_variables arc.expr) (arcs_variables arcs) x is)

all_below : (ds : Declared) → IsConsistent ds → (t : PlainTransition) → IsAcceptedTransition ds t → BelowAll ds (transition_variables t)
all_below ds good t h x is =
    ⊎_elim (guard_below ds good h.guard_tree t.guard h.guard x)
    (λ g. ⊎_elim (delay_below ds good t.delay h.delay x)
    (λ k. ⊎_elim (arcs_below ds good input t.inputs h.inputs x) (arcs_below ds good output t.outputs h.outputs x) (in_append_cases (arcs_variables t.inputs) (arcs_variables t.outputs) x k))
    (in_append_cases (delay_variables t.delay) (arcs_variables t.inputs ++ arcs_variables t.outputs) x g))
    (in_append_cases (flat_map variables_of t.guard) (delay_variables t.delay ++ (arcs_variables t.inputs ++ arcs_variables t.outputs)) x is)

-- ---- meaning

arcs_mean : (ds : Declared) → IsConsistent ds → (n : PlainNet) → IsNetOf ds n → (t : PlainTransition) (side : Side) (arcs : List PlainArc) → AllByRecursion (IsAcceptedArc ds side) arcs → AreAmong (arcs_variables arcs) t.vars → AllByRecursion (ArcMeans n t) arcs
arcs_mean ds good n of t side [] h among = tt
arcs_mean ds good n of t side (arc ∷ arcs) h among = (
  λ b time bound late. arc_means ds good n of side arc.colour h.0.tree arc.expr h.0.is t.vars (λ x is. among x (in_append_left (inscription_variables arc.expr) (arcs_variables arcs) x is)) arc.colour b time bound,
  arcs_mean ds good n of t side arcs h.1 (λ x is. among x (in_append_right (inscription_variables arc.expr) (arcs_variables arcs) x is)),
)

each_among : (vars : List ℕ) (guard : List PlainExpr) → AreAmong (flat_map variables_of guard) vars → AllByRecursion (λ e. AreAmong (variables_of e) vars) guard
each_among vars [] among = tt
each_among vars (e ∷ es) among =
    (λ x is. among x (in_append_left (variables_of e) (flat_map variables_of es) x is), each_among vars es (λ x is. among x (in_append_right (variables_of e) (flat_map variables_of es) x is)))

delay_means_there : (ds : Declared) → IsConsistent ds → (n : PlainNet) → IsNetOf ds n → (vars : List ℕ) (delay : Option PlainExpr) → IsAcceptedDelay ds delay → AreAmong (delay_variables delay) vars → (b : PlainBinding) (time : ℕ) → binds n vars b ≡ true → HasMeaning (transition_delay n.functions delay b time)
delay_means_there ds good n of vars None h among b time bound = λ is. cc
delay_means_there ds good n of vars (Some delay) h among b time bound = delay_has_meaning ds good n of h.0 delay h.1 vars among b time bound

-- The law.
pub accepted_is_meaningful : (ds : Declared) → IsConsistent ds → (n : PlainNet) → IsNetOf ds n → (t : PlainTransition) → IsAcceptedTransition ds t → IsMeaningfulTransition n t
accepted_is_meaningful ds good n of t h = record {
  declared = all_pass (λ x. nat_lt x (length n.variables)) t.vars (λ x is. below_is x is);
  guard_means = λ b bound. guard_has_meaning ds good n of h.guard_tree t.guard h.guard t.vars (each_among t.vars t.guard (among_vars ds t h (flat_map variables_of t.guard) (guard_in t))) b bound;
  delay_means = λ b time bound late. delay_means_there ds good n of t.vars t.delay h.delay (among_vars ds t h (delay_variables t.delay) (delay_in t)) b time bound;
  inputs_mean = arcs_mean ds good n of t input t.inputs h.inputs (among_vars ds t h (arcs_variables t.inputs) (λ x is. arcs_in t x (in_append_left (arcs_variables t.inputs) (arcs_variables t.outputs) x is)));
  outputs_mean = arcs_mean ds good n of t output t.outputs h.outputs (among_vars ds t h (arcs_variables t.outputs) (λ x is. arcs_in t x (in_append_right (arcs_variables t.inputs) (arcs_variables t.outputs) x is)));
}
  where
    below_is : (x : ℕ) → IsIn x t.vars → nat_lt x (length n.variables) ≡ true
    below_is x is =
        subst (λ vs. nat_lt x (length vs) ≡ true) (sym of.variables_are)
        (lt-ltb x (length ds.variables) (all_below ds good t h x (in_from_contains (transition_variables t) x ((h.variables.exact x).0 (contains_from_in t.vars x is)))))

-- The same after any declarations that are accepted.
pub accepted_after_declarations : (decls : List PlainDecl) (ds : Declared) → all_declared nothing_declared decls ≡ ok ds → (n : PlainNet) → IsNetOf ds n → (t : PlainTransition) → IsAcceptedTransition ds t → IsMeaningfulTransition n t
accepted_after_declarations decls ds are n of t h = accepted_is_meaningful ds (declarations_consistent decls ds are) n of t h
