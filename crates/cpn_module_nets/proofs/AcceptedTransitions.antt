-- The transitions of a module are accepted by the rules of typing, with their guards, their delays and their arcs.
use Rattle.std.proofs.Common.{◌≡◌, ◌<◌, ◌≤◌, ◌+◌, ℕ, suc, List, [], ◌∷◌, length, sym, ap, subst, arith}
use Rattle.std.specs.Prelude.{Option, Some, None}
use Rattle.std.specs.List.{AllByRecursion}
use Rattle.cpn_definitions.specs.Inscription.{PlainExpr}
use Rattle.cpn_definitions.specs.Net.{PlainArc, PlainTransition, Coloured}
use Rattle.cpn_definitions.proofs.RisingLists.{each_appended, each_implied}
use Rattle.cpn_trees.specs.Trees.{PlainAst, PlainAsts, no_ast}
use Rattle.cpn_typing.specs.Names.{Declared, ok}
use Rattle.cpn_typing.specs.Multisets.{input, output}
use Rattle.cpn_typing.specs.GuardsAndDelays.{checked_guard, checked_delay}
use Rattle.cpn_typing.specs.AcceptedTransitions.{HasItsVariables, IsAcceptedArc, IsAcceptedDelay, IsAcceptedTransition}
use Rattle.cpn_document.specs.declared.pointers.Pointer.{Pointer}
use Rattle.cpn_module.specs.Hierarchy.{PlainEnds, PlainStructure}
use Rattle.cpn_module_trees.specs.Parsing.{Parsing}
use Rattle.cpn_module_trees.specs.Trees.{TransitionTrees, ModuleTrees}
use Rattle.cpn_readings.specs.ItemByItem.{EachIs}
use Rattle.cpn_readings.proofs.Readings.{same_read, steps}
use Rattle.cpn_accepted.specs.Completed.{with_variables, IsCompleted}
use Rattle.cpn_module_nets.specs.Reading.{read, each_from}
use Rattle.cpn_module_nets.specs.Fitting.{GoTogether}
use Rattle.cpn_module_nets.specs.Pointers.{expr_pointer, guard_pointer, delay_pointer}
use Rattle.cpn_module_nets.specs.Accepted.{tree_at, accepted_at, guard_at, delay_at, bare_transition, Sides, no_ends, ends_at, arc_of, inputs_of, outputs_of, joined_from}
use Rattle.cpn_module_nets.specs.Transitions.{HasItsTerms}
use Rattle.cpn_module_nets.proofs.AcceptedTexts.{accepted_is, each_from_all}
use Rattle.cpn_module_nets.proofs.AcceptedArcs.{IsGoodArc, IsGoodInput, IfThere, AreGoodSides, arc_good, inputs_all, outputs_all}
use Rattle.cpn_module_nets.proofs.ListFacts.{all_below}

-- ---- arcs

arcs_from : (ds : Declared) (places : List Coloured) (m : ℕ) (s : PlainStructure) (i : ℕ) (texts : List (Parsing PlainAst)) (sides : List Sides) → AllByRecursion (λ (ends : PlainEnds). ends.place < length places) s.arcs
    → i + length texts ≤ length s.arcs → each_from (arc_of ds places m s) i texts ≡ read sides → AllByRecursion (AreGoodSides ds places) sides
unfolding each_from
arcs_from ds places m s i [] sides known few h = subst (AllByRecursion (AreGoodSides ds places)) (same_read [] sides h) tt
arcs_from ds places m s i (text ∷ texts) sides known few h =
    let first = steps _ (arc_of ds places m s i text) sides h in
    let rest = steps _ (each_from (arc_of ds places m s) (suc i) texts) sides first.2 in
    let here = all_below (λ (ends : PlainEnds). ends.place < length places) no_ends s.arcs i (omega arith) known in
    subst (AllByRecursion (AreGoodSides ds places)) (same_read _ sides rest.2) (arc_good ds places (expr_pointer m i) (ends_at s i) text first.0 here first.1, arcs_from ds places m s (suc i) texts rest.0 known (omega arith) rest.1)

-- each arc that is read is good
arcs_good : (ds : Declared) (places : List Coloured) (m : ℕ) (s : PlainStructure) (texts : List (Parsing PlainAst)) (sides : List Sides) → AllByRecursion (λ (ends : PlainEnds). ends.place < length places) s.arcs
    → length texts ≤ length s.arcs → each_from (arc_of ds places m s) 0 texts ≡ read sides → AllByRecursion (AreGoodSides ds places) sides
arcs_good ds places m s texts sides known few h = arcs_from ds places m s 0 texts sides known (omega arith) h

-- ---- guards and delays

guard_tree : (ds : Declared) (pointer : Pointer) (text : Option (Parsing PlainAsts)) (guard : List PlainExpr) → guard_at ds pointer text ≡ read guard → (tree : PlainAsts) × (checked_guard ds tree ≡ ok guard)
unfolding guard_at
guard_tree ds pointer None guard h = (no_ast, ap ok (same_read [] guard h))
guard_tree ds pointer (Some text) guard h =
    let tree = steps _ (tree_at pointer text) guard h in
    (tree.0, accepted_is pointer (checked_guard ds tree.0) guard tree.2)

delay_tree : (ds : Declared) (pointer : Pointer) (text : Option (Parsing PlainAst)) (delay : Option PlainExpr) → delay_at ds pointer text ≡ read delay → IsAcceptedDelay ds delay
unfolding delay_at
delay_tree ds pointer None delay h = subst (IsAcceptedDelay ds) (same_read None delay h) tt
delay_tree ds pointer (Some text) delay h =
    let tree = steps _ (tree_at pointer text) delay h in
    let e = steps _ (accepted_at pointer (checked_delay ds tree.0)) delay tree.2 in
    subst (IsAcceptedDelay ds) (same_read (Some e.0) delay e.2) (tree.0, accepted_is pointer (checked_delay ds tree.0) e.0 e.1)

-- ---- transitions

-- a transition whose guard, delay and arcs are accepted
pub record IsGoodTransition (ds : Declared) (places : List Coloured) (t : PlainTransition) : Type 0 where
  pub guard : (tree : PlainAsts) × (checked_guard ds tree ≡ ok t.guard)
  pub delay : IsAcceptedDelay ds t.delay
  pub inputs : AllByRecursion (IsGoodInput ds places) t.inputs
  pub outputs : AllByRecursion (IsGoodArc ds places output) t.outputs

bare_good : (ds : Declared) (places : List Coloured) (m i : ℕ) (transition : TransitionTrees) (bare : PlainTransition) → bare_transition ds m i transition ≡ read bare → IsGoodTransition ds places bare
unfolding bare_transition
bare_good ds places m i transition bare h =
    let guard = steps _ (guard_at ds (guard_pointer m i) transition.guard) bare h in
    let delay = steps _ (delay_at ds (delay_pointer m i) transition.delay) bare guard.2 in
    subst (IsGoodTransition ds places) (same_read _ bare delay.2) (record { guard = guard_tree ds (guard_pointer m i) transition.guard guard.0 guard.1; delay = delay_tree ds (delay_pointer m i) transition.delay delay.0 delay.1; inputs = tt; outputs = tt })

bares_good : (ds : Declared) (places : List Coloured) (m : ℕ) (trees : List TransitionTrees) (bares : List PlainTransition) → each_from (bare_transition ds m) 0 trees ≡ read bares → AllByRecursion (IsGoodTransition ds places) bares
bares_good ds places m trees bares h = each_from_all (bare_transition ds m) (IsGoodTransition ds places) (bare_good ds places m) 0 trees bares h

joined_good : (ds : Declared) (places : List Coloured) (t : ℕ) (xs : List PlainTransition) (arcs : List Sides) → AllByRecursion (IsGoodTransition ds places) xs → AllByRecursion (AreGoodSides ds places) arcs → AllByRecursion (IsGoodTransition ds places) (joined_from t xs arcs)
joined_good ds places t [] arcs good all = tt
joined_good ds places t (x ∷ xs) arcs good all = (
  record {
    guard = good.0.guard;
    delay = good.0.delay;
    inputs = each_appended (IsGoodInput ds places) x.inputs (inputs_of t arcs) good.0.inputs (inputs_all (IsGoodInput ds places) t arcs (each_implied (AreGoodSides ds places) (λ (sides : Sides). IfThere (IsGoodInput ds places) sides.input) arcs (λ sides are. are.into) all));
    outputs = each_appended (IsGoodArc ds places output) x.outputs (outputs_of t arcs) good.0.outputs (outputs_all (IsGoodArc ds places output) t arcs (each_implied (AreGoodSides ds places) (λ (sides : Sides). IfThere (IsGoodArc ds places output) sides.output) arcs (λ sides are. are.out) all));
  },
  joined_good ds places (suc t) xs arcs good.1 all,
)

good_terms : (ds : Declared) (places : List Coloured) (t : PlainTransition) → IsGoodTransition ds places t → HasItsTerms t
good_terms ds places t good = each_implied (IsGoodInput ds places) _ t.inputs (λ arc is. is.terms) good.inputs

-- with its variables listed it is as good
good_completed : (ds : Declared) (places : List Coloured) (bare : PlainTransition) (vars : List ℕ) → IsGoodTransition ds places bare → IsGoodTransition ds places (with_variables bare vars)
good_completed ds places bare vars g = record { guard = g.guard; delay = g.delay; inputs = g.inputs; outputs = g.outputs }

completed_good : (ds : Declared) (places : List Coloured) (bares ts : List PlainTransition) → EachIs IsCompleted bares ts → AllByRecursion (IsGoodTransition ds places) bares → AllByRecursion (IsGoodTransition ds places) ts
completed_good ds places [] [] is all = tt
completed_good ds places [] (t ∷ ts) is all = absurd is
completed_good ds places (bare ∷ bares) [] is all = absurd is
completed_good ds places (bare ∷ bares) (t ∷ ts) is all = (subst (IsGoodTransition ds places) (sym is.0.same) (good_completed ds places bare t.vars all.0), completed_good ds places bares ts is.1 all.1)

-- the input arcs of transitions that are good carry their terms
pub good_have_terms : (ds : Declared) (places : List Coloured) (ts : List PlainTransition) → AllByRecursion (IsGoodTransition ds places) ts → AllByRecursion HasItsTerms ts
good_have_terms ds places ts all = each_implied (IsGoodTransition ds places) HasItsTerms ts (good_terms ds places) all

inputs_accepted : (ds : Declared) (places : List Coloured) (arcs : List PlainArc) → AllByRecursion (IsGoodInput ds places) arcs → AllByRecursion (IsAcceptedArc ds input) arcs
inputs_accepted ds places arcs all = each_implied (IsGoodInput ds places) (IsAcceptedArc ds input) arcs (λ arc is. is.good.accepted) all

outputs_accepted : (ds : Declared) (places : List Coloured) (arcs : List PlainArc) → AllByRecursion (IsGoodArc ds places output) arcs → AllByRecursion (IsAcceptedArc ds output) arcs
outputs_accepted ds places arcs all = each_implied (IsGoodArc ds places output) (IsAcceptedArc ds output) arcs (λ arc is. is.accepted) all

-- with its variables listed it is an accepted transition
pub good_accepted : (ds : Declared) (places : List Coloured) (t : PlainTransition) → IsGoodTransition ds places t → HasItsVariables t → IsAcceptedTransition ds t
good_accepted ds places t good its = record {
  variables = its;
  guard_tree = good.guard.0;
  guard = good.guard.1;
  delay = good.delay;
  inputs = inputs_accepted ds places t.inputs good.inputs;
  outputs = outputs_accepted ds places t.outputs good.outputs;
}

-- those that are good, with their variables listed, are accepted
pub completed_accepted : (ds : Declared) (places : List Coloured) (bares ts : List PlainTransition) → EachIs IsCompleted bares ts → AllByRecursion (IsGoodTransition ds places) ts → AllByRecursion (IsAcceptedTransition ds) ts
completed_accepted ds places [] [] is all = tt
completed_accepted ds places [] (t ∷ ts) is all = absurd is
completed_accepted ds places (bare ∷ bares) [] is all = absurd is
completed_accepted ds places (bare ∷ bares) (t ∷ ts) is all = (good_accepted ds places t all.0 is.0.variables, completed_accepted ds places bares ts is.1 all.1)

-- the transitions of a module are good
pub transitions_good : (ds : Declared) (places : List Coloured) (m : ℕ) (s : PlainStructure) (trees : ModuleTrees) → GoTogether places s trees → (bares : List PlainTransition) → each_from (bare_transition ds m) 0 trees.transitions ≡ read bares
    → (arcs : List Sides) → each_from (arc_of ds places m s) 0 trees.arcs ≡ read arcs → (ts : List PlainTransition) → EachIs IsCompleted (joined_from 0 bares arcs) ts → AllByRecursion (IsGoodTransition ds places) ts
transitions_good ds places m s trees together bares bares_are arcs arcs_are ts completed =
    completed_good ds places (joined_from 0 bares arcs) ts completed
    (joined_good ds places 0 bares arcs (bares_good ds places m trees.transitions bares bares_are) (arcs_good ds places m s trees.arcs arcs together.at_places (subst (λ k. length trees.arcs ≤ k) together.as_many_arcs (omega arith)) arcs_are))
