-- What was read where an edit is.
use Rattle.std.proofs.Common.{◌≡◌, ◌<◌, ℕ, List, [], length, refl, sym, ap, ◌∙◌, subst}
use Rattle.std.specs.Prelude.{Option, Some, None}
use Rattle.std.proofs.lemmas.List.{length-map}
use Rattle.cpn_definitions.specs.DistinctNames.{place_names, transition_names}
use Rattle.cpn_definitions.specs.Inscription.{PlainExpr, ArcInscription, Functions}
use Rattle.cpn_definitions.specs.Marking.{Tokens}
use Rattle.cpn_definitions.specs.Net.{PlainTransition, Coloured, PlainNet, transition_at, place_at}
use Rattle.cpn_definitions.specs.Outcome.{Outcome, gives, faults, no_meaning}
use Rattle.cpn_definitions.specs.Terms.{PlainTerm, terms_of}
use Rattle.cpn_document.specs.Phases.{guard, initial}
use Rattle.cpn_document.specs.declared.pointers.Pointer.{Pointer}
use Rattle.cpn_flat.specs.InitialMarking.{tokens_of}
use Rattle.cpn_accepted.specs.Completed.{IsCompleted}
use Rattle.cpn_module_trees.specs.Parsing.{Parsing, IsGuard, IsInscription}
use Rattle.cpn_monitor.specs.Monitors.{PlainMonitor}
use Rattle.cpn_monitor_texts.specs.Named.{transition_named, place_named}
use Rattle.cpn_names.proofs.FirstOfNames.{number_below}
use Rattle.cpn_readings.specs.Relations.{just, such_that}
use Rattle.cpn_readings.proofs.Readings.{same_read, steps}
use Rattle.cpn_readings.proofs.RelatedReadings.{step_parts, such_holds}
use Rattle.cpn_trees.specs.Trees.{PlainAst, PlainAsts}
use Rattle.cpn_typing.specs.BindableRule.{IsBindableAnswer}
use Rattle.cpn_typing.specs.GuardsAndDelays.{checked_guard}
use Rattle.cpn_typing.specs.Multisets.{checked_init}
use Rattle.cpn_typing.specs.Names.{Declared, Checked, ok}
use Rattle.cpn_typing.specs.Names as checks
use Rattle.cpn_edit_texts.specs.Checked.{answered_at, transition_so, tokens_so, edit_so}
use Rattle.cpn_edit_texts.specs.Edits.{PlainEdit, edits_guard, edits_initial, with_guard}
use Rattle.cpn_edit_texts.specs.Measured.{measured_over}
use Rattle.cpn_edit_texts.specs.Reading.{read}
use Rattle.cpn_edit_texts.specs.Texts.{known, tree_at, accepted_at, guard_of, initial_of, terms_so}

-- ---- steps

-- what is named was found
found : (at : Pointer) (o : Option ℕ) (k : ℕ) → known at o ≡ read k → o ≡ Some k
found at None k h = cc
found at (Some j) k h = ap Some (same_read j k h)

pub accepted : {A : Type 0} (at : Pointer) (c : Checked A) (x : A) → accepted_at at c ≡ read x → c ≡ ok x
accepted at (ok y) x h = ap ok (same_read y x h)
accepted at (checks.refused r) x h = cc

pub transition_there : (n : PlainNet) (at : Pointer) (name : List ℕ) (t : ℕ) → known at (transition_named n name) ≡ read t → t < length n.transitions
transition_there n at name t h =
    let below = number_below name (transition_names n) t (found at (transition_named n name) t h) in
    subst (λ (k : ℕ). t < k) (length-map n.transitions (λ (x : PlainTransition). x.name)) below

pub place_there : (n : PlainNet) (at : Pointer) (name : List ℕ) (p : ℕ) → known at (place_named n name) ≡ read p → p < length n.places
place_there n at name p h =
    let below = number_below name (place_names n) p (found at (place_named n name) p h) in
    subst (λ (k : ℕ). p < k) (length-map n.places (λ (x : Coloured). x.name)) below

answered : {A : Type 0} (at : Pointer) (Answers : Checked A → Type 0) (x : A) → answered_at at Answers (read x) → Answers (ok x)
answered at Answers x h = subst Answers (accepted at h.0 x (sym h.2)) h.1

-- ---- another guard

-- a transition with another guard, as it is read
pub record TransitionRead (ds : Declared) (n : PlainNet) (monitors : List PlainMonitor) (t : ℕ) (conjuncts : List PlainExpr) (edited : PlainTransition) : Type 0 where
  pub completed : IsCompleted (with_guard (transition_at n t) conjuncts) edited
  pub bindable : IsBindableAnswer n edited (ok tt)
  pub measured : measured_over ds t edited.vars monitors ≡ ok tt

unit_is : (u : Unit {0}) → u ≡ tt
unit_is u = refl

transition_read : (ds : Declared) (n : PlainNet) (monitors : List PlainMonitor) (at : Pointer) (t : ℕ) (conjuncts : List PlainExpr) (edited : PlainTransition) → transition_so ds n monitors at t conjuncts (read edited) → TransitionRead ds n monitors t conjuncts edited
unfolding transition_so
transition_read ds n monitors at t conjuncts edited h =
    let whole = step_parts (such_that (IsCompleted (with_guard (transition_at n t) conjuncts))) _ edited h in
    let bindable = step_parts (answered_at at (IsBindableAnswer n whole.0)) _ edited whole.2 in
    let measured = step_parts (just (accepted_at at (measured_over ds t whole.0.vars monitors))) _ edited bindable.2 in
    subst (TransitionRead ds n monitors t conjuncts) (sym (same_read edited whole.0 measured.2)) (record {
      completed = such_holds (IsCompleted (with_guard (transition_at n t) conjuncts)) whole.0 whole.1;
      bindable = subst (λ u. IsBindableAnswer n whole.0 (ok u)) (unit_is bindable.0) (answered at (IsBindableAnswer n whole.0) bindable.0 bindable.1);
      measured = accepted at (measured_over ds t whole.0.vars monitors) measured.0 (sym measured.1) ∙ ap ok (unit_is measured.0);
    })

pub record GuardRead (ds : Declared) (n : PlainNet) (monitors : List PlainMonitor) (edit : PlainEdit) : Type 0 where
  pub number : ℕ
  pub there : number < length n.transitions
  pub tree : PlainAsts
  pub conjuncts : List PlainExpr
  pub checked : checked_guard ds tree ≡ ok conjuncts
  pub edited : PlainTransition
  pub is : TransitionRead ds n monitors number conjuncts edited
  pub edit_is : edit ≡ edits_guard number edited

guard_checked : (ds : Declared) (at : Pointer) (parsing : Parsing PlainAsts) (conjuncts : List PlainExpr) → guard_of ds at parsing ≡ read conjuncts → (tree : PlainAsts) × (checked_guard ds tree ≡ ok conjuncts)
unfolding guard_of
guard_checked ds at parsing conjuncts h = let tree = steps _ (tree_at at parsing) conjuncts h in (tree.0, accepted at (checked_guard ds tree.0) conjuncts tree.2)

pub guard_read : (ds : Declared) (n : PlainNet) (monitors : List PlainMonitor) (whole at : Pointer) (name text : List ℕ) (edit : PlainEdit) → edit_so ds n monitors whole at (guard name text) (read edit) → GuardRead ds n monitors edit
unfolding edit_so
guard_read ds n monitors whole at name text edit h =
    let t = step_parts (just (known whole (transition_named n name))) _ edit h in
    let parsing = step_parts (such_that (IsGuard text)) _ edit t.2 in
    let conjuncts = step_parts (just (guard_of ds at parsing.0)) _ edit parsing.2 in
    let edited = step_parts (transition_so ds n monitors at t.0 conjuncts.0) _ edit conjuncts.2 in
    let tree = guard_checked ds at parsing.0 conjuncts.0 (sym conjuncts.1) in
    record {
      number = t.0;
      there = transition_there n whole name t.0 (sym t.1);
      tree = tree.0;
      conjuncts = conjuncts.0;
      checked = tree.1;
      edited = edited.0;
      is = transition_read ds n monitors at t.0 conjuncts.0 edited.0 edited.1;
      edit_is = same_read edit (edits_guard t.0 edited.0) edited.2;
    }

-- ---- another initial marking

pub record TokensRead (ds : Declared) (funs : Functions) (place : Coloured) (tokens : Tokens) : Type 0 where
  pub tree : PlainAst
  pub expr : ArcInscription
  pub checked : checked_init ds place.colour tree ≡ ok expr
  pub terms : List PlainTerm
  pub terms_are : terms_of funs expr place.colour [] 0 ≡ gives terms
  pub tokens_are : tokens ≡ tokens_of place.colour.timed terms

initial_checked : (ds : Declared) (at : Pointer) (place : Coloured) (parsing : Parsing PlainAst) (expr : ArcInscription) → initial_of ds at place.colour parsing ≡ read expr → (tree : PlainAst) × (checked_init ds place.colour tree ≡ ok expr)
unfolding initial_of
initial_checked ds at place parsing expr h = let tree = steps _ (tree_at at parsing) expr h in (tree.0, accepted at (checked_init ds place.colour tree.0) expr tree.2)

pub given : (at : Pointer) (o : Outcome (List PlainTerm)) (terms : List PlainTerm) → terms_so at o (read terms) → o ≡ gives terms
given at (gives ts) terms h = ap gives (sym (same_read terms ts h))
given at (faults fault) terms h = cc
given at no_meaning terms h = absurd h

tokens_read : (ds : Declared) (funs : Functions) (at : Pointer) (place : Coloured) (text : List ℕ) (tokens : Tokens) → tokens_so ds funs at place text (read tokens) → TokensRead ds funs place tokens
unfolding tokens_so
tokens_read ds funs at place text tokens h =
    let parsing = step_parts (such_that (IsInscription text)) _ tokens h in
    let expr = step_parts (just (initial_of ds at place.colour parsing.0)) _ tokens parsing.2 in
    let terms = step_parts (terms_so at (terms_of funs expr.0 place.colour [] 0)) _ tokens expr.2 in
    let tree = initial_checked ds at place parsing.0 expr.0 (sym expr.1) in
    record {
      tree = tree.0;
      expr = expr.0;
      checked = tree.1;
      terms = terms.0;
      terms_are = given at (terms_of funs expr.0 place.colour [] 0) terms.0 terms.1;
      tokens_are = same_read tokens (tokens_of place.colour.timed terms.0) terms.2;
    }

pub record InitialRead (ds : Declared) (n : PlainNet) (edit : PlainEdit) : Type 0 where
  pub number : ℕ
  pub there : number < length n.places
  pub tokens : Tokens
  pub is : TokensRead ds n.functions (place_at n number) tokens
  pub edit_is : edit ≡ edits_initial number tokens

pub initial_read : (ds : Declared) (n : PlainNet) (monitors : List PlainMonitor) (whole at : Pointer) (name text : List ℕ) (edit : PlainEdit) → edit_so ds n monitors whole at (initial name text) (read edit) → InitialRead ds n edit
unfolding edit_so
initial_read ds n monitors whole at name text edit h =
    let p = step_parts (just (known whole (place_named n name))) _ edit h in
    let tokens = step_parts (tokens_so ds n.functions at (place_at n p.0) text) _ edit p.2 in
    record {
      number = p.0;
      there = place_there n whole name p.0 (sym p.1);
      tokens = tokens.0;
      is = tokens_read ds n.functions at (place_at n p.0) text tokens.0 tokens.1;
      edit_is = same_read edit (edits_initial p.0 tokens.0) tokens.2;
    }
