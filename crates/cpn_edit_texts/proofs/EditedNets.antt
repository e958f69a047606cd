-- An edit that is read leaves its net, its initial marking and its monitors ready for a run and for further edits.
use Rattle.std.proofs.Common.{◌≡◌, ◌≢◌, ◌==◌, ◌<◌, ◌≤◌, ℕ, zero, suc, Bool, true, false, nat_le, if◌then◌else◌, List, [], ◌∷◌, length, get_or, set, refl, sym, ap, ◌∙◌, subst, arith, eqb-true, eq-eqb}
use Rattle.std.specs.Prelude.{Option, Some, None}
use Rattle.std.specs.List.{list_all, AllByRecursion}
use Rattle.std.proofs.lemmas.List.{length-set, get_or-set_same, get_or-set_other}
use Rattle.cpn_definitions.specs.Bindable.{IsBindable, variables_of}
use Rattle.cpn_definitions.specs.Bounds.{last_stamp}
use Rattle.cpn_definitions.specs.Inscription.{PlainExpr, Functions}
use Rattle.cpn_definitions.specs.Marking.{PlainToken, Tokens, Marking, AreSorted, tokens_at}
use Rattle.cpn_definitions.specs.Net.{PlainArc, PlainTransition, Coloured, PlainNet, no_transition, nothing, transition_at, place_at}
use Rattle.cpn_definitions.specs.Sound.{IsSoundArc, IsSoundInput, IsSoundTransition, IsSound, IsMarking, may_hold}
use Rattle.cpn_definitions.specs.Terms.{most_tokens}
use Rattle.cpn_definitions.specs.Meaning.{setting_of}
use Rattle.cpn_definitions.proofs.DelayBounds.{delays_in_range}
use Rattle.cpn_definitions.proofs.RisingLists.{in_from_contains, of_one_in}
use Rattle.cpn_definitions.proofs.Terms.{terms_are}
use Rattle.cpn_definitions.proofs.TokenCounts.{tokens_are_few}
use Rattle.cpn_document.specs.Phases.{RawEdit, guard, initial}
use Rattle.cpn_document.specs.declared.pointers.Pointer.{Pointer}
use Rattle.cpn_flat.proofs.NamedFlatNets.{all_named_there}
use Rattle.cpn_flat.proofs.StartedWell.{IsStart, terms_start}
use Rattle.cpn_accepted.specs.Completed.{with_variables}
use Rattle.cpn_accepted.specs.Nets.{net_from}
use Rattle.cpn_monitor.specs.Monitors.{PlainMonitor, PlainMeasure, counts, sizes, values, stops_by_count, stops_by_size}
use Rattle.cpn_monitor_texts.specs.Accepted.{IsAcceptedMeasure, AreAcceptedMonitors}
use Rattle.cpn_monitor_texts.specs.Variables.{first_outside, unless_outside, over, value_over}
use Rattle.cpn_typing.specs.AcceptedTransitions.{HasItsVariables, IsAcceptedTransition, IsNetOf, ArcMeans}
use Rattle.cpn_typing.specs.BindableRule.{IsBindableAnswer, too_many_are_there, one_is_not, all_are}
use Rattle.cpn_typing.specs.GuardsAndDelays.{checked_value, checked_guard}
use Rattle.cpn_typing.specs.Names.{Declared, Checked, ok}
use Rattle.cpn_typing.proofs.Consistent.{accepted_parts, same_accepted}
use Rattle.cpn_typing.proofs.MeaningfulTransitions.{accepted_is_meaningful}
use Rattle.cpn_typing.proofs.SolvableTransitions.{accepted_is_solvable}
use Rattle.cpn_trees.specs.Trees.{PlainAst, PlainAsts}
use Rattle.cpn_edit_texts.specs.Checked.{edit_so}
use Rattle.cpn_edit_texts.specs.Edits.{PlainEdit, edits_guard, net_after, initial_after, with_guard}
use Rattle.cpn_edit_texts.specs.Measured.{still_over, measure_over, measured_over}
use Rattle.cpn_edit_texts.specs.Reading.{read}
use Rattle.cpn_edit_texts.specs.Ready.{MayBeEdited, IsReady}
use Rattle.cpn_edit_texts.proofs.AlikeNets.{made_of, bindable_alike, all_sound_alike}
use Rattle.cpn_edit_texts.proofs.ReadEdits.{GuardRead, guard_read, TokensRead, InitialRead, initial_read}

-- ---- lists in which one item is another now

all_set : {A : Type 0} (P : A → Type 0) (xs : List A) (i : ℕ) (x : A) → AllByRecursion P xs → P x → AllByRecursion P (set xs i x)
all_set P [] i x all is = tt
all_set P (y ∷ ys) zero x all is = (is, all.1)
all_set P (y ∷ ys) (suc i) x all is = (all.0, all_set P ys i x all.1 is)

item_of : {A : Type 0} (P : A → Type 0) (d : A) (xs : List A) (i : ℕ) → i < length xs → AllByRecursion P xs → P (get_or xs i d)
item_of P d [] i lt all = absurd (omega arith)
item_of P d (x ∷ xs) zero lt all = all.0
item_of P d (x ∷ xs) (suc i) lt all = item_of P d xs i (omega arith) all.1

-- ---- another guard

accepted_bindable : (n : PlainNet) (t : PlainTransition) (c : Checked (Unit {0})) → IsBindableAnswer n t c → c ≡ ok tt → AllByRecursion (IsBindable n t) t.vars
accepted_bindable n t c (too_many_are_there many) is = cc
accepted_bindable n t c (one_is_not few x one) is = cc
accepted_bindable n t c (all_are few all) is = all

inputs_sound : (n m : PlainNet) (old t : PlainTransition) (arcs : List PlainArc) → m.places ≡ n.places → AllByRecursion (IsSoundInput n old) arcs → AllByRecursion (ArcMeans m t) arcs → AllByRecursion (IsSoundInput m t) arcs
inputs_sound n m old t [] same all means = tt
inputs_sound n m old t (arc ∷ arcs) same all means = (
  record {
    sound = record {
      place_known = subst (λ (ps : List Coloured). arc.place < length ps) (sym same) all.0.sound.place_known;
      colour_is = all.0.sound.colour_is ∙ ap (λ (ps : List Coloured). (get_or ps arc.place nothing).colour) (sym same);
      means = means.0;
    };
    terms_are = all.0.terms_are;
  },
  inputs_sound n m old t arcs same all.1 means.1,
)

outputs_sound : (n m : PlainNet) (old t : PlainTransition) (arcs : List PlainArc) → m.places ≡ n.places → AllByRecursion (IsSoundArc n old) arcs → AllByRecursion (ArcMeans m t) arcs → AllByRecursion (IsSoundArc m t) arcs
outputs_sound n m old t [] same all means = tt
outputs_sound n m old t (arc ∷ arcs) same all means = (
  record {
    place_known = subst (λ (ps : List Coloured). arc.place < length ps) (sym same) all.0.place_known;
    colour_is = all.0.colour_is ∙ ap (λ (ps : List Coloured). (get_or ps arc.place nothing).colour) (sym same);
    means = means.0;
  },
  outputs_sound n m old t arcs same all.1 means.1,
)

-- what was accepted over variables has no other ones than those that it is still over
accepted_over : (ds : Declared) (old vars : List ℕ) (tree : PlainAst) (e : PlainExpr) → value_over ds old tree ≡ ok e → still_over ds vars e ≡ ok tt → value_over ds vars tree ≡ ok e
accepted_over ds old vars tree e was still =
    let first = accepted_parts (checked_value ds tree) (over ds old) e was in
    let same : first.0 ≡ e = over_same old first.0 e first.2 in
    let now = accepted_parts (over ds vars e) (λ same. ok tt) tt still in
    let here : over ds vars e ≡ ok e = now.1 ∙ ap ok (sym (over_same vars e now.0 now.1)) in
    rw (first.1, same) here
  where
    over_same : (xs : List ℕ) (x y : PlainExpr) → over ds xs x ≡ ok y → x ≡ y
    over_same xs x y h = by (first_outside xs (variables_of x)) h
      where
        by : (o : Option ℕ) → unless_outside ds x o ≡ ok y → x ≡ y
        by None k = same_accepted x y k
        by (Some z) k = cc

module _ (ds : Declared) (places : List Coloured) (ts : List PlainTransition) (monitors : List PlainMonitor) (may : MayBeEdited ds (net_from ds places ts) monitors) (all : AllByRecursion (IsAcceptedTransition ds) ts) where
  abbrev n : PlainNet
  n = net_from ds places ts

  module _ (t : ℕ) (there : t < length ts) (tree : PlainAsts) (conjuncts : List PlainExpr) (checked : checked_guard ds tree ≡ ok conjuncts) (vars : List ℕ) where
    abbrev u : PlainTransition
    u = with_variables (with_guard (transition_at n t) conjuncts) vars

    abbrev us : List PlainTransition
    us = set ts t u

    abbrev m : PlainNet
    m = net_from ds places us

    u_accepted : HasItsVariables u → IsAcceptedTransition ds u
    u_accepted its =
        let old = item_of (IsAcceptedTransition ds) no_transition ts t there all in
        record { variables = its; guard_tree = tree; guard = checked; delay = old.delay; inputs = old.inputs; outputs = old.outputs }

    u_sound : HasItsVariables u → IsBindableAnswer n u (ok tt) → IsSoundTransition m u
    u_sound its answer =
        let old = item_of (IsSoundTransition n) no_transition ts t there may.sound.transitions_sound in
        let of_m : IsNetOf ds m = record { functions_are = refl; variables_are = refl } in
        let means = accepted_is_meaningful ds may.consistent m of_m u (u_accepted its) in
        let bindable = accepted_bindable n u (ok tt) answer refl in
        record {
          listed = its.listed;
          declared = means.declared;
          bindable = λ x is. bindable_alike ds places ts us u x (of_one_in (IsBindable n u) u.vars x bindable (in_from_contains u.vars x is));
          guard_means = means.guard_means;
          guard_solvable = accepted_is_solvable ds may.consistent m of_m u (u_accepted its);
          delay_means = means.delay_means;
          few_arcs = old.few_arcs;
          inputs_sound = inputs_sound n m (transition_at n t) u u.inputs refl old.inputs_sound means.inputs_mean;
          outputs_sound = outputs_sound n m (transition_at n t) u u.outputs refl old.outputs_sound means.outputs_mean;
        }

    m_sound : HasItsVariables u → IsBindableAnswer n u (ok tt) → IsSound m
    m_sound its answer = record {
      transitions_sound = all_set (IsSoundTransition m) ts t u (all_sound_alike ds places ts us ts may.sound.transitions_sound) (u_sound its answer);
      functions_closed = may.sound.functions_closed;
      few_places = may.sound.few_places;
      few_transitions = let few = may.sound.few_transitions in let long = length-set ts t u in omega (arith, few, long);
      few_variables = may.sound.few_variables;
    }

    m_accepted : HasItsVariables u → AllByRecursion (IsAcceptedTransition ds) us
    m_accepted its = all_set (IsAcceptedTransition ds) ts t u all (u_accepted its)

    -- what a monitor measures
    measure_still : (x : PlainMeasure) (c : Unit {0}) → IsAcceptedMeasure ds n x → measure_over ds t vars x ≡ ok c → IsAcceptedMeasure ds m x
    measure_still (counts v) c is over_is = let long = length-set ts t u in omega (arith, is, long)
    measure_still (sizes p) c is over_is = is
    measure_still (stops_by_count v number) c is over_is = let long = length-set ts t u in omega (arith, is, long)
    measure_still (stops_by_size p bound number) c is over_is = is
    measure_still (values v e) c is over_is = (let below = is.0 in let long = length-set ts t u in omega (arith, below, long), (is.1.0, by (v == t) refl over_is))
      where
        by : (b : Bool) → (v == t) ≡ b → (if b then still_over ds vars e else ok tt) ≡ ok c → value_over ds (transition_at m v).vars is.1.0 ≡ ok e
        by true same h =
            let at : v ≡ t = eqb-true v t same in
            let its : transition_at m v ≡ u = ap (λ k. get_or us k no_transition) at ∙ get_or-set_same ts t u no_transition there in
            ap (λ (x : PlainTransition). value_over ds x.vars is.1.0) its ∙ accepted_over ds (transition_at n v).vars vars is.1.0 e is.1.1 h
        by false other h =
            let apart : v ≢ t = λ at. let e = sym other ∙ eq-eqb v t at in cc in
            ap (λ (x : PlainTransition). value_over ds x.vars is.1.0) (get_or-set_other ts t v u no_transition apart) ∙ is.1.1

    monitors_still : (ms : List PlainMonitor) → AreAcceptedMonitors ds n ms → measured_over ds t vars ms ≡ ok tt → AreAcceptedMonitors ds m ms
    unfolding measured_over
    monitors_still [] are h = tt
    monitors_still (x ∷ ms) are h =
        let parts = accepted_parts (measure_over ds t vars x.measure) (λ first. measured_over ds t vars ms) tt h in
        (measure_still x.measure parts.0 are.0 parts.1, monitors_still ms are.1 parts.2)

    -- the net with the other guard may be edited
    guard_may : HasItsVariables u → IsBindableAnswer n u (ok tt) → measured_over ds t vars monitors ≡ ok tt → MayBeEdited ds m monitors
    guard_may its answer measured = record {
      consistent = may.consistent;
      declares = record { variables = refl; constants = refl; constructors = refl; functions = refl };
      sound = m_sound its answer;
      measured = monitors_still monitors may.measured measured;
    }

-- ---- another initial marking

marking_set : (places : List Coloured) (m : Marking) (p : ℕ) (tokens : Tokens) → IsMarking places m → AreSorted tokens → list_all (may_hold (get_or places p nothing).colour) tokens ≡ true → IsMarking places (set m p tokens)
marking_set [] [] p tokens is sorted held = tt
marking_set [] (ts ∷ m) p tokens is sorted held = absurd is
marking_set (place ∷ places) [] p tokens is sorted held = absurd is
marking_set (place ∷ places) (ts ∷ m) zero tokens is sorted held = (sorted, held, is.2)
marking_set (place ∷ places) (ts ∷ m) (suc p) tokens is sorted held = (is.0, is.1, marking_set places m p tokens is.2 sorted held)

-- what holds of the tokens of each place holds where one has others of which it holds
at_each : (P : Tokens → Type 0) (m : Marking) (p : ℕ) (tokens : Tokens) → P [] → ((q : ℕ) → P (tokens_at m q)) → P tokens → (q : ℕ) → P (tokens_at (set m p tokens) q)
at_each P [] p tokens none each is q = none
at_each P (ts ∷ m) zero tokens none each is zero = is
at_each P (ts ∷ m) zero tokens none each is (suc q) = each (suc q)
at_each P (ts ∷ m) (suc p) tokens none each is zero = each zero
at_each P (ts ∷ m) (suc p) tokens none each is (suc q) = at_each P m p tokens none (λ k. each (suc k)) is q

tokens_start : (ds : Declared) (funs : Functions) (place : Coloured) (tokens : Tokens) → TokensRead ds funs place tokens → IsStart place.colour tokens
tokens_start ds funs place tokens is =
    let are = terms_are is.expr place.colour (setting_of funs [] 0) [] 0 is.terms is.terms_are in
    let few = tokens_are_few funs is.expr place.colour [] 0 is.terms is.terms_are in
    let in_range = delays_in_range funs is.expr place.colour [] 0 is.terms is.terms_are in
    subst (IsStart place.colour) (sym is.tokens_are) (terms_start place.colour is.terms are few in_range)

-- ---- the law

guard_ready : (ds : Declared) (n : PlainNet) (m : Marking) (monitors : List PlainMonitor) → IsReady ds n m monitors → (edit : PlainEdit) → GuardRead ds n monitors edit → IsReady ds (net_after n edit) (initial_after m edit) monitors
guard_ready ds n m monitors ready edit r =
    subst (λ e. IsReady ds (net_after n e) (initial_after m e) monitors) (sym (r.edit_is ∙ ap (edits_guard r.number) r.is.completed.same))
    (by n.places n.transitions (made_of ds n ready.editable.declares) ready r.there (subst HasItsVariables r.is.completed.same r.is.completed.variables) (subst (λ u. IsBindableAnswer n u (ok tt)) r.is.completed.same r.is.bindable) r.is.measured)
  where
    by : (places : List Coloured) (ts : List PlainTransition) → n ≡ net_from ds places ts → IsReady ds n m monitors → r.number < length n.transitions
        → HasItsVariables (with_variables (with_guard (transition_at n r.number) r.conjuncts) r.edited.vars)
        → IsBindableAnswer n (with_variables (with_guard (transition_at n r.number) r.conjuncts) r.edited.vars) (ok tt)
        → measured_over ds r.number r.edited.vars monitors ≡ ok tt
        → IsReady ds (net_after n (edits_guard r.number (with_variables (with_guard (transition_at n r.number) r.conjuncts) r.edited.vars))) m monitors
    by places ts is =
        subst (λ k. IsReady ds k m monitors → r.number < length k.transitions
        → HasItsVariables (with_variables (with_guard (transition_at k r.number) r.conjuncts) r.edited.vars)
        → IsBindableAnswer k (with_variables (with_guard (transition_at k r.number) r.conjuncts) r.edited.vars) (ok tt)
        → measured_over ds r.number r.edited.vars monitors ≡ ok tt
        → IsReady ds (net_after k (edits_guard r.number (with_variables (with_guard (transition_at k r.number) r.conjuncts) r.edited.vars))) m monitors) (sym is)
        (λ here there its answer measured. record {
          editable = guard_may ds places ts monitors here.editable here.accepted r.number there r.tree r.conjuncts r.checked r.edited.vars its answer measured;
          accepted = m_accepted ds places ts monitors here.editable here.accepted r.number there r.tree r.conjuncts r.checked r.edited.vars its;
          named = record {
            places_named = all_named_there ds places places ts (set ts r.number (with_variables (with_guard (get_or ts r.number no_transition) r.conjuncts) r.edited.vars)) places here.named.places_named;
            variables_named = all_named_there ds places places ts (set ts r.number (with_variables (with_guard (get_or ts r.number no_transition) r.conjuncts) r.edited.vars)) ds.variables here.named.variables_named;
          };
          marking = here.marking;
          bounded = here.bounded;
          in_time = here.in_time;
        })

initial_ready : (ds : Declared) (n : PlainNet) (m : Marking) (monitors : List PlainMonitor) → IsReady ds n m monitors → (edit : PlainEdit) → InitialRead ds n edit → IsReady ds (net_after n edit) (initial_after m edit) monitors
initial_ready ds n m monitors ready edit r =
    let start = tokens_start ds n.functions (place_at n r.number) r.tokens r.is in
    subst (λ e. IsReady ds (net_after n e) (initial_after m e) monitors) (sym r.edit_is) (record {
      editable = ready.editable;
      accepted = ready.accepted;
      named = ready.named;
      marking = marking_set n.places m r.number r.tokens ready.marking start.sorted start.held;
      bounded = at_each (λ (ts : Tokens). length ts ≤ most_tokens) m r.number r.tokens (omega arith) ready.bounded start.few;
      in_time = at_each (λ (ts : Tokens). list_all (λ (token : PlainToken). nat_le token.stamp last_stamp) ts ≡ true) m r.number r.tokens refl ready.in_time start.stamped;
    })

-- An edit that is read in a net that is ready leaves it ready.
pub edit_ready : (ds : Declared) (n : PlainNet) (m : Marking) (monitors : List PlainMonitor) → IsReady ds n m monitors → (whole at : Pointer) (raw : RawEdit) (edit : PlainEdit) → edit_so ds n monitors whole at raw (read edit)
    → IsReady ds (net_after n edit) (initial_after m edit) monitors
edit_ready ds n m monitors ready whole at (guard name text) edit h = guard_ready ds n m monitors ready edit (guard_read ds n monitors whole at name text edit h)
edit_ready ds n m monitors ready whole at (initial name text) edit h = initial_ready ds n m monitors ready edit (initial_read ds n monitors whole at name text edit h)
