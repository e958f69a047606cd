-- What is answered of an edit, step by step.
use Rattle.std.proofs.Common.{◌≡◌, ℕ, List, [], refl, sym}
use Rattle.std.specs.Prelude.{Option, Some, None, option_map}
use Rattle.cpn_definitions.specs.Inscription.{PlainExpr, ArcInscription, Functions}
use Rattle.cpn_definitions.specs.Marking.{Tokens}
use Rattle.cpn_definitions.specs.Net.{PlainTransition, Coloured, PlainNet, transition_at, place_at}
use Rattle.cpn_definitions.specs.Terms.{PlainTerm, terms_of}
use Rattle.cpn_document.specs.Phases.{guard, initial, RawPhase}
use Rattle.cpn_document.specs.declared.pointers.Pointer.{Pointer}
use Rattle.cpn_flat.specs.InitialMarking.{tokens_of}
use Rattle.cpn_text_refusals.specs.Refusals.{typing}
use Rattle.cpn_accepted.specs.Completed.{IsCompleted}
use Rattle.cpn_module_trees.specs.Parsing.{Parsing, parsed, IsGuard, IsInscription}
use Rattle.cpn_monitor.specs.Monitors.{PlainMonitor}
use Rattle.cpn_monitor_texts.specs.Named.{transition_named, place_named}
use Rattle.cpn_readings.specs.Reading.{Refuses}
use Rattle.cpn_readings.specs.Relations.{just, such_that, RefusesBy}
use Rattle.cpn_readings.proofs.RelatedReadings.{then_read, refused_first, refused_next, just_refused}
use Rattle.cpn_trees.specs.Trees.{PlainAst, PlainAsts}
use Rattle.cpn_typing.specs.Answers.{Refuses as Forbids, RefusesBy as ForbidsBy}
use Rattle.cpn_typing.specs.BindableRule.{IsBindableAnswer}
use Rattle.cpn_typing.specs.GuardsAndDelays.{checked_guard}
use Rattle.cpn_typing.specs.Multisets.{checked_init}
use Rattle.cpn_typing.specs.Names.{Declared, Checked, Refusal as TypeRefusal, ok}
use Rattle.cpn_typing.specs.Names as checks
use Rattle.cpn_edit_texts.specs.Checked.{answered_at, transition_so, tokens_so, edit_so, edits_so, phase_so}
use Rattle.cpn_edit_texts.specs.Edits.{PlainEdit, edits_guard, edits_initial, with_guard}
use Rattle.cpn_edit_texts.specs.Measured.{measured_over}
use Rattle.cpn_edit_texts.specs.Reading.{EditRefusal, bad_text, read}
use Rattle.cpn_edit_texts.specs.Texts.{known, accepted_at, guard_of, initial_of, terms_so}

-- ---- texts

-- what the rules refuse is refused where it stands
pub refused_at : {A : Type 0} (at : Pointer) (checked : Checked A) (o : Option TypeRefusal) (q : Option EditRefusal) → q ≡ option_map (λ r. bad_text at (typing r)) o → Forbids o checked → Refuses q (accepted_at at checked)
refused_at at checked None q is h = rw is tt
refused_at at checked (Some r) q is h = rw (is, h) refl

pub guard_forbidden : (ds : Declared) (at : Pointer) (tree : PlainAsts) (o : Option TypeRefusal) (q : Option EditRefusal) → q ≡ option_map (λ r. bad_text at (typing r)) o → Forbids o (checked_guard ds tree) → Refuses q (guard_of ds at (parsed tree))
unfolding guard_of
guard_forbidden ds at tree o q is h = refused_at at (checked_guard ds tree) o q is h

pub initial_forbidden : (ds : Declared) (at : Pointer) (place : Coloured) (tree : PlainAst) (o : Option TypeRefusal) (q : Option EditRefusal) → q ≡ option_map (λ r. bad_text at (typing r)) o → Forbids o (checked_init ds place.colour tree) → Refuses q (initial_of ds at place.colour (parsed tree))
unfolding initial_of
initial_forbidden ds at place tree o q is h = refused_at at (checked_init ds place.colour tree) o q is h

-- ---- another guard of a transition

module _ (ds : Declared) (n : PlainNet) (monitors : List PlainMonitor) (at : Pointer) (t : ℕ) (conjuncts : List PlainExpr) (edited : PlainTransition) (completed : IsCompleted (with_guard (transition_at n t) conjuncts) edited) where
  abbrev Completed : PlainTransition → Type 0
  Completed = IsCompleted (with_guard (transition_at n t) conjuncts)

  -- its variables are refused
  pub variables_refused : (o : Option TypeRefusal) (q : Option EditRefusal) → q ≡ option_map (λ r. bad_text at (typing r)) o → ForbidsBy (IsBindableAnswer n edited) o → RefusesBy (transition_so ds n monitors at t conjuncts) q
  unfolding transition_so
  variables_refused None q is h = rw is tt
  variables_refused (Some r) q is h =
      rw is
      (refused_next (such_that Completed) _ edited (Some (bad_text at (typing r))) (edited, completed, refl)
      (refused_first (answered_at at (IsBindableAnswer n edited)) _ (Some (bad_text at (typing r))) (checks.refused r, h, refl)))

  module _ (bindable : IsBindableAnswer n edited (ok tt)) where
    -- what a monitor measures is refused
    pub measured_refused : (o : Option TypeRefusal) (q : Option EditRefusal) → q ≡ option_map (λ r. bad_text at (typing r)) o → Forbids o (measured_over ds t edited.vars monitors) → RefusesBy (transition_so ds n monitors at t conjuncts) q
    unfolding transition_so
    measured_refused o q is h =
        refused_next (such_that Completed) _ edited q (edited, completed, refl)
        (refused_next (answered_at at (IsBindableAnswer n edited)) _ tt q (ok tt, bindable, refl)
        (refused_first (just (accepted_at at (measured_over ds t edited.vars monitors))) _ q (just_refused (accepted_at at (measured_over ds t edited.vars monitors)) q (refused_at at (measured_over ds t edited.vars monitors) o q is h))))

    -- nothing is
    pub transition_made : measured_over ds t edited.vars monitors ≡ ok tt → transition_so ds n monitors at t conjuncts (read edited)
    unfolding transition_so
    transition_made measured =
        then_read (such_that Completed) _ edited (read edited) (edited, completed, refl)
        (then_read (answered_at at (IsBindableAnswer n edited)) _ tt (read edited) (ok tt, bindable, refl)
        (then_read (just (accepted_at at (measured_over ds t edited.vars monitors))) _ tt (read edited) (rw measured refl) refl))

module _ (ds : Declared) (n : PlainNet) (monitors : List PlainMonitor) (whole at : Pointer) (name text : List ℕ) where
  pub guard_unknown : (o : Option EditRefusal) → Refuses o (known whole (transition_named n name)) → RefusesBy (edit_so ds n monitors whole at (guard name text)) o
  unfolding edit_so
  guard_unknown o h = refused_first (just (known whole (transition_named n name))) _ o (just_refused (known whole (transition_named n name)) o h)

  module _ (t : ℕ) (there : known whole (transition_named n name) ≡ read t) (parsing : Parsing PlainAsts) (is : IsGuard text parsing) where
    pub guard_refused : (o : Option EditRefusal) → Refuses o (guard_of ds at parsing) → RefusesBy (edit_so ds n monitors whole at (guard name text)) o
    unfolding edit_so
    guard_refused o h =
        refused_next (just (known whole (transition_named n name))) _ t o (sym there)
        (refused_next (such_that (IsGuard text)) _ parsing o (parsing, is, refl) (refused_first (just (guard_of ds at parsing)) _ o (just_refused (guard_of ds at parsing) o h)))

    module _ (conjuncts : List PlainExpr) (accepted : guard_of ds at parsing ≡ read conjuncts) where
      pub transition_refused : (o : Option EditRefusal) → RefusesBy (transition_so ds n monitors at t conjuncts) o → RefusesBy (edit_so ds n monitors whole at (guard name text)) o
      unfolding edit_so
      transition_refused o h =
          refused_next (just (known whole (transition_named n name))) _ t o (sym there)
          (refused_next (such_that (IsGuard text)) _ parsing o (parsing, is, refl)
          (refused_next (just (guard_of ds at parsing)) _ conjuncts o (sym accepted) (refused_first (transition_so ds n monitors at t conjuncts) _ o h)))

      pub guard_made : (edited : PlainTransition) → transition_so ds n monitors at t conjuncts (read edited) → edit_so ds n monitors whole at (guard name text) (read (edits_guard t edited))
      unfolding edit_so
      guard_made edited h =
          then_read (just (known whole (transition_named n name))) _ t (read (edits_guard t edited)) (sym there)
          (then_read (such_that (IsGuard text)) _ parsing (read (edits_guard t edited)) (parsing, is, refl)
          (then_read (just (guard_of ds at parsing)) _ conjuncts (read (edits_guard t edited)) (sym accepted) (then_read (transition_so ds n monitors at t conjuncts) _ edited (read (edits_guard t edited)) h refl)))

-- ---- another initial marking of a place

module _ (ds : Declared) (funs : Functions) (at : Pointer) (place : Coloured) (text : List ℕ) (parsing : Parsing PlainAst) (is : IsInscription text parsing) where
  pub initial_refused : (o : Option EditRefusal) → Refuses o (initial_of ds at place.colour parsing) → RefusesBy (tokens_so ds funs at place text) o
  unfolding tokens_so
  initial_refused o h = refused_next (such_that (IsInscription text)) _ parsing o (parsing, is, refl) (refused_first (just (initial_of ds at place.colour parsing)) _ o (just_refused (initial_of ds at place.colour parsing) o h))

  module _ (expr : ArcInscription) (accepted : initial_of ds at place.colour parsing ≡ read expr) where
    pub terms_refused : (o : Option EditRefusal) → RefusesBy (terms_so at (terms_of funs expr place.colour [] 0)) o → RefusesBy (tokens_so ds funs at place text) o
    unfolding tokens_so
    terms_refused o h =
        refused_next (such_that (IsInscription text)) _ parsing o (parsing, is, refl)
        (refused_next (just (initial_of ds at place.colour parsing)) _ expr o (sym accepted) (refused_first (terms_so at (terms_of funs expr place.colour [] 0)) _ o h))

    pub tokens_made : (terms : List PlainTerm) → terms_so at (terms_of funs expr place.colour [] 0) (read terms) → tokens_so ds funs at place text (read (tokens_of place.colour.timed terms))
    unfolding tokens_so
    tokens_made terms h =
        let whole = tokens_of place.colour.timed terms in
        then_read (such_that (IsInscription text)) _ parsing (read whole) (parsing, is, refl)
        (then_read (just (initial_of ds at place.colour parsing)) _ expr (read whole) (sym accepted) (then_read (terms_so at (terms_of funs expr place.colour [] 0)) _ terms (read whole) h refl))

module _ (ds : Declared) (n : PlainNet) (monitors : List PlainMonitor) (whole at : Pointer) (name text : List ℕ) where
  pub initial_unknown : (o : Option EditRefusal) → Refuses o (known whole (place_named n name)) → RefusesBy (edit_so ds n monitors whole at (initial name text)) o
  unfolding edit_so
  initial_unknown o h = refused_first (just (known whole (place_named n name))) _ o (just_refused (known whole (place_named n name)) o h)

  module _ (p : ℕ) (there : known whole (place_named n name) ≡ read p) where
    pub tokens_refused : (o : Option EditRefusal) → RefusesBy (tokens_so ds n.functions at (place_at n p) text) o → RefusesBy (edit_so ds n monitors whole at (initial name text)) o
    unfolding edit_so
    tokens_refused o h = refused_next (just (known whole (place_named n name))) _ p o (sym there) (refused_first (tokens_so ds n.functions at (place_at n p) text) _ o h)

    pub initial_made : (tokens : Tokens) → tokens_so ds n.functions at (place_at n p) text (read tokens) → edit_so ds n monitors whole at (initial name text) (read (edits_initial p tokens))
    unfolding edit_so
    initial_made tokens h =
        then_read (just (known whole (place_named n name))) _ p (read (edits_initial p tokens)) (sym there) (then_read (tokens_so ds n.functions at (place_at n p) text) _ tokens (read (edits_initial p tokens)) h refl)

-- ---- a phase

module _ (ds : Declared) (monitors : List PlainMonitor) (n : PlainNet) (p : ℕ) (raw : RawPhase) where
  pub phase_refused : (o : Option EditRefusal) → RefusesBy (edits_so ds monitors p 0 n raw.edits) o → RefusesBy (phase_so ds monitors n p raw) o
  unfolding phase_so
  phase_refused o h = refused_first (edits_so ds monitors p 0 n raw.edits) _ o h

  pub phase_made : (edits : List PlainEdit) → edits_so ds monitors p 0 n raw.edits (read edits) → phase_so ds monitors n p raw (read (record { start = raw.start; edits = edits }))
  unfolding phase_so
  phase_made edits h = then_read (edits_so ds monitors p 0 n raw.edits) _ edits (read (record { start = raw.start; edits = edits })) h refl
