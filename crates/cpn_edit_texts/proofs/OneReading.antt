-- The edits of a document are at most one thing in a net.
use Rattle.std.proofs.Common.{◌≡◌, ℕ, suc, List, [], ◌∷◌, sym, ap, ◌∙◌, subst}
use Rattle.std.specs.Prelude.{Contains}
use Rattle.std.specs.Ordering.{nat_cmp}
use Rattle.std.proofs.lemmas.Cmp.{nat_cmp_total}
use Rattle.cpn_definitions.specs.Inscription.{PlainExpr, Functions}
use Rattle.cpn_definitions.specs.Net.{PlainTransition, Coloured, PlainNet, transition_at, place_at}
use Rattle.cpn_definitions.specs.Outcome.{Outcome, gives, faults, no_meaning}
use Rattle.cpn_definitions.specs.Terms.{PlainTerm, terms_of}
use Rattle.cpn_definitions.proofs.OneEnabledList.{rising_is_unique}
use Rattle.cpn_definitions.proofs.RisingLists.{IsIn, in_from_contains, contains_from_in}
use Rattle.cpn_document.specs.Phases.{RawEdit, guard, initial, RawPhase, at_edit}
use Rattle.cpn_document.specs.declared.pointers.EditPart.TheVariants as of_edit
use Rattle.cpn_document.specs.declared.pointers.Pointer.{Pointer}
use Rattle.cpn_accepted.specs.Completed.{with_variables, IsCompleted}
use Rattle.cpn_module_trees.specs.Parsing.{IsGuard, IsInscription}
use Rattle.cpn_monitor.specs.Monitors.{PlainMonitor}
use Rattle.cpn_monitor_texts.specs.Named.{transition_named, place_named}
use Rattle.cpn_readings.specs.Relations.{just, such_that, HasOne}
use Rattle.cpn_readings.proofs.RelatedReadings.{IsOne, just_one, such_one, then_one}
use Rattle.cpn_typing.specs.AcceptedTransitions.{transition_variables}
use Rattle.cpn_typing.specs.BindableRule.{IsBindableAnswer}
use Rattle.cpn_typing.specs.Names.{Declared, Checked}
use Rattle.cpn_typing.proofs.BindableAnswers.{one_answer}
use Rattle.cpn_edit_texts.specs.Checked.{answered_at, transition_so, tokens_so, edit_so, edits_so, phase_so, phases_so}
use Rattle.cpn_edit_texts.specs.Edits.{with_guard, net_after, net_after_all}
use Rattle.cpn_edit_texts.specs.Reading.{read}
use Rattle.cpn_edit_texts.specs.Texts.{known, accepted_at, guard_of, initial_of, terms_so}

-- ---- texts and transitions

-- a text is parsed as one thing
guard_parsed : (text : List ℕ) → IsOne (IsGuard text)
guard_parsed text p q h k = k.only p h.comes

initial_parsed : (text : List ℕ) → IsOne (IsInscription text)
initial_parsed text p q h k = k.only p h.comes

-- a transition has one list of variables
completed_one : (bare : PlainTransition) → IsOne (IsCompleted bare)
completed_one bare x y h k = h.same ∙ ap (with_variables bare) (rising_is_unique nat_cmp nat_cmp_total x.vars y.vars h.variables.listed k.variables.listed (through x y h k) (through y x k h)) ∙ sym k.same
  where
    its : (z : PlainTransition) → IsCompleted bare z → transition_variables z ≡ transition_variables bare
    its z is = ap transition_variables is.same

    through : (v w : PlainTransition) → IsCompleted bare v → IsCompleted bare w → (z : ℕ) → IsIn z v.vars → IsIn z w.vars
    through v w a b z is =
        in_from_contains w.vars z ((b.variables.exact z).1 (subst (λ zs. Contains zs z) (its v a ∙ sym (its w b)) ((a.variables.exact z).0 (contains_from_in v.vars z is))))

-- what has one answer is read as one thing
answered_one : {A : Type 0} (at : Pointer) (Answers : Checked A → Type 0) → IsOne Answers → HasOne (answered_at at Answers)
answered_one at Answers one x y h k = h.2 ∙ ap (accepted_at at) (one h.0 k.0 h.1 k.1) ∙ sym k.2

terms_one : (at : Pointer) (o : Outcome (List PlainTerm)) → HasOne (terms_so at o)
terms_one at (gives terms) x y h k = h ∙ sym k
terms_one at (faults fault) x y h k = h ∙ sym k
terms_one at no_meaning x y h k = absurd h

-- ---- edits

module _ (ds : Declared) (monitors : List PlainMonitor) where
  transition_one : (n : PlainNet) (at : Pointer) (t : ℕ) (conjuncts : List PlainExpr) → HasOne (transition_so ds n monitors at t conjuncts)
  unfolding transition_so
  transition_one n at t conjuncts =
      then_one (such_that (IsCompleted (with_guard (transition_at n t) conjuncts))) _ (such_one _ (completed_one (with_guard (transition_at n t) conjuncts)))
      (λ edited. then_one (answered_at at (IsBindableAnswer n edited)) _ (answered_one at (IsBindableAnswer n edited) (one_answer n edited)) (λ bindable. then_one (just _) _ (just_one _) (λ measured. just_one _)))

  tokens_one : (funs : Functions) (at : Pointer) (place : Coloured) (text : List ℕ) → HasOne (tokens_so ds funs at place text)
  unfolding tokens_so
  tokens_one funs at place text =
      then_one (such_that (IsInscription text)) _ (such_one (IsInscription text) (initial_parsed text)) (λ parsing. then_one (just (initial_of ds at place.colour parsing)) _ (just_one _)
      (λ expr. then_one (terms_so at (terms_of funs expr place.colour [] 0)) _ (terms_one at (terms_of funs expr place.colour [] 0)) (λ terms. just_one _)))

  edit_one : (n : PlainNet) (whole at : Pointer) (raw : RawEdit) → HasOne (edit_so ds n monitors whole at raw)
  unfolding edit_so
  edit_one n whole at (guard name text) =
      then_one (just (known whole (transition_named n name))) _ (just_one _) (λ t. then_one (such_that (IsGuard text)) _ (such_one (IsGuard text) (guard_parsed text))
      (λ parsing. then_one (just (guard_of ds at parsing)) _ (just_one _) (λ conjuncts. then_one (transition_so ds n monitors at t conjuncts) _ (transition_one n at t conjuncts) (λ edited. just_one _))))
  edit_one n whole at (initial name text) =
      then_one (just (known whole (place_named n name))) _ (just_one _) (λ p. then_one (tokens_so ds n.functions at (place_at n p) text) _ (tokens_one n.functions at (place_at n p) text) (λ tokens. just_one _))

  edits_one : (p e : ℕ) (n : PlainNet) (raws : List RawEdit) → HasOne (edits_so ds monitors p e n raws)
  unfolding edits_so
  edits_one p e n [] = just_one (read [])
  edits_one p e n (raw ∷ raws) =
      then_one (edit_so ds n monitors (at_edit p e of_edit.Whole) (at_edit p e of_edit.Text) raw) _ (edit_one n (at_edit p e of_edit.Whole) (at_edit p e of_edit.Text) raw)
      (λ edit. then_one (edits_so ds monitors p (suc e) (net_after n edit) raws) _ (edits_one p (suc e) (net_after n edit) raws) (λ edits. just_one (read (edit ∷ edits))))

  -- ---- phases

  phase_one : (n : PlainNet) (p : ℕ) (raw : RawPhase) → HasOne (phase_so ds monitors n p raw)
  unfolding phase_so
  phase_one n p raw = then_one (edits_so ds monitors p 0 n raw.edits) _ (edits_one p 0 n raw.edits) (λ edits. just_one _)

  -- The law.
  pub phases_one : (p : ℕ) (n : PlainNet) (raws : List RawPhase) → HasOne (phases_so ds monitors p n raws)
  unfolding phases_so
  phases_one p n [] = just_one (read [])
  phases_one p n (raw ∷ raws) =
      then_one (phase_so ds monitors n p raw) _ (phase_one n p raw)
      (λ phase. then_one (phases_so ds monitors (suc p) (net_after_all n phase.edits) raws) _ (phases_one (suc p) (net_after_all n phase.edits) raws) (λ phases. just_one (read (phase ∷ phases))))
