-- Whether an edit is accepted does not depend on the guards of the net, so one that is accepted never makes a later one refused.
use Rattle.std.proofs.Common.{◌≡◌, ℕ, zero, suc, List, [], ◌∷◌, map, get_or, refl, sym, ap, ◌∙◌, subst}
use Rattle.std.specs.Prelude.{Option, Some, None}
use Rattle.std.proofs.lemmas.Simd.{map-map}
use Rattle.cpn_definitions.specs.Bindable.{IsBindable}
use Rattle.cpn_definitions.specs.DistinctNames.{transition_names}
use Rattle.cpn_definitions.specs.Inscription.{PlainExpr, Functions}
use Rattle.cpn_definitions.specs.Net.{PlainTransition, Coloured, PlainNet, no_transition, nothing, transition_at, place_at}
use Rattle.cpn_definitions.proofs.RisingLists.{each_implied}
use Rattle.cpn_document.specs.Phases.{RawEdit, guard, initial, RawPhase, at_edit}
use Rattle.cpn_document.specs.declared.pointers.EditPart.TheVariants as of_edit
use Rattle.cpn_document.specs.declared.pointers.Pointer.{Pointer}
use Rattle.cpn_accepted.specs.Completed.{IsCompleted}
use Rattle.cpn_accepted.specs.Nets.{net_from}
use Rattle.cpn_module_trees.specs.Parsing.{IsGuard}
use Rattle.cpn_monitor.specs.Monitors.{PlainMonitor}
use Rattle.cpn_monitor_texts.specs.Named.{transition_named, place_named}
use Rattle.cpn_names.specs.Names.{number_of}
use Rattle.cpn_readings.specs.Relations.{just, such_that, After, each_so, RefusesBy}
use Rattle.cpn_readings.proofs.Readings.{same_read}
use Rattle.cpn_readings.proofs.RelatedReadings.{step_parts}
use Rattle.cpn_typing.specs.BindableRule.{IsFirstNotBindable, IsBindableAnswer, too_many_are_there, one_is_not, all_are}
use Rattle.cpn_typing.specs.DeclaresFor.{DeclaresFor}
use Rattle.cpn_typing.specs.Names.{Declared, Checked}
use Rattle.cpn_edit_texts.specs.Checked.{answered_at, transition_so, tokens_so, edit_so, edits_so, phase_so, phases_so}
use Rattle.cpn_edit_texts.specs.Edits.{PlainEdit, net_after, net_after_all, EditedPhase, with_guard, but_guard, AreAlikeButGuards}
use Rattle.cpn_edit_texts.specs.Reading.{EditRefusal, Reading, read, refused}
use Rattle.cpn_edit_texts.specs.Texts.{known, guard_of}
use Rattle.cpn_edit_texts.proofs.AlikeNets.{made_of, bindable_alike}
use Rattle.cpn_edit_texts.proofs.KeptNets.{edit_keeps}

-- ---- parts of alike nets

module _ (n m : PlainNet) (alike : AreAlikeButGuards n m) where
  bare_alike : map but_guard n.transitions ≡ map but_guard m.transitions
  bare_alike = ap (λ (k : PlainNet). k.transitions) alike

  names_alike : transition_names n ≡ transition_names m
  names_alike =
      sym (map-map (λ (t : PlainTransition). t.name) but_guard n.transitions) ∙ ap (map (λ (t : PlainTransition). t.name)) bare_alike ∙ map-map (λ (t : PlainTransition). t.name) but_guard m.transitions

  pub transition_named_alike : (name : List ℕ) → transition_named n name ≡ transition_named m name
  transition_named_alike name = ap (number_of name) names_alike

  pub places_alike : n.places ≡ m.places
  places_alike = ap (λ (k : PlainNet). k.places) alike

  pub functions_alike : n.functions ≡ m.functions
  functions_alike = ap (λ (k : PlainNet). k.functions) alike

bare_at : (ts : List PlainTransition) (t : ℕ) → get_or (map but_guard ts) t (but_guard no_transition) ≡ but_guard (get_or ts t no_transition)
bare_at [] t = refl
bare_at (x ∷ xs) zero = refl
bare_at (x ∷ xs) (suc t) = bare_at xs t

at_alike : (n m : PlainNet) → AreAlikeButGuards n m → (t : ℕ) → but_guard (transition_at n t) ≡ but_guard (transition_at m t)
at_alike n m alike t = sym (bare_at n.transitions t) ∙ ap (λ ts. get_or ts t (but_guard no_transition)) (bare_alike n m alike) ∙ bare_at m.transitions t

completed_alike : (old new : PlainTransition) (conjuncts : List PlainExpr) (u : PlainTransition) → but_guard old ≡ but_guard new → IsCompleted (with_guard old conjuncts) u → IsCompleted (with_guard new conjuncts) u
completed_alike old new conjuncts u same is = record {
  same = is.same ∙ ap (λ (t : PlainTransition). record t { guard = conjuncts; vars = u.vars }) same;
  variables = is.variables;
}

-- ---- bindable variables

first_alike : (ds : Declared) (places : List Coloured) (ts us : List PlainTransition) (u : PlainTransition) (xs : List ℕ) (x : ℕ) → IsFirstNotBindable (net_from ds places ts) u xs x → IsFirstNotBindable (net_from ds places us) u xs x
first_alike ds places ts us u xs x is = record {
  before = is.before;
  behind = is.behind;
  stands = is.stands;
  bindable_before = each_implied (IsBindable (net_from ds places ts) u) (IsBindable (net_from ds places us) u) is.before (bindable_alike ds places ts us u) is.bindable_before;
  not_bindable = λ h. is.not_bindable (bindable_alike ds places us ts u x h);
}

answer_alike : (ds : Declared) (places : List Coloured) (ts us : List PlainTransition) (u : PlainTransition) (c : Checked (Unit {0})) → IsBindableAnswer (net_from ds places ts) u c → IsBindableAnswer (net_from ds places us) u c
answer_alike ds places ts us u c (too_many_are_there many) = too_many_are_there many
answer_alike ds places ts us u c (one_is_not few x is) = one_is_not few x (first_alike ds places ts us u u.vars x is)
answer_alike ds places ts us u c (all_are few all) = all_are few (each_implied (IsBindable (net_from ds places ts) u) (IsBindable (net_from ds places us) u) u.vars (bindable_alike ds places ts us u) all)

bindable_in : (ds : Declared) (n m : PlainNet) → DeclaresFor ds n → DeclaresFor ds m → n.places ≡ m.places → (u : PlainTransition) (c : Checked (Unit {0})) → IsBindableAnswer n u c → IsBindableAnswer m u c
bindable_in ds n m of_n of_m same u c is =
    subst (λ k. IsBindableAnswer k u c) (sym (made_of ds m of_m))
    (answer_alike ds m.places n.transitions m.transitions u c (subst (λ ps. IsBindableAnswer (net_from ds ps n.transitions) u c) same (subst (λ k. IsBindableAnswer k u c) (made_of ds n of_n) is)))

-- what is declared for a net is so for one that is alike
pub declares_alike : (ds : Declared) (n m : PlainNet) → AreAlikeButGuards n m → DeclaresFor ds n → DeclaresFor ds m
declares_alike ds n m alike d = record {
  variables = sym (ap (λ (k : PlainNet). k.variables) alike) ∙ d.variables;
  constants = sym (ap (λ (k : PlainNet). k.constants) alike) ∙ d.constants;
  constructors = sym (ap (λ (k : PlainNet). k.constructors) alike) ∙ d.constructors;
  functions = sym (functions_alike n m alike) ∙ d.functions;
}

-- ---- steps of readings

-- the second step, where the first is the same
after : {A B : Type 0} (first second : Reading A → Type 0) (next then : A → Reading B → Type 0) (r : Reading B)
    → ((x : Reading A) → first x → second x) → ((x : A) → next x r → then x r)
    → ((x : Reading A) × first x × After x next r) → (x : Reading A) × second x × After x then r
after first second next then r one two (read x, h, k) = (read x, one (read x) h, two x k)
after first second next then r one two (refused f, h, k) = (refused f, one (refused f) h, k)

module _ (ds : Declared) (n m : PlainNet) (alike : AreAlikeButGuards n m) (declares : DeclaresFor ds n) (monitors : List PlainMonitor) (whole at : Pointer) where
  transition_alike : (t : ℕ) (conjuncts : List PlainExpr) (r : Reading PlainTransition) → transition_so ds n monitors at t conjuncts r → transition_so ds m monitors at t conjuncts r
  unfolding transition_so
  transition_alike t conjuncts r h =
      after (such_that (IsCompleted (with_guard (transition_at n t) conjuncts))) (such_that (IsCompleted (with_guard (transition_at m t) conjuncts))) _ _ r
      (λ x such. (such.0, completed_alike (transition_at n t) (transition_at m t) conjuncts such.0 (at_alike n m alike t) such.1, such.2))
      (λ edited rest. after (answered_at at (IsBindableAnswer n edited)) (answered_at at (IsBindableAnswer m edited)) _ _ r
      (λ x answer. (answer.0, bindable_in ds n m declares (declares_alike ds n m alike declares) (places_alike n m alike) edited answer.0 answer.1, answer.2))
      (λ x last. last) rest)
      h

  -- An edit is read in a net as in each that differs from it in guards alone.
  pub edit_alike : (raw : RawEdit) (r : Reading PlainEdit) → edit_so ds n monitors whole at raw r → edit_so ds m monitors whole at raw r
  unfolding edit_so
  edit_alike (guard name text) r h =
      after (just (known whole (transition_named n name))) (just (known whole (transition_named m name))) _ _ r
      (λ x is. is ∙ ap (known whole) (transition_named_alike n m alike name))
      (λ t rest. after (such_that (IsGuard text)) (such_that (IsGuard text)) _ _ r (λ x is. is)
      (λ parsing rest_too. after (just (guard_of ds at parsing)) (just (guard_of ds at parsing)) _ _ r (λ x is. is)
      (λ conjuncts last. after (transition_so ds n monitors at t conjuncts) (transition_so ds m monitors at t conjuncts) _ _ r (transition_alike t conjuncts) (λ edited end. end) last)
      rest_too)
      rest)
      h
  edit_alike (initial name text) r h =
      after (just (known whole (place_named n name))) (just (known whole (place_named m name))) _ _ r
      (λ x is. is ∙ ap (λ (ps : List Coloured). known whole (number_of name (map (λ (p : Coloured). p.name) ps))) (places_alike n m alike))
      (λ p rest. after (tokens_so ds n.functions at (place_at n p) text) (tokens_so ds m.functions at (place_at m p) text) _ _ r
      (λ x is. subst (λ (place : Coloured). tokens_so ds m.functions at place text x) (ap (λ (ps : List Coloured). get_or ps p nothing) (places_alike n m alike)) (subst (λ (funs : Functions). tokens_so ds funs at (place_at n p) text x) (functions_alike n m alike) is))
      (λ tokens end. end) rest)
      h

-- ---- edits one after another

module _ (ds : Declared) (monitors : List PlainMonitor) where
  -- after an edit that is read, alike nets are so still
  after_alike : (n m : PlainNet) → AreAlikeButGuards n m → DeclaresFor ds n → (whole at : Pointer) (raw : RawEdit) (edit : PlainEdit) → edit_so ds n monitors whole at raw (read edit) → AreAlikeButGuards (net_after n edit) (net_after m edit)
  after_alike n m alike declares whole at raw edit h =
      edit_keeps ds n monitors whole at raw edit h ∙ alike ∙ sym (edit_keeps ds m monitors whole at raw edit (edit_alike ds n m alike declares monitors whole at raw (read edit) h))

  after_declares : (n : PlainNet) → DeclaresFor ds n → (edit : PlainEdit) (whole at : Pointer) (raw : RawEdit) → edit_so ds n monitors whole at raw (read edit) → DeclaresFor ds (net_after n edit)
  after_declares n declares edit whole at raw h = declares_alike ds n (net_after n edit) (sym (edit_keeps ds n monitors whole at raw edit h)) declares

  pub edits_alike : (p e : ℕ) (n m : PlainNet) → AreAlikeButGuards n m → DeclaresFor ds n → (raws : List RawEdit) (r : Reading (List PlainEdit)) → edits_so ds monitors p e n raws r → edits_so ds monitors p e m raws r
  unfolding edits_so
  edits_alike p e n m alike declares [] r h = h
  edits_alike p e n m alike declares (raw ∷ raws) r h =
      by (λ edit first x second. edits_alike p (suc e) (net_after n edit) (net_after m edit) (after_alike n m alike declares whole at raw edit first) (after_declares n declares edit whole at raw first) raws x second) h.0 h.1 h.2
    where
      whole : Pointer
      whole = at_edit p e of_edit.Whole

      at : Pointer
      at = at_edit p e of_edit.Text

      by : ((edit : PlainEdit) → edit_so ds n monitors whole at raw (read edit) → (x : Reading (List PlainEdit)) → edits_so ds monitors p (suc e) (net_after n edit) raws x → edits_so ds monitors p (suc e) (net_after m edit) raws x)
          → (x : Reading PlainEdit) → edit_so ds n monitors whole at raw x → After x (λ edit r. (y : Reading (List PlainEdit)) × edits_so ds monitors p (suc e) (net_after n edit) raws y × After y (λ edits z. z ≡ read (edit ∷ edits)) r) r → edits_so ds monitors p e m (raw ∷ raws) r
      by later (read edit) first (x, second, last) = (read edit, edit_alike ds n m alike declares monitors whole at raw (read edit) first, (x, later edit first x second, last))
      by later (refused f) first last = (refused f, edit_alike ds n m alike declares monitors whole at raw (refused f) first, last)

  -- edits that are read leave all but guards
  pub edits_keep : (p e : ℕ) (n : PlainNet) → DeclaresFor ds n → (raws : List RawEdit) (edits : List PlainEdit) → edits_so ds monitors p e n raws (read edits) → AreAlikeButGuards (net_after_all n edits) n
  unfolding edits_so
  edits_keep p e n declares [] edits h = subst (λ es. AreAlikeButGuards (net_after_all n es) n) (sym (same_read edits [] h)) refl
  edits_keep p e n declares (raw ∷ raws) edits h =
      let whole = at_edit p e of_edit.Whole in
      let at = at_edit p e of_edit.Text in
      let first = step_parts (edit_so ds n monitors whole at raw) _ edits h in
      let rest = step_parts (edits_so ds monitors p (suc e) (net_after n first.0) raws) _ edits first.2 in
      subst (λ es. AreAlikeButGuards (net_after_all n es) n) (sym (same_read edits (first.0 ∷ rest.0) rest.2))
      (edits_keep p (suc e) (net_after n first.0) (after_declares n declares first.0 whole at raw first.1) raws rest.0 rest.1 ∙ edit_keeps ds n monitors whole at raw first.0 first.1)

  phase_alike : (n m : PlainNet) → AreAlikeButGuards n m → DeclaresFor ds n → (p : ℕ) (raw : RawPhase) (r : Reading EditedPhase) → phase_so ds monitors n p raw r → phase_so ds monitors m p raw r
  unfolding phase_so
  phase_alike n m alike declares p raw r h = after (edits_so ds monitors p 0 n raw.edits) (edits_so ds monitors p 0 m raw.edits) _ _ r (edits_alike p 0 n m alike declares raw.edits) (λ edits end. end) h

  phase_keeps : (n : PlainNet) → DeclaresFor ds n → (p : ℕ) (raw : RawPhase) (phase : EditedPhase) → phase_so ds monitors n p raw (read phase) → AreAlikeButGuards (net_after_all n phase.edits) n
  unfolding phase_so
  phase_keeps n declares p raw phase h =
      let edits = step_parts (edits_so ds monitors p 0 n raw.edits) _ phase h in
      subst (λ (x : EditedPhase). AreAlikeButGuards (net_after_all n x.edits) n) (sym (same_read phase (record { start = raw.start; edits = edits.0 }) edits.2)) (edits_keep p 0 n declares raw.edits edits.0 edits.1)

  -- phases one after another
  pub phases_alike : (p : ℕ) (n m : PlainNet) → AreAlikeButGuards n m → DeclaresFor ds n → (raws : List RawPhase) (r : Reading (List EditedPhase)) → phases_so ds monitors p n raws r → phases_so ds monitors p m raws r
  unfolding phases_so
  phases_alike p n m alike declares [] r h = h
  phases_alike p n m alike declares (raw ∷ raws) r h =
      by (λ phase first x second.
      let kept = phase_keeps n declares p raw phase first in
      let next = kept ∙ alike ∙ sym (phase_keeps m (declares_alike ds n m alike declares) p raw phase (phase_alike n m alike declares p raw (read phase) first)) in
      phases_alike (suc p) (net_after_all n phase.edits) (net_after_all m phase.edits) next (declares_alike ds n (net_after_all n phase.edits) (sym kept) declares) raws x second) h.0 h.1 h.2
    where
      by : ((phase : EditedPhase) → phase_so ds monitors n p raw (read phase) → (x : Reading (List EditedPhase)) → phases_so ds monitors (suc p) (net_after_all n phase.edits) raws x → phases_so ds monitors (suc p) (net_after_all m phase.edits) raws x)
          → (x : Reading EditedPhase) → phase_so ds monitors n p raw x → After x (λ phase r. (y : Reading (List EditedPhase)) × phases_so ds monitors (suc p) (net_after_all n phase.edits) raws y × After y (λ phases z. z ≡ read (phase ∷ phases)) r) r → phases_so ds monitors p m (raw ∷ raws) r
      by later (read phase) first (x, second, last) = (read phase, phase_alike n m alike declares p raw (read phase) first, (x, later phase first x second, last))
      by later (refused f) first last = (refused f, phase_alike n m alike declares p raw (refused f) first, last)

  -- ---- each in the first net

  -- an edit of a phase, by its own number
  abbrev pub edit_of : PlainNet → ℕ → ℕ → RawEdit → Reading PlainEdit → Type 0
  edit_of n p e raw = edit_so ds n monitors (at_edit p e of_edit.Whole) (at_edit p e of_edit.Text) raw

  -- the edits of a phase may each be read in the first net
  pub edits_each : (p e : ℕ) (n m : PlainNet) → AreAlikeButGuards n m → DeclaresFor ds n → (raws : List RawEdit) (r : Reading (List PlainEdit)) → each_so (edit_of n p) e raws r → edits_so ds monitors p e m raws r
  unfolding edits_so each_so
  edits_each p e n m alike declares [] r h = h
  edits_each p e n m alike declares (raw ∷ raws) r h = by (λ edit there x second. edits_each p (suc e) n (net_after m edit) (alike ∙ sym (edit_keeps ds m monitors whole at raw edit there)) declares raws x second) h.0 h.1 h.2
    where
      whole : Pointer
      whole = at_edit p e of_edit.Whole

      at : Pointer
      at = at_edit p e of_edit.Text

      by : ((edit : PlainEdit) → edit_of m p e raw (read edit) → (x : Reading (List PlainEdit)) → each_so (edit_of n p) (suc e) raws x → edits_so ds monitors p (suc e) (net_after m edit) raws x)
          → (x : Reading PlainEdit) → edit_of n p e raw x → After x (λ edit r. (y : Reading (List PlainEdit)) × each_so (edit_of n p) (suc e) raws y × After y (λ edits z. z ≡ read (edit ∷ edits)) r) r → edits_so ds monitors p e m (raw ∷ raws) r
      by later (read edit) first (x, second, last) = let there = edit_alike ds n m alike declares monitors whole at raw (read edit) first in (read edit, there, (x, later edit there x second, last))
      by later (refused f) first last = (refused f, edit_alike ds n m alike declares monitors whole at raw (refused f) first, last)

  -- and so may the phases
  pub phases_each : (p : ℕ) (n m : PlainNet) → AreAlikeButGuards n m → DeclaresFor ds n → (raws : List RawPhase) (r : Reading (List EditedPhase)) → each_so (phase_so ds monitors n) p raws r → phases_so ds monitors p m raws r
  unfolding phases_so each_so
  phases_each p n m alike declares [] r h = h
  phases_each p n m alike declares (raw ∷ raws) r h =
      by (λ phase there x second. phases_each (suc p) n (net_after_all m phase.edits) (alike ∙ sym (phase_keeps m (declares_alike ds n m alike declares) p raw phase there)) declares raws x second) h.0 h.1 h.2
    where
      by : ((phase : EditedPhase) → phase_so ds monitors m p raw (read phase) → (x : Reading (List EditedPhase)) → each_so (phase_so ds monitors n) (suc p) raws x → phases_so ds monitors (suc p) (net_after_all m phase.edits) raws x)
          → (x : Reading EditedPhase) → phase_so ds monitors n p raw x → After x (λ phase r. (y : Reading (List EditedPhase)) × each_so (phase_so ds monitors n) (suc p) raws y × After y (λ phases z. z ≡ read (phase ∷ phases)) r) r → phases_so ds monitors p m (raw ∷ raws) r
      by later (read phase) first (x, second, last) =
          let there = phase_alike n m alike declares p raw (read phase) first in
          (read phase, there, (x, later phase there x second, last))
      by later (refused f) first last = (refused f, phase_alike n m alike declares p raw (refused f) first, last)

  -- where one of them is refused there, they are refused
  pub edits_refused : (p : ℕ) (n : PlainNet) → DeclaresFor ds n → (raws : List RawEdit) (o : Option EditRefusal) → RefusesBy (each_so (edit_of n p) 0 raws) o → RefusesBy (edits_so ds monitors p 0 n raws) o
  edits_refused p n declares raws None h = tt
  edits_refused p n declares raws (Some refusal) h = edits_each p 0 n n refl declares raws (refused refusal) h

  pub phases_refused : (n : PlainNet) → DeclaresFor ds n → (raws : List RawPhase) (o : Option EditRefusal) → RefusesBy (each_so (phase_so ds monitors n) 0 raws) o → RefusesBy (phases_so ds monitors 0 n raws) o
  phases_refused n declares raws None h = tt
  phases_refused n declares raws (Some refusal) h = phases_each 0 n n refl declares raws (refused refusal) h
