-- Each value that an element needs on a place is that of a binding term there, or its transition reads the place otherwise.
use Rattle.std.proofs.Common.{◌≡◌, ◌⊎◌, ℕ, zero, suc, ◌+◌, pos, Bool, true, false, cond, List, [], ◌∷◌, ◌++◌, replicate, Option, Some, None, refl, sym, ap, ◌∙◌, subst, inl, inr, ⊎_elim, Ordering, is_lt}
use Rattle.std.proofs.lemmas.Bool.{and_parts}
use Rattle.cpn_definitions.specs.Value.{PlainValue, int}
use Rattle.cpn_definitions.specs.Colour.{PlainColour, admits}
use Rattle.cpn_definitions.specs.Lists.{with_item, with_items, in_order}
use Rattle.cpn_definitions.specs.Inscription.{PlainPattern, PlainExpr, literal, ArcInscription, one, times, sum_of, ArcInscriptions, no_inscriptions, more_inscriptions}
use Rattle.cpn_definitions.specs.Marking.{Marking}
use Rattle.cpn_definitions.specs.Net.{BindingTerm, PlainArc, PlainTransition, PlainNet, transition_at}
use Rattle.cpn_definitions.specs.Outcome.{Outcome, gives, faults, ◌>>=◌, not_in_colour, too_large}
use Rattle.cpn_definitions.specs.Meaning.{PlainBinding, Setting, meant, setting_of}
use Rattle.cpn_definitions.specs.Terms.{in_colour, tokens_in, counted, PlainTerm, term_of, lone_term, terms_behind, terms_of_each, terms_of}
use Rattle.cpn_definitions.specs.Bindable.{pattern_of, term_with, binding_term, binding_terms_of_each, binding_terms}
use Rattle.cpn_definitions.specs.Occurrence.{PlainElement, gather, Needed, needed_cmp, needed_by, needs_of}
use Rattle.cpn_definitions.proofs.Outcomes.{same_given, bound_parts}
use Rattle.cpn_definitions.proofs.RisingLists.{IsIn, in_from_contains, contains_from_in, in_append_left, in_append_right, in_append_cases, in_flat_from}
use Rattle.cpn_stages.specs.Partial.{PlainPartial, as_partial}
use Rattle.cpn_stages.specs.Instances.{IsInstance}
use Rattle.cpn_stages.specs.Stages.{Stage}
use Rattle.cpn_stages.specs.Work.{pulled, AreAllTries, IsPinned}
use Rattle.cpn_stages.specs.TermsWith.{HasTermWith}
use Rattle.cpn_stages.specs.Reading.{is_there, each_is_term, is_of_terms, ReadsOtherwise, HasTermOn}
use Rattle.cpn_stages.proofs.PatternValues.{pattern_is}
use Rattle.cpn_stages.proofs.PinnedStages.{pulled_is}
use Rattle.cpn_stages.proofs.PinnedEnds.{place_of, pulled_term}

-- ---- what is in a list in order is in the list

of_with_item : {X : Type 0} (c : X → X → Ordering) (x z : X) (ys : List X) → IsIn z (with_item c x ys) → (x ≡ z) ⊎ IsIn z ys
of_with_item c x z [] (inl e) = inl e
of_with_item c x z [] (inr h) = absurd h
of_with_item c x z (y ∷ ys) h = split (is_lt (c x y)) (of_with_item c x z ys) h
  where
    split : (b : Bool) → (IsIn z (with_item c x ys) → (x ≡ z) ⊎ IsIn z ys) → IsIn z (cond b (x ∷ y ∷ ys) (y ∷ with_item c x ys)) → (x ≡ z) ⊎ IsIn z (y ∷ ys)
    split true rest (inl e) = inl e
    split true rest (inr h) = inr h
    split false rest (inl e) = inr (inl e)
    split false rest (inr h) = ⊎_elim (λ e. inl e) (λ g. inr (inr g)) (rest h)

of_with_items : {X : Type 0} (c : X → X → Ordering) (z : X) (xs ys : List X) → IsIn z (with_items c xs ys) → IsIn z xs ⊎ IsIn z ys
of_with_items c z [] ys h = inr h
of_with_items c z (x ∷ xs) ys h =
    ⊎_elim (λ g. inl (inr g)) (λ g. ⊎_elim (λ e. inl (inl e)) (λ k. inr k) (of_with_item c x z ys g)) (of_with_items c z xs (with_item c x ys) h)

of_in_order : {X : Type 0} (c : X → X → Ordering) (z : X) (xs : List X) → IsIn z (in_order c xs) → IsIn z xs
of_in_order c z xs h = ⊎_elim (λ g. g) (λ g. absurd g) (of_with_items c z xs [] h)

of_replicate : {X : Type 0} (k : ℕ) (x z : X) → IsIn z (replicate k x) → x ≡ z
of_replicate zero x z h = absurd h
of_replicate (suc k) x z (inl e) = e
of_replicate (suc k) x z (inr h) = of_replicate k x z h

-- ---- each term of an inscription of binding terms alone is one of them

-- one of the binding terms has the value
record HasOne (b : PlainPartial) (terms : List BindingTerm) (v : PlainValue) : Type 0 where
  term : BindingTerm
  is_in : IsIn term terms
  has_value : IsInstance b term.pattern v

in_colour_is : (colour : PlainColour) (v w : PlainValue) → in_colour colour v ≡ gives w → v ≡ w
in_colour_is colour v w is = split (admits colour v) is
  where
    split : (b : Bool) → cond b (gives v) (faults not_in_colour) ≡ gives w → v ≡ w
    split true h = same_given v w h
    split false h = cc

counted_is : (before : ℕ) (o : Outcome (List PlainTerm)) (terms : List PlainTerm) → (o >>= counted before) ≡ gives terms → o ≡ gives terms
counted_is before o terms is =
    let parts = bound_parts o (counted before) terms is in
    parts.1 ∙ ap gives (split parts.0 (tokens_in parts.0) parts.2)
  where
    again : (xs : List PlainTerm) (b : Bool) → cond b (gives xs) (faults too_large) ≡ gives terms → xs ≡ terms
    again xs true h = same_given xs terms h
    again xs false h = cc

    split : (xs : List PlainTerm) (k : ℕ) → counted before xs ≡ gives terms → xs ≡ terms
    split xs k h = again xs _ h

-- the only term of an inscription behind a count
only_term : (e : PlainExpr) (p : PlainPattern) (colour : PlainColour) (s : Setting) (locals : List PlainValue) (count : ℕ) (terms : List PlainTerm) (k : PlainTerm)
    → pattern_of e ≡ Some p → term_of e colour s locals count ≡ gives terms → IsIn k terms → IsInstance (as_partial s.binding) p k.value
only_term e p colour s locals count terms k form is h =
    let first = bound_parts (meant e s locals) _ terms is in
    let second = bound_parts (in_colour colour first.0) _ terms first.2 in
    let value : first.0 ≡ second.0 = in_colour_is colour first.0 second.0 second.1 in
    let own : PlainTerm = record { value = second.0; count = count; delay = 0 } in
    let same : own ≡ k = of_one (subst (IsIn k) (sym (same_given (own ∷ []) terms second.2)) h) in
    subst (IsInstance (as_partial s.binding) p) (value ∙ ap (λ (t : PlainTerm). t.value) same) (pattern_is e p s locals first.0 form first.1)
  where
    of_one : {j : PlainTerm} → IsIn k (j ∷ []) → j ≡ k
    of_one (inl e) = e
    of_one (inr g) = absurd g

with_form : (e : PlainExpr) (colour : PlainColour) (s : Setting) (locals : List PlainValue) (count : ℕ) (terms : List PlainTerm) (k : PlainTerm)
    → is_there (term_with count (pattern_of e)) ≡ true → term_of e colour s locals count ≡ gives terms → IsIn k terms → HasOne (as_partial s.binding) (term_with count (pattern_of e)) k.value
with_form e colour s locals count terms k there is h = split (pattern_of e) refl there
  where
    split : (o : Option PlainPattern) → pattern_of e ≡ o → is_there (term_with count o) ≡ true → HasOne (as_partial s.binding) (term_with count o) k.value
    split None form there = cc
    split (Some p) form there = record { term = record { count = count; pattern = p }; is_in = inl refl; has_value = only_term e p colour s locals count terms k form is h }

lone_is : (m : ArcInscription) (colour : PlainColour) (s : Setting) (locals : List PlainValue) (before : ℕ) (terms : List PlainTerm) (k : PlainTerm)
    → is_there (binding_term m) ≡ true → terms_behind m colour s locals before ≡ gives terms → IsIn k terms → HasOne (as_partial s.binding) (binding_term m) k.value
lone_is (one e) colour s locals before terms k there is h = with_form e colour s locals 1 terms k there (counted_is before (lone_term (one e) colour s locals) terms is) h
lone_is (times (literal (int (pos (suc c)))) e) colour s locals before terms k there is h =
    with_form e colour s locals (suc c) terms k there (counted_is before (lone_term (times (literal (int (pos (suc c)))) e) colour s locals) terms is) h
lone_is m colour s locals before terms k there is h = cc

has_left : (b : PlainPartial) (xs ys : List BindingTerm) (v : PlainValue) → HasOne b xs v → HasOne b (xs ++ ys) v
has_left b xs ys v h = record { term = h.term; is_in = in_append_left xs ys h.term h.is_in; has_value = h.has_value }

has_right : (b : PlainPartial) (xs ys : List BindingTerm) (v : PlainValue) → HasOne b ys v → HasOne b (xs ++ ys) v
has_right b xs ys v h = record { term = h.term; is_in = in_append_right xs ys h.term h.is_in; has_value = h.has_value }

each_is : (ms : ArcInscriptions) (colour : PlainColour) (s : Setting) (locals : List PlainValue) (before : ℕ) (terms : List PlainTerm) (k : PlainTerm)
    → each_is_term ms ≡ true → terms_of_each ms colour s locals before ≡ gives terms → IsIn k terms → HasOne (as_partial s.binding) (binding_terms_of_each ms) k.value
each_is no_inscriptions colour s locals before terms k all is h = absurd (subst (IsIn k) (sym (same_given [] terms is)) h)
each_is (more_inscriptions m ms) colour s locals before terms k all is h =
    let both = and_parts (is_there (binding_term m)) (each_is_term ms) all in
    let first = bound_parts (terms_behind m colour s locals before) _ terms is in
    let second = bound_parts (terms_of_each ms colour s locals (before + tokens_in first.0)) _ terms first.2 in
    let own = in_append_cases first.0 second.0 k (subst (IsIn k) (sym (same_given _ terms second.2)) h) in
    ⊎_elim (λ here. has_left (as_partial s.binding) (binding_term m) (binding_terms_of_each ms) k.value (lone_is m colour s locals before first.0 k both.0 first.1 here))
    (λ later. has_right (as_partial s.binding) (binding_term m) (binding_terms_of_each ms) k.value (each_is ms colour s locals (before + tokens_in first.0) second.0 k both.1 second.1 later))
    own

inscription_is : (m : ArcInscription) (colour : PlainColour) (s : Setting) (terms : List PlainTerm) (k : PlainTerm)
    → is_of_terms m ≡ true → terms_behind m colour s [] 0 ≡ gives terms → IsIn k terms → HasOne (as_partial s.binding) (binding_terms m) k.value
inscription_is (sum_of ms) colour s terms k all is h = each_is ms colour s [] 0 terms k all is h
inscription_is m colour s terms k all is h = lone_is m colour s [] 0 terms k all is h

-- ---- of needs

-- what all arcs give is of one of them
gathered_from : {A : Type 0} (f : PlainArc → Outcome (List A)) (arcs : List PlainArc) (xs : List A) (x : A) → gather f arcs ≡ gives xs → IsIn x xs
    → (arc : PlainArc) × IsIn arc arcs × ((ys : List A) × (f arc ≡ gives ys) × IsIn x ys)
gathered_from f [] xs x is h = absurd (subst (IsIn x) (sym (same_given [] xs is)) h)
gathered_from {A} f (arc ∷ arcs) xs x is h =
    let first = bound_parts (f arc) _ xs is in
    let second = bound_parts (gather f arcs) _ xs first.2 in
    elim (in_append_cases first.0 second.0 x (subst (IsIn x) (sym (same_given _ xs second.2)) h)) as (λ _. (arc' : PlainArc) × IsIn arc' (arc ∷ arcs) × ((ys : List A) × (f arc' ≡ gives ys) × IsIn x ys)) [
      | inl here ↦ (arc, inl refl, (first.0, first.1, here))
      | inr later ↦ (let rest = gathered_from f arcs second.0 x second.1 later in (rest.0, inr rest.1, rest.2))
    ]

-- what a need is found by: a binding term, or the transition reads its place otherwise
abbrev pub IsOfTermOrReadOtherwise : PlainTransition → ℕ → PlainValue → PlainBinding → Type 0
IsOfTermOrReadOtherwise t p v b = ReadsOtherwise t p ⊎ HasTermWith t p v b

module _ (n : PlainNet) (e : PlainElement) where
  abbrev t : PlainTransition
  t = transition_at n e.transition

  of_arc : (arc : PlainArc) (need : Needed) (ys : List Needed) → IsIn arc t.inputs → needed_by n.functions e.binding arc ≡ gives ys → IsIn need ys → IsOfTermOrReadOtherwise t need.place need.value e.binding
  of_arc arc need ys listed is h =
      let parts = bound_parts (terms_of n.functions arc.expr arc.colour e.binding 0) _ ys is in
      let of_term = in_flat_from (λ (k : PlainTerm). replicate k.count (record { place = arc.place; value = k.value; offset = k.delay })) parts.0 need (subst (IsIn need) (sym (same_given _ ys parts.2)) h) in
      let same = of_replicate of_term.0.count _ need of_term.2 in
      split parts.0 of_term.0 parts.1 of_term.1 (ap (λ (k : Needed). k.place) same) (ap (λ (k : Needed). k.value) same) (is_of_terms arc.expr) refl
    where
      split : (terms : List PlainTerm) (k : PlainTerm) → terms_of n.functions arc.expr arc.colour e.binding 0 ≡ gives terms → IsIn k terms → arc.place ≡ need.place → k.value ≡ need.value
          → (b : Bool) → is_of_terms arc.expr ≡ b → IsOfTermOrReadOtherwise t need.place need.value e.binding
      split terms k is there place value false other = inl (record { arc = arc; is_input = contains_from_in t.inputs arc listed; from_it = place; otherwise = other })
      split terms k is there place value true all =
          let has = inscription_is arc.expr arc.colour (setting_of n.functions e.binding 0) terms k all is there in
          inr (record {
            arc = arc;
            is_input = contains_from_in t.inputs arc listed;
            from_it = place;
            term = has.term;
            is_term = contains_from_in (binding_terms arc.expr) has.term has.is_in;
            has_value = subst (IsInstance (as_partial e.binding) has.term.pattern) value has.has_value;
          })

  pub need_is_found : (needs : List Needed) (need : Needed) → needs_of n e ≡ gives needs → IsIn need needs → IsOfTermOrReadOtherwise t need.place need.value e.binding
  unfolding needs_of
  need_is_found needs need is h =
      let flat = bound_parts (gather (needed_by n.functions e.binding) t.inputs) _ needs is in
      let of_it = gathered_from (needed_by n.functions e.binding) t.inputs flat.0 need flat.1 (of_in_order needed_cmp need flat.0 (subst (IsIn need) (sym (same_given _ needs flat.2)) h)) in
      of_arc of_it.0 need of_it.2.0 of_it.1 of_it.2.1 of_it.2.2

-- ---- of a transition's terms on a place

one_is_there : (terms : List BindingTerm) (term : BindingTerm) → IsIn term terms → is_there terms ≡ true
one_is_there [] term h = absurd h
one_is_there (k ∷ terms) term h = refl

-- a transition has a binding term on a place where one has a value there
pub has_term_on : (t : PlainTransition) (place : ℕ) (v : PlainValue) (b : PlainBinding) → HasTermWith t place v b → HasTermOn t place
has_term_on t place v b has = record {
  arc = has.arc;
  is_input = has.is_input;
  from_it = has.from_it;
  carries = one_is_there (binding_terms has.arc.expr) has.term (in_from_contains (binding_terms has.arc.expr) has.term has.is_term);
}

-- without one no stages are pulled, so that a search with a value there makes no try
pub no_term_no_tries : (n : PlainNet) (m : Marking) (t place : ℕ) (v : PlainValue) (k : ℕ) → (HasTermOn (transition_at n t) place → ⊥) → IsPinned n m t place v k → k ≡ 0
no_term_no_tries n m t place v k none is = split (pulled place v [] is.stages) (λ stages h. none (of_pulled stages h)) is.tries
  where
    of_pulled : (stages : List Stage) → IsIn stages (pulled place v [] is.stages) → HasTermOn (transition_at n t) place
    of_pulled stages h =
        let of_term = pulled_term n (transition_at n t) is.stages place v stages is.are (pulled_is place v [] is.stages stages h) in
        record {
          arc = of_term.0;
          is_input = contains_from_in (transition_at n t).inputs of_term.0 of_term.1;
          from_it = ap (place_of place) of_term.2.2;
          carries = one_is_there (binding_terms of_term.0.expr) of_term.2.0 of_term.2.1;
        }

    split : (lists : List (List Stage)) → ((stages : List Stage) → IsIn stages lists → ⊥) → AreAllTries n m (transition_at n t) lists k → k ≡ 0
    split [] nothing tries = tries
    split (stages ∷ lists) nothing tries = absurd (nothing stages (inl refl))
