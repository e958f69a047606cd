-- Of a covered element each binding term is a value that stands on its place.
use Rattle.std.proofs.Common.{◌≡◌, ℕ, suc, ◌+◌, pos, Bool, true, false, cond, nat_le, List, [], ◌∷◌, ◌++◌, map, replicate, Option, Some, None, refl, sym, ap, ◌∙◌, subst, inl, inr, ⊎_elim, Ordering, nat_cmp, is_lt}
use Rattle.std.specs.List.{filter}
use Rattle.std.proofs.lemmas.Bool.{cond_both}
use Rattle.cpn_definitions.specs.Value.{PlainValue, int}
use Rattle.cpn_definitions.specs.Order.{same_value}
use Rattle.cpn_definitions.specs.ValueOrder.{same_value_true, same_value_refl}
use Rattle.cpn_definitions.specs.Colour.{PlainColour, admits}
use Rattle.cpn_definitions.specs.Lists.{with_item, with_items, in_order}
use Rattle.cpn_definitions.specs.Marking.{PlainToken, Tokens, Marking, tokens_at, stamps, covers}
use Rattle.cpn_definitions.specs.Inscription.{PlainPattern, PlainExpr, literal, Functions, ArcInscription, one, times, sum_of, ArcInscriptions, no_inscriptions, more_inscriptions}
use Rattle.cpn_definitions.specs.Net.{BindingTerm, PlainArc, PlainNet, transition_at}
use Rattle.cpn_definitions.specs.Outcome.{Outcome, gives, faults, ◌>>=◌, not_in_colour, too_large, gives_and}
use Rattle.cpn_definitions.specs.Meaning.{PlainBinding, Setting, meant, setting_of}
use Rattle.cpn_definitions.specs.Terms.{in_colour, most_tokens, tokens_in, counted, PlainTerm, term_of, lone_term, terms_behind, terms_of_each, terms_of}
use Rattle.cpn_definitions.specs.Bindable.{pattern_of, term_with, binding_term, binding_terms_of_each, binding_terms}
use Rattle.cpn_definitions.specs.Occurrence.{PlainElement, gather, Needed, needed_cmp, needed_by, needs_of, same_need, thresholds, threshold_in, are_covered}
use Rattle.cpn_definitions.proofs.Outcomes.{same_given, bound_parts, gives_and_parts}
use Rattle.cpn_definitions.proofs.RisingLists.{IsIn, contains_from_in, in_append_left, in_append_right, in_append_cases, in_map, in_filter, passes_at, in_flat_map}
use Rattle.cpn_definitions.proofs.NumberTests.{equals_itself}
use Rattle.cpn_stages.specs.Partial.{PlainPartial, as_partial}
use Rattle.cpn_stages.specs.Instances.{IsInstance}
use Rattle.cpn_stages.specs.Reached.{StandsOn}
use Rattle.cpn_stages.proofs.PatternValues.{pattern_is}

-- ---- what is in a list is in it in order

in_with_item_new : {X : Type 0} (c : X → X → Ordering) (x : X) (ys : List X) → IsIn x (with_item c x ys)
in_with_item_new c x [] = inl refl
in_with_item_new c x (y ∷ ys) = cond_both (is_lt (c x y)) (x ∷ y ∷ ys) (y ∷ with_item c x ys) (IsIn x) (λ _. inl refl) (λ _. inr (in_with_item_new c x ys))

in_with_item_old : {X : Type 0} (c : X → X → Ordering) (x z : X) (ys : List X) → IsIn z ys → IsIn z (with_item c x ys)
in_with_item_old c x z [] h = absurd h
in_with_item_old c x z (y ∷ ys) (inl e) = cond_both (is_lt (c x y)) (x ∷ y ∷ ys) (y ∷ with_item c x ys) (IsIn z) (λ _. inr (inl e)) (λ _. inl e)
in_with_item_old c x z (y ∷ ys) (inr h) = cond_both (is_lt (c x y)) (x ∷ y ∷ ys) (y ∷ with_item c x ys) (IsIn z) (λ _. inr (inr h)) (λ _. inr (in_with_item_old c x z ys h))

in_with_items_old : {X : Type 0} (c : X → X → Ordering) (z : X) (xs ys : List X) → IsIn z ys → IsIn z (with_items c xs ys)
in_with_items_old c z [] ys h = h
in_with_items_old c z (x ∷ xs) ys h = in_with_items_old c z xs (with_item c x ys) (in_with_item_old c x z ys h)

in_with_items_new : {X : Type 0} (c : X → X → Ordering) (z : X) (xs ys : List X) → IsIn z xs → IsIn z (with_items c xs ys)
in_with_items_new c z [] ys h = absurd h
in_with_items_new c z (x ∷ xs) ys (inl e) = in_with_items_old c z xs (with_item c x ys) (subst (λ y. IsIn y (with_item c x ys)) e (in_with_item_new c x ys))
in_with_items_new c z (x ∷ xs) ys (inr h) = in_with_items_new c z xs (with_item c x ys) h

in_in_order : {X : Type 0} (c : X → X → Ordering) (z : X) (xs : List X) → IsIn z xs → IsIn z (in_order c xs)
in_in_order c z xs h = in_with_items_new c z xs [] h

-- ---- a binding term is one of the terms of its inscription

-- the terms have one, of at least one token, whose value is the pattern's
pub record HasTerm (b : PlainPartial) (p : PlainPattern) (terms : List PlainTerm) : Type 0 where
  pub term : PlainTerm
  pub is_in : IsIn term terms
  pub is_instance : IsInstance b p term.value
  pub less : ℕ
  pub some : term.count ≡ suc less

in_colour_is : (colour : PlainColour) (v w : PlainValue) → in_colour colour v ≡ gives w → v ≡ w
in_colour_is colour v w is = split (admits colour v) is
  where
    split : (b : Bool) → cond b (gives v) (faults not_in_colour) ≡ gives w → v ≡ w
    split true h = same_given v w h
    split false h = cc

abbrev term_with_count : PlainValue → ℕ → PlainTerm
term_with_count v count = record { value = v; count = count; delay = 0 }

has_one : (e : PlainExpr) (p : PlainPattern) (colour : PlainColour) (s : Setting) (locals : List PlainValue) (k : ℕ) (terms : List PlainTerm) → pattern_of e ≡ Some p → term_of e colour s locals (suc k) ≡ gives terms → HasTerm (as_partial s.binding) p terms
has_one e p colour s locals k terms form is =
    let first = bound_parts (meant e s locals) (λ v. in_colour colour v >>= (λ token. gives (term_with_count token (suc k) ∷ []))) terms is in
    let second = bound_parts (in_colour colour first.0) (λ token. gives (term_with_count token (suc k) ∷ [])) terms first.2 in
    let value : first.0 ≡ second.0 = in_colour_is colour first.0 second.0 second.1 in
    record {
      term = term_with_count second.0 (suc k);
      is_in = subst (IsIn (term_with_count second.0 (suc k))) (same_given (term_with_count second.0 (suc k) ∷ []) terms second.2) (inl refl);
      is_instance = subst (IsInstance (as_partial s.binding) p) value (pattern_is e p s locals first.0 form first.1);
      less = k;
      some = refl;
    }

counted_is : (before : ℕ) (o : Outcome (List PlainTerm)) (terms : List PlainTerm) → (o >>= counted before) ≡ gives terms → o ≡ gives terms
counted_is before o terms is =
    let parts = bound_parts o (counted before) terms is in
    parts.1 ∙ ap gives (split parts.0 (nat_le (before + tokens_in parts.0) most_tokens) parts.2)
  where
    split : (xs : List PlainTerm) (b : Bool) → cond b (gives xs) (faults too_large) ≡ gives terms → xs ≡ terms
    split xs true h = same_given xs terms h
    split xs false h = cc

-- the one term with a pattern
with_pattern : (count : ℕ) (o : Option PlainPattern) (term : BindingTerm) → IsIn term (term_with count o) → o ≡ Some term.pattern
with_pattern count None term h = absurd h
with_pattern count (Some p) term (inl e) = ap (λ (k : BindingTerm). Some k.pattern) e
with_pattern count (Some p) term (inr h) = absurd h

lone_has : (m : ArcInscription) (term : BindingTerm) (colour : PlainColour) (s : Setting) (locals : List PlainValue) (before : ℕ) (terms : List PlainTerm) → IsIn term (binding_term m) → terms_behind m colour s locals before ≡ gives terms → HasTerm (as_partial s.binding) term.pattern terms
lone_has (one e) term colour s locals before terms h is =
    has_one e term.pattern colour s locals 0 terms (with_pattern 1 (pattern_of e) term h) (counted_is before (lone_term (one e) colour s locals) terms is)
lone_has (times (literal (int (pos (suc k)))) e) term colour s locals before terms h is =
    has_one e term.pattern colour s locals k terms (with_pattern (suc k) (pattern_of e) term h) (counted_is before (lone_term (times (literal (int (pos (suc k)))) e) colour s locals) terms is)
lone_has m term colour s locals before terms h is = absurd h

has_term_left : (b : PlainPartial) (p : PlainPattern) (xs ys : List PlainTerm) → HasTerm b p xs → HasTerm b p (xs ++ ys)
has_term_left b p xs ys h = record { term = h.term; is_in = in_append_left xs ys h.term h.is_in; is_instance = h.is_instance; less = h.less; some = h.some }

has_term_right : (b : PlainPartial) (p : PlainPattern) (xs ys : List PlainTerm) → HasTerm b p ys → HasTerm b p (xs ++ ys)
has_term_right b p xs ys h = record { term = h.term; is_in = in_append_right xs ys h.term h.is_in; is_instance = h.is_instance; less = h.less; some = h.some }

each_has : (ms : ArcInscriptions) (term : BindingTerm) (colour : PlainColour) (s : Setting) (locals : List PlainValue) (before : ℕ) (terms : List PlainTerm) → IsIn term (binding_terms_of_each ms) → terms_of_each ms colour s locals before ≡ gives terms → HasTerm (as_partial s.binding) term.pattern terms
each_has no_inscriptions term colour s locals before terms h is = absurd h
each_has (more_inscriptions m ms) term colour s locals before terms h is =
    let first = bound_parts (terms_behind m colour s locals before) _ terms is in
    let second = bound_parts (terms_of_each ms colour s locals (before + tokens_in first.0)) _ terms first.2 in
    subst (HasTerm (as_partial s.binding) term.pattern) (same_given (first.0 ++ second.0) terms second.2)
    (⊎_elim (λ here. has_term_left (as_partial s.binding) term.pattern first.0 second.0 (lone_has m term colour s locals before first.0 here first.1))
    (λ there. has_term_right (as_partial s.binding) term.pattern first.0 second.0 (each_has ms term colour s locals (before + tokens_in first.0) second.0 there second.1))
    (in_append_cases (binding_term m) (binding_terms_of_each ms) term h))

inscription_has : (m : ArcInscription) (term : BindingTerm) (colour : PlainColour) (s : Setting) (terms : List PlainTerm) → IsIn term (binding_terms m) → terms_behind m colour s [] 0 ≡ gives terms → HasTerm (as_partial s.binding) term.pattern terms
inscription_has (sum_of ms) term colour s terms h is = each_has ms term colour s [] 0 terms h is
inscription_has m term colour s terms h is = lone_has m term colour s [] 0 terms h is

-- ---- a binding term is one of the needs of its element

-- what one of the arcs gives is among what they all give
gathered
    : {A : Type 0} (f : PlainArc → Outcome (List A)) (arcs : List PlainArc) (arc : PlainArc) (xs : List A) → gather f arcs ≡ gives xs → IsIn arc arcs
    → (ys : List A) × (f arc ≡ gives ys) × ((y : A) → IsIn y ys → IsIn y xs)
gathered f [] arc xs is h = absurd h
gathered {A} f (k ∷ arcs) arc xs is h =
    let first = bound_parts (f k) _ xs is in
    let second = bound_parts (gather f arcs) _ xs first.2 in
    let joined : first.0 ++ second.0 ≡ xs = same_given _ _ second.2 in
    elim h as (λ _. (ys : List A) × (f arc ≡ gives ys) × ((y : A) → IsIn y ys → IsIn y xs)) [
      | inl e ↦ (first.0, ap f (sym e) ∙ first.1, λ y g. subst (IsIn y) joined (in_append_left first.0 second.0 y g))
      | inr g ↦ (let rest = gathered f arcs arc second.0 second.1 g in (rest.0, rest.1, λ y there. subst (IsIn y) joined (in_append_right first.0 second.0 y (rest.2 y there))))
    ]

-- a need on the place of an arc for the value that a pattern is
pub record HasNeed (b : PlainPartial) (place : ℕ) (p : PlainPattern) (needs : List Needed) : Type 0 where
  pub need : Needed
  pub is_in : IsIn need needs
  pub on_it : need.place ≡ place
  pub is_instance : IsInstance b p need.value

arc_needs : (funs : Functions) (b : PlainBinding) (arc : PlainArc) (term : BindingTerm) (ys : List Needed) → IsIn term (binding_terms arc.expr) → needed_by funs b arc ≡ gives ys → HasNeed (as_partial b) arc.place term.pattern ys
arc_needs funs b arc term ys h is =
    let parts = bound_parts (terms_of funs arc.expr arc.colour b 0) _ ys is in
    let has = inscription_has arc.expr term arc.colour (setting_of funs b 0) parts.0 h parts.1 in
    let need : Needed = record { place = arc.place; value = has.term.value; offset = has.term.delay } in
    record {
      need = need;
      is_in = subst (IsIn need) (same_given _ ys parts.2)
          (in_flat_map (λ (k : PlainTerm). replicate k.count (record { place = arc.place; value = k.value; offset = k.delay })) parts.0 has.term need has.is_in
          (subst (λ (count : ℕ). IsIn need (replicate count need)) (sym has.some) (inl refl)));
      on_it = refl;
      is_instance = has.is_instance;
    }

pub needs_have : (n : PlainNet) (e : PlainElement) (arc : PlainArc) (term : BindingTerm) (needs : List Needed) → IsIn arc (transition_at n e.transition).inputs → IsIn term (binding_terms arc.expr) → needs_of n e ≡ gives needs → HasNeed (as_partial e.binding) arc.place term.pattern needs
unfolding needs_of
needs_have n e arc term needs h of_arc is =
    let flat = bound_parts (gather (needed_by n.functions e.binding) (transition_at n e.transition).inputs) _ needs is in
    let here = gathered (needed_by n.functions e.binding) (transition_at n e.transition).inputs arc flat.0 flat.1 h in
    let has = arc_needs n.functions e.binding arc term here.0 of_arc here.1 in
    record {
      need = has.need;
      is_in = subst (IsIn has.need) (same_given _ needs flat.2) (in_in_order needed_cmp has.need flat.0 (here.2 has.need has.is_in));
      on_it = has.on_it;
      is_instance = has.is_instance;
    }

-- ---- covered needs stand on their places

-- where thresholds are covered by the stamps of a value, and there is one, a token has the value
token_stands : (v : PlainValue) (ks : Tokens) (r : ℕ) (rs : List ℕ) → covers (stamps v ks) rs ≡ true → IsIn r rs → (k : PlainToken) × IsIn k ks × (k.value ≡ v)
token_stands v ks r [] is h = absurd h
token_stands v [] r (s ∷ rs) is h = cc
token_stands v (k ∷ ks) r (s ∷ rs) is h = split (same_value v k.value) refl (token_stands v ks r (s ∷ rs)) is
  where
    split : (b : Bool) → same_value v k.value ≡ b → (covers (stamps v ks) (s ∷ rs) ≡ true → IsIn r (s ∷ rs) → (l : PlainToken) × IsIn l ks × (l.value ≡ v)) → covers (cond b (k.stamp ∷ stamps v ks) (stamps v ks)) (s ∷ rs) ≡ true → (l : PlainToken) × IsIn l (k ∷ ks) × (l.value ≡ v)
    split true same rest is' = (k, inl refl, sym (same_value_true v k.value same))
    split false same rest is' = let later = rest is' h in (later.0, inr later.1, later.2)

need_itself : (need : Needed) → same_need need need ≡ true
need_itself need = rw (equals_itself need.place, same_value_refl need.value) refl

pub need_stands : (latest : Needed → ℕ) (m : Marking) (needs : List Needed) (need : Needed) → are_covered latest m needs ≡ true → IsIn need needs → StandsOn m need.place need.value
need_stands latest m needs need all h =
    let token = token_stands need.value (tokens_at m need.place) (latest need) (thresholds latest need needs)
    (passes_at (λ need. covers (stamps need.value (tokens_at m need.place)) (thresholds latest need needs)) needs need all h)
    (in_in_order nat_cmp (latest need) (map latest (filter (same_need need) needs)) (in_map latest (filter (same_need need) needs) need (in_filter (same_need need) needs need h (need_itself need)))) in
    (token.0, contains_from_in (tokens_at m need.place) token.0 token.1, token.2)

-- each binding term of an input arc is, under the binding of a covered element, a value that stands on the arc's place
pub term_stands
    : (n : PlainNet) (m : Marking) (time : ℕ) (e : PlainElement) (arc : PlainArc) (term : BindingTerm)
    → gives_and (needs_of n e) (are_covered (threshold_in n time) m) ≡ true → IsIn arc (transition_at n e.transition).inputs → IsIn term (binding_terms arc.expr)
    → (v : PlainValue) × StandsOn m arc.place v × IsInstance (as_partial e.binding) term.pattern v
term_stands n m time e arc term is h of_arc =
    let needs = gives_and_parts (needs_of n e) (are_covered (threshold_in n time) m) is in
    let has = needs_have n e arc term needs.0 h of_arc needs.1 in
    (has.need.value, subst (λ (place : ℕ). StandsOn m place has.need.value) has.on_it (need_stands (threshold_in n time) m needs.0 has.need needs.2 has.is_in), has.is_instance)
