-- A delay of a term is at most the last time.
use Rattle.std.proofs.Common.{◌≡◌, ℕ, ◌+◌, Bool, true, false, cond, nat_le, List, [], ◌∷◌, ◌++◌, map, refl, subst}
use Rattle.std.specs.List.{list_all}
use Rattle.std.proofs.lemmas.Bool.{and_parts, and_from}
use Rattle.cpn_definitions.specs.Value.{PlainValue, int}
use Rattle.cpn_definitions.specs.Colour.{PlainColour}
use Rattle.cpn_definitions.specs.Outcome.{gives, faults, ◌>>=◌, too_large, bad_delay}
use Rattle.cpn_definitions.specs.Inscription.{PlainExpr, literal, ArcInscription, no_token, one, times, sum_of, later, stamped, chosen, selected, bound, ArcInscriptions, no_inscriptions, more_inscriptions, ArcArms, no_arc_arms, more_arc_arms, Functions}
use Rattle.cpn_definitions.specs.Matching.{matched}
use Rattle.cpn_definitions.specs.Operations.{truth_in}
use Rattle.cpn_definitions.specs.Meaning.{PlainBinding, Setting, meant, setting_of}
use Rattle.cpn_definitions.specs.Times.{last_time}
use Rattle.cpn_definitions.specs.Terms.{PlainTerm, most_tokens, in_colour, coefficient_of, written_delay, tokens_in, counted, delayed_by, may_be_delayed, then_delayed, term_of, lone_term, is_lone, later_terms, terms_behind, terms_of_each, terms_among, terms_of}
use Rattle.cpn_definitions.proofs.Outcomes.{bound_parts, same_given}
use Rattle.cpn_definitions.proofs.Terms.{one_of_both, one_arm}

-- no term has a delay above the last time
abbrev pub AreInRange : List PlainTerm → Type 0
AreInRange terms = list_all (λ term. nat_le term.delay last_time) terms ≡ true

both_in_range : (xs ys : List PlainTerm) → AreInRange xs → AreInRange ys → AreInRange (xs ++ ys)
both_in_range [] ys first second = second
both_in_range (x ∷ xs) ys first second =
    let parts = and_parts (nat_le x.delay last_time) (list_all (λ (term : PlainTerm). nat_le term.delay last_time) xs) first in
    and_from _ _ parts.0 (both_in_range xs ys parts.1 second)

counted_same : (before : ℕ) (xs terms : List PlainTerm) → counted before xs ≡ gives terms → xs ≡ terms
counted_same before xs terms is = split (nat_le (before + tokens_in xs) most_tokens) is
  where
    split : (b : Bool) → cond b (gives xs) (faults too_large) ≡ gives terms → xs ≡ terms
    split true h = same_given xs terms h
    split false h = cc

may_be_in_range : (n : ℕ) (xs : List PlainTerm) → list_all (may_be_delayed n) xs ≡ true → AreInRange (map (delayed_by n) xs)
may_be_in_range n [] may = refl
may_be_in_range n (x ∷ xs) may =
    let parts = and_parts (may_be_delayed n x) (list_all (may_be_delayed n) xs) may in
    and_from _ _ parts.0 (may_be_in_range n xs parts.1)

delayed_in_range : (delay : PlainExpr) (s : Setting) (locals : List PlainValue) (xs terms : List PlainTerm) → then_delayed delay s locals xs ≡ gives terms → AreInRange terms
delayed_in_range delay s locals xs terms is =
    let first = bound_parts (meant delay s locals) _ terms is in
    let second = bound_parts (written_delay first.0) _ terms first.2 in
    split second.0 (list_all (may_be_delayed second.0) xs) refl second.2
  where
    split : (n : ℕ) (b : Bool) → list_all (may_be_delayed n) xs ≡ b → cond b (gives (map (delayed_by n) xs)) (faults bad_delay) ≡ gives terms → AreInRange terms
    split n true may h = subst AreInRange (same_given (map (delayed_by n) xs) terms h) (may_be_in_range n xs may)
    split n false may h = cc

later_in_range : (m : ArcInscription) (delay : PlainExpr) (colour : PlainColour) (s : Setting) (locals : List PlainValue) (before : ℕ) (terms : List PlainTerm) (b : Bool)
    → later_terms b (lone_term m colour s locals) (terms_behind m colour s locals before) (then_delayed delay s locals) before ≡ gives terms → AreInRange terms
later_in_range m delay colour s locals before terms true is =
    let first = bound_parts (lone_term m colour s locals >>= then_delayed delay s locals) _ terms is in
    let second = bound_parts (lone_term m colour s locals) _ first.0 first.1 in
    subst AreInRange (counted_same before first.0 terms first.2) (delayed_in_range delay s locals second.0 first.0 second.2)
later_in_range m delay colour s locals before terms false is =
    let first = bound_parts (terms_behind m colour s locals before) _ terms is in
    delayed_in_range delay s locals first.0 terms first.2

term_in_range : (e : PlainExpr) (colour : PlainColour) (s : Setting) (locals : List PlainValue) (count : ℕ) (terms : List PlainTerm) → term_of e colour s locals count ≡ gives terms → AreInRange terms
term_in_range e colour s locals count terms is =
    let first = bound_parts (meant e s locals) _ terms is in
    let second = bound_parts (in_colour colour first.0) _ terms first.2 in
    subst AreInRange (same_given (record { value = second.0; count = count; delay = 0 } ∷ []) terms second.2) refl

mutual
  pub terms_in_range : (m : ArcInscription) (colour : PlainColour) (s : Setting) (locals : List PlainValue) (before : ℕ) (terms : List PlainTerm) → terms_behind m colour s locals before ≡ gives terms → AreInRange terms
  terms_in_range no_token colour s locals before terms is = subst AreInRange (same_given [] terms is) refl
  terms_in_range (one e) colour s locals before terms is =
      let first = bound_parts (lone_term (one e) colour s locals) _ terms is in
      subst AreInRange (counted_same before first.0 terms first.2) (term_in_range e colour s locals 1 first.0 first.1)
  terms_in_range (times k e) colour s locals before terms is =
      let first = bound_parts (lone_term (times k e) colour s locals) _ terms is in
      let second = bound_parts (meant k s locals) _ first.0 first.1 in
      let third = bound_parts (coefficient_of second.0) _ first.0 second.2 in
      subst AreInRange (counted_same before first.0 terms first.2) (term_in_range e colour s locals third.0 first.0 third.2)
  terms_in_range (sum_of ms) colour s locals before terms is = sum_in_range ms colour s locals before terms is
  terms_in_range (later m delay) colour s locals before terms is = later_in_range m delay colour s locals before terms (is_lone m) is
  terms_in_range (stamped m stamp) colour s locals before terms is = later_in_range m (literal (int stamp)) colour s locals before terms (is_lone m) is
  terms_in_range (chosen c m n) colour s locals before terms is =
      let first = bound_parts (meant c s locals) _ terms is in
      let second = bound_parts (truth_in first.0) _ terms first.2 in
      one_of_both AreInRange second.0 (terms_behind m colour s locals before) (terms_behind n colour s locals before) terms
      (λ xs h. terms_in_range m colour s locals before xs h) (λ xs h. terms_in_range n colour s locals before xs h) second.2
  terms_in_range (selected e arms) colour s locals before terms is =
      let first = bound_parts (meant e s locals) _ terms is in
      arm_in_range arms first.0 colour s locals before terms first.2
  terms_in_range (bound e m) colour s locals before terms is =
      let first = bound_parts (meant e s locals) _ terms is in
      terms_in_range m colour s (locals ++ first.0 ∷ []) before terms first.2

  sum_in_range : (ms : ArcInscriptions) (colour : PlainColour) (s : Setting) (locals : List PlainValue) (before : ℕ) (terms : List PlainTerm) → terms_of_each ms colour s locals before ≡ gives terms → AreInRange terms
  sum_in_range no_inscriptions colour s locals before terms is = subst AreInRange (same_given [] terms is) refl
  sum_in_range (more_inscriptions m ms) colour s locals before terms is =
      let first = bound_parts (terms_behind m colour s locals before) _ terms is in
      let second = bound_parts (terms_of_each ms colour s locals (before + tokens_in first.0)) _ terms first.2 in
      subst AreInRange (same_given (first.0 ++ second.0) terms second.2)
      (both_in_range first.0 second.0 (terms_in_range m colour s locals before first.0 first.1) (sum_in_range ms colour s locals (before + tokens_in first.0) second.0 second.1))

  arm_in_range : (arms : ArcArms) (v : PlainValue) (colour : PlainColour) (s : Setting) (locals : List PlainValue) (before : ℕ) (terms : List PlainTerm) → terms_among arms v colour s locals before ≡ gives terms → AreInRange terms
  arm_in_range no_arc_arms v colour s locals before terms is = cc
  arm_in_range (more_arc_arms p m arms) v colour s locals before terms is =
      one_arm AreInRange (matched p v) (λ vs. terms_behind m colour s (locals ++ vs) before) (terms_among arms v colour s locals before) terms
      (λ vs xs h. terms_in_range m colour s (locals ++ vs) before xs h) (λ xs h. arm_in_range arms v colour s locals before xs h) is

pub delays_in_range : (funs : Functions) (m : ArcInscription) (colour : PlainColour) (b : PlainBinding) (time : ℕ) (terms : List PlainTerm) → terms_of funs m colour b time ≡ gives terms → AreInRange terms
delays_in_range funs m colour b time terms is = terms_in_range m colour (setting_of funs b time) [] 0 terms is
