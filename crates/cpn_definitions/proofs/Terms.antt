-- The terms of an inscription have values of its colour set, and delays that are no later than the last time.
use Rattle.std.proofs.Common.{◌≡◌, ℕ, ◌+◌, ◌≤◌, Bool, true, false, cond, nat_le, List, [], ◌∷◌, ◌++◌, map, Option, Some, None, refl, subst, arith, leb-true}
use Rattle.std.specs.List.{list_all, AllByRecursion}
use Rattle.std.proofs.lemmas.Bool.{and_parts}
use Rattle.cpn_definitions.specs.Value.{PlainValue, int}
use Rattle.cpn_definitions.specs.Colour.{PlainColour, admits}
use Rattle.cpn_definitions.specs.Outcome.{Outcome, gives, faults, no_meaning, ◌>>=◌, not_in_colour, too_large, bad_delay}
use Rattle.cpn_definitions.specs.Inscription.{PlainExpr, literal, ArcInscription, no_token, one, times, sum_of, later, stamped, chosen, selected, bound, ArcInscriptions, no_inscriptions, more_inscriptions, ArcArms, no_arc_arms, more_arc_arms, Functions}
use Rattle.cpn_definitions.specs.Matching.{matched}
use Rattle.cpn_definitions.specs.Operations.{truth_in}
use Rattle.cpn_definitions.specs.Meaning.{PlainBinding, Setting, meant, meaning, arm_or}
use Rattle.cpn_definitions.specs.Terms.{PlainTerm, most_tokens, in_colour, coefficient_of, written_delay, tokens_in, counted, delayed_by, may_be_delayed, then_delayed, term_of, lone_term, is_lone, later_terms, terms_behind, terms_of_each, terms_among, terms_of}
use Rattle.cpn_definitions.specs.Times.{last_time}
use Rattle.cpn_definitions.proofs.Outcomes.{bound_parts, same_given}
use Rattle.cpn_definitions.proofs.RisingLists.{each_appended}

-- a value of the colour set, and a delay no later than the last time
abbrev pub IsTermOf : PlainColour → PlainTerm → Type 0
IsTermOf colour term = (admits colour term.value ≡ true) × (term.delay ≤ last_time)

abbrev pub AreTermsOf : PlainColour → List PlainTerm → Type 0
AreTermsOf colour terms = AllByRecursion (IsTermOf colour) terms

pub admitted_in : (colour : PlainColour) (v w : PlainValue) → in_colour colour v ≡ gives w → admits colour w ≡ true
admitted_in colour v w is = split (admits colour v) refl is
  where
    split : (b : Bool) → admits colour v ≡ b → cond b (gives v) (faults not_in_colour) ≡ gives w → admits colour w ≡ true
    split true fits h = subst (λ u. admits colour u ≡ true) (same_given v w h) fits
    split false misfit h = cc

-- a value that is tested and given is the one that was there
given_if : {A : Type 0} (b : Bool) (x y : A) → cond b (gives x) (faults too_large) ≡ gives y → x ≡ y
given_if true x y h = same_given x y h
given_if false x y h = cc

first_term : (e : PlainExpr) (colour : PlainColour) (s : Setting) (locals : List PlainValue) (count : ℕ) (terms : List PlainTerm) → term_of e colour s locals count ≡ gives terms → AreTermsOf colour terms
first_term e colour s locals count terms is =
    let first = bound_parts (meant e s locals) _ terms is in
    let second = bound_parts (in_colour colour first.0) _ terms first.2 in
    subst (AreTermsOf colour) (same_given (record { value = second.0; count = count; delay = 0 } ∷ []) terms second.2) ((admitted_in colour first.0 second.0 second.1, none_is_least last_time), tt)
  where
    none_is_least : (n : ℕ) → 0 ≤ n
    none_is_least n = omega arith

lone : (m : ArcInscription) (colour : PlainColour) (s : Setting) (locals : List PlainValue) (terms : List PlainTerm) → lone_term m colour s locals ≡ gives terms → AreTermsOf colour terms
lone (one e) colour s locals terms is = first_term e colour s locals 1 terms is
lone (times k e) colour s locals terms is =
    let first = bound_parts (meant k s locals) _ terms is in
    let second = bound_parts (coefficient_of first.0) _ terms first.2 in
    first_term e colour s locals second.0 terms second.2
lone no_token colour s locals terms is = cc
lone (sum_of ms) colour s locals terms is = cc
lone (later m delay) colour s locals terms is = cc
lone (stamped m stamp) colour s locals terms is = cc
lone (chosen c m n) colour s locals terms is = cc
lone (selected e arms) colour s locals terms is = cc
lone (bound e m) colour s locals terms is = cc

-- with a delay more they are still such terms
each_delayed : (colour : PlainColour) (terms : List PlainTerm) (n : ℕ) → AreTermsOf colour terms → list_all (may_be_delayed n) terms ≡ true → AreTermsOf colour (map (delayed_by n) terms)
each_delayed colour [] n are h = tt
each_delayed colour (term ∷ terms) n are h =
    let parts = and_parts (may_be_delayed n term) (list_all (may_be_delayed n) terms) h in
    ((are.0.0, leb-true (term.delay + n) last_time parts.0), each_delayed colour terms n are.1 parts.1)

delayed : (colour : PlainColour) (delay : PlainExpr) (s : Setting) (locals : List PlainValue) (before after : List PlainTerm) → AreTermsOf colour before → then_delayed delay s locals before ≡ gives after → AreTermsOf colour after
delayed colour delay s locals before after are is =
    let first = bound_parts (meant delay s locals) _ after is in
    let second = bound_parts (written_delay first.0) _ after first.2 in
    split second.0 (list_all (may_be_delayed second.0) before) refl second.2
  where
    split : (n : ℕ) (b : Bool) → list_all (may_be_delayed n) before ≡ b → cond b (gives (map (delayed_by n) before)) (faults bad_delay) ≡ gives after → AreTermsOf colour after
    split n true h now = subst (AreTermsOf colour) (same_given (map (delayed_by n) before) after now) (each_delayed colour before n are h)
    split n false h now = cc

counted_terms : (colour : PlainColour) (before : ℕ) (o : Outcome (List PlainTerm)) (terms : List PlainTerm) → ((xs : List PlainTerm) → o ≡ gives xs → AreTermsOf colour xs) → (o >>= counted before) ≡ gives terms → AreTermsOf colour terms
counted_terms colour before o terms are is =
    let first = bound_parts o _ terms is in
    subst (AreTermsOf colour) (given_if (nat_le (before + tokens_in first.0) most_tokens) first.0 terms first.2) (are first.0 first.1)

behind_delay : (colour : PlainColour) (m : ArcInscription) (delay : PlainExpr) (s : Setting) (locals : List PlainValue) (before : ℕ) (terms : List PlainTerm) →
    ((xs : List PlainTerm) → terms_behind m colour s locals before ≡ gives xs → AreTermsOf colour xs) → (b : Bool) →
    later_terms b (lone_term m colour s locals) (terms_behind m colour s locals before) (then_delayed delay s locals) before ≡ gives terms → AreTermsOf colour terms
behind_delay colour m delay s locals before terms are true is =
    counted_terms colour before (lone_term m colour s locals >>= then_delayed delay s locals) terms (λ xs h. let first = bound_parts (lone_term m colour s locals) _ xs h in delayed colour delay s locals first.0 xs (lone m colour s locals first.0 first.1) first.2) is
behind_delay colour m delay s locals before terms are false is =
    let first = bound_parts (terms_behind m colour s locals before) _ terms is in
    delayed colour delay s locals first.0 terms (are first.0 first.1) first.2

-- what holds of what either of two outcomes gives, by a truth value or by a match
pub one_of_both : {A : Type 0} (P : A → Type 0) (b : Bool) (o p : Outcome A) (x : A) → ((y : A) → o ≡ gives y → P y) → ((y : A) → p ≡ gives y → P y) → cond b o p ≡ gives x → P x
one_of_both P true o p x first second is = first x is
one_of_both P false o p x first second is = second x is

pub one_arm : {A : Type 0} (P : A → Type 0) (found : Option (List PlainValue)) (arm : List PlainValue → Outcome A) (later_arms : Outcome A) (x : A) → ((vs : List PlainValue) (y : A) → arm vs ≡ gives y → P y) → ((y : A) → later_arms ≡ gives y → P y) → arm_or found arm later_arms ≡ gives x → P x
one_arm P None arm later_arms x first second is = second x is
one_arm P (Some vs) arm later_arms x first second is = first vs x is

mutual
  pub terms_are : (m : ArcInscription) (colour : PlainColour) (s : Setting) (locals : List PlainValue) (before : ℕ) (terms : List PlainTerm) → terms_behind m colour s locals before ≡ gives terms → AreTermsOf colour terms
  terms_are no_token colour s locals before terms is = subst (AreTermsOf colour) (same_given [] terms is) tt
  terms_are (one e) colour s locals before terms is = counted_terms colour before (lone_term (one e) colour s locals) terms (λ xs h. lone (one e) colour s locals xs h) is
  terms_are (times k e) colour s locals before terms is = counted_terms colour before (lone_term (times k e) colour s locals) terms (λ xs h. lone (times k e) colour s locals xs h) is
  terms_are (sum_of ms) colour s locals before terms is = terms_of_each_are ms colour s locals before terms is
  terms_are (later m delay) colour s locals before terms is = behind_delay colour m delay s locals before terms (λ xs h. terms_are m colour s locals before xs h) (is_lone m) is
  terms_are (stamped m stamp) colour s locals before terms is = behind_delay colour m (literal (int stamp)) s locals before terms (λ xs h. terms_are m colour s locals before xs h) (is_lone m) is
  terms_are (chosen c m n) colour s locals before terms is =
      let first = bound_parts (meant c s locals) _ terms is in
      let second = bound_parts (truth_in first.0) _ terms first.2 in
      one_of_both (AreTermsOf colour) second.0 (terms_behind m colour s locals before) (terms_behind n colour s locals before) terms
      (λ xs h. terms_are m colour s locals before xs h) (λ xs h. terms_are n colour s locals before xs h) second.2
  terms_are (selected e arms) colour s locals before terms is =
      let first = bound_parts (meant e s locals) _ terms is in
      terms_among_are arms first.0 colour s locals before terms first.2
  terms_are (bound e m) colour s locals before terms is =
      let first = bound_parts (meant e s locals) _ terms is in
      terms_are m colour s (locals ++ first.0 ∷ []) before terms first.2

  terms_of_each_are : (ms : ArcInscriptions) (colour : PlainColour) (s : Setting) (locals : List PlainValue) (before : ℕ) (terms : List PlainTerm) → terms_of_each ms colour s locals before ≡ gives terms → AreTermsOf colour terms
  terms_of_each_are no_inscriptions colour s locals before terms is = subst (AreTermsOf colour) (same_given [] terms is) tt
  terms_of_each_are (more_inscriptions m ms) colour s locals before terms is =
      let first = bound_parts (terms_behind m colour s locals before) _ terms is in
      let second = bound_parts (terms_of_each ms colour s locals (before + tokens_in first.0)) _ terms first.2 in
      subst (AreTermsOf colour) (same_given (first.0 ++ second.0) terms second.2)
      (each_appended (IsTermOf colour) first.0 second.0 (terms_are m colour s locals before first.0 first.1) (terms_of_each_are ms colour s locals (before + tokens_in first.0) second.0 second.1))

  terms_among_are : (arms : ArcArms) (v : PlainValue) (colour : PlainColour) (s : Setting) (locals : List PlainValue) (before : ℕ) (terms : List PlainTerm) → terms_among arms v colour s locals before ≡ gives terms → AreTermsOf colour terms
  terms_among_are no_arc_arms v colour s locals before terms is = cc
  terms_among_are (more_arc_arms p m arms) v colour s locals before terms is =
      one_arm (AreTermsOf colour) (matched p v) (λ vs. terms_behind m colour s (locals ++ vs) before) (terms_among arms v colour s locals before) terms
      (λ vs xs h. terms_are m colour s (locals ++ vs) before xs h) (λ xs h. terms_among_are arms v colour s locals before xs h) is

-- the one term of an inscription that stands for one token
abbrev pub one_term : PlainColour → Outcome PlainValue → Outcome (List PlainTerm)
one_term colour o = o >>= (λ v. in_colour colour v >>= (λ token. gives (record { value = token; count = 1; delay = 0 } ∷ [])))

pub one_token : (funs : Functions) (e : PlainExpr) (colour : PlainColour) (b : PlainBinding) (time : ℕ) → terms_of funs (one e) colour b time ≡ one_term colour (meaning funs e b time)
one_token funs e colour b time = by_value (meaning funs e b time)
  where
    by_token : (o : Outcome PlainValue) → ((o >>= (λ token. gives (record { value = token; count = 1; delay = 0 } ∷ []))) >>= counted 0) ≡ (o >>= (λ token. gives (record { value = token; count = 1; delay = 0 } ∷ [])))
    by_token (gives v) = refl
    by_token (faults fault) = refl
    by_token no_meaning = refl

    by_value : (o : Outcome PlainValue) → (one_term colour o >>= counted 0) ≡ one_term colour o
    by_value (gives v) = by_token (in_colour colour v)
    by_value (faults fault) = refl
    by_value no_meaning = refl
