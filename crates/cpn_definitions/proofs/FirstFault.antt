-- The first fault is the fault: what stands behind it is not evaluated, nor what `andalso`, `orelse`, `if` and `case` do not
-- need.
use Rattle.std.proofs.Common.{◌≡◌, ℕ, ◌+◌, true, false, List, [], ◌∷◌, ◌++◌, Some, None, refl, sym, ap, ◌∙◌, subst, arith}
use Rattle.cpn_definitions.specs.Value.{PlainValue, boolean}
use Rattle.cpn_definitions.specs.Colour.{PlainColour}
use Rattle.cpn_definitions.specs.Outcome.{Fault, gives, faults}
use Rattle.cpn_definitions.specs.Inscription.{PlainPattern, PlainExpr, conjunction, disjunction, choose, select, PlainArms, more_arms, exprs_from, ArcInscription, inscriptions_from}
use Rattle.cpn_definitions.specs.Matching.{matched}
use Rattle.cpn_definitions.specs.Meaning.{Setting, meant, meant_each}
use Rattle.cpn_definitions.specs.Terms.{PlainTerm, tokens_in, terms_behind, terms_of_each}
use Rattle.cpn_definitions.proofs.Outcomes.{bound_parts, same_given}
use Rattle.cpn_definitions.proofs.TokenCounts.{tokens_of_both}

-- where the parts before it have values, the fault of a part is that of all, whatever parts follow
pub fault_of_a_part : (es more : List PlainExpr) (e : PlainExpr) (s : Setting) (locals vs : List PlainValue) (fault : Fault) → meant_each (exprs_from es) s locals ≡ gives vs → meant e s locals ≡ faults fault →
    meant_each (exprs_from (es ++ e ∷ more)) s locals ≡ faults fault
fault_of_a_part [] more e s locals vs fault before is = rw is refl
fault_of_a_part (d ∷ es) more e s locals vs fault before is =
    let first = bound_parts (meant d s locals) _ vs before in
    let rest = bound_parts (meant_each (exprs_from es) s locals) _ vs first.2 in
    rw (first.1, fault_of_a_part es more e s locals rest.0 fault rest.1 is) refl

-- where the parts of a sum before it have terms, the fault of a part behind their tokens is that of the sum, whatever parts
-- follow
pub fault_of_a_sum : (ms more : List ArcInscription) (m : ArcInscription) (colour : PlainColour) (s : Setting) (locals : List PlainValue) (before : ℕ) (xs : List PlainTerm) (fault : Fault) →
    terms_of_each (inscriptions_from ms) colour s locals before ≡ gives xs → terms_behind m colour s locals (before + tokens_in xs) ≡ faults fault → terms_of_each (inscriptions_from (ms ++ m ∷ more)) colour s locals before ≡ faults fault
fault_of_a_sum [] more m colour s locals before xs fault first is =
    let none : tokens_in xs ≡ 0 = ap tokens_in (sym (same_given [] xs first)) in
    let here : before + tokens_in xs ≡ before = omega arith in
    rw (subst (λ n. terms_behind m colour s locals n ≡ faults fault) here is) refl
fault_of_a_sum (l ∷ ms) more m colour s locals before xs fault first is =
    let part = bound_parts (terms_behind l colour s locals before) _ xs first in
    let rest = bound_parts (terms_of_each (inscriptions_from ms) colour s locals (before + tokens_in part.0)) _ xs part.2 in
    let all : tokens_in xs ≡ tokens_in part.0 + tokens_in rest.0 = ap tokens_in (sym (same_given (part.0 ++ rest.0) xs rest.2)) ∙ tokens_of_both part.0 rest.0 in
    let here : before + tokens_in xs ≡ before + tokens_in part.0 + tokens_in rest.0 = omega arith in
    rw (part.1, fault_of_a_sum ms more m colour s locals (before + tokens_in part.0) rest.0 fault rest.1 (subst (λ n. terms_behind m colour s locals n ≡ faults fault) here is)) refl

-- ---- what is not needed

pub false_is_enough : (e f : PlainExpr) (s : Setting) (locals : List PlainValue) → meant e s locals ≡ gives (boolean false) → meant (conjunction e f) s locals ≡ gives (boolean false)
false_is_enough e f s locals is = rw is refl

pub true_is_enough : (e f : PlainExpr) (s : Setting) (locals : List PlainValue) → meant e s locals ≡ gives (boolean true) → meant (disjunction e f) s locals ≡ gives (boolean true)
true_is_enough e f s locals is = rw is refl

pub first_branch : (c e f : PlainExpr) (s : Setting) (locals : List PlainValue) → meant c s locals ≡ gives (boolean true) → meant (choose c e f) s locals ≡ meant e s locals
first_branch c e f s locals is = rw is refl

pub second_branch : (c e f : PlainExpr) (s : Setting) (locals : List PlainValue) → meant c s locals ≡ gives (boolean false) → meant (choose c e f) s locals ≡ meant f s locals
second_branch c e f s locals is = rw is refl

-- the first arm that matches counts, whatever arms follow; one that does not match is passed over
pub arm_that_matches : (e body : PlainExpr) (p : PlainPattern) (arms : PlainArms) (s : Setting) (locals vs : List PlainValue) (v : PlainValue) → meant e s locals ≡ gives v → matched p v ≡ Some vs →
    meant (select e (more_arms p body arms)) s locals ≡ meant body s (locals ++ vs)
arm_that_matches e body p arms s locals vs v is fits = rw (is, fits) refl

pub arm_that_does_not : (e body : PlainExpr) (p : PlainPattern) (arms : PlainArms) (s : Setting) (locals : List PlainValue) (v : PlainValue) → meant e s locals ≡ gives v → matched p v ≡ None →
    meant (select e (more_arms p body arms)) s locals ≡ meant (select e arms) s locals
arm_that_does_not e body p arms s locals v is misfit = rw (is, misfit) refl
