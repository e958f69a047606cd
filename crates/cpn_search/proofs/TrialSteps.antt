-- One value of a trial more.
use Rattle.std.proofs.Common.{◌≡◌, ℕ, suc, ◌+◌, ◌<◌, Bool, true, false, nat_lt, List, ◌∷◌, ◌++◌, drop, length, get_or, Some, sym, ap, ◌∙◌, subst, add-one, drop-cons, append-nil, ltb-true}
use Rattle.std.specs.Bool.{OnTrue, OnFalse}
use Rattle.std.specs.List.{list_all}
use Rattle.std.proofs.lemmas.Bool.{and_parts}
use Rattle.cpn_definitions.specs.Value.{PlainValue}
use Rattle.cpn_definitions.specs.Inscription.{PlainPattern}
use Rattle.cpn_definitions.specs.Net.{PlainNet}
use Rattle.cpn_stages.specs.Partial.{PlainPartial, variables_in, Extends}
use Rattle.cpn_stages.specs.Instances.{Matches, MatchesNot}
use Rattle.cpn_stages.specs.Fitting.{fitted}
use Rattle.cpn_stages.specs.Trials.{kept}
use Rattle.cpn_stages.proofs.Partials.{extends_variables}
use Rattle.cpn_stages.proofs.FittedMatches.{match_is_fitted, unmatched_is_unfitted}
use Rattle.cpn_match.specs.declared.partials.PartialPair.{PartialPair}
use Rattle.cpn_match.specs.Pairs.{pairs_view}
use Rattle.cpn_search.specs.TrialViews.{PlainUnderWay, after}
use Rattle.cpn_search.specs.Searches.{AreDeclared}

-- ---- declared variables

pub first_declared : (pairs : List PartialPair) (i : ℕ) (p : PartialPair) (k : ℕ) → i < length pairs → p ≡ get_or pairs i p → AreDeclared k (pairs_view (drop i pairs)) → p.variable < k
first_declared pairs i p k lt is declared =
    let split : drop i pairs ≡ p ∷ drop (suc i) pairs = drop-cons pairs i p lt ∙ ap (λ x. x ∷ drop (suc i) pairs) (sym is) in
    let parts = and_parts (nat_lt p.variable k) (list_all (λ x. nat_lt x k) (variables_in (pairs_view (drop (suc i) pairs)))) (subst (λ (ps : List PartialPair). list_all (λ x. nat_lt x k) (variables_in (pairs_view ps)) ≡ true) split declared.all) in
    ltb-true p.variable k parts.0

pub others_declared : (pairs : List PartialPair) (i : ℕ) (p : PartialPair) (k : ℕ) → i < length pairs → p ≡ get_or pairs i p → AreDeclared k (pairs_view (drop i pairs)) → AreDeclared k (pairs_view (drop (i + 1) pairs))
others_declared pairs i p k lt is declared =
    let split : drop i pairs ≡ p ∷ drop (suc i) pairs = drop-cons pairs i p lt ∙ ap (λ x. x ∷ drop (suc i) pairs) (sym is) in
    let parts = and_parts (nat_lt p.variable k) (list_all (λ x. nat_lt x k) (variables_in (pairs_view (drop (suc i) pairs)))) (subst (λ (ps : List PartialPair). list_all (λ x. nat_lt x k) (variables_in (pairs_view ps)) ≡ true) split declared.all) in
    rw add-one (record { all = parts.1 })

pub declared_too : (k : ℕ) (b c : PlainPartial) → Extends b c → AreDeclared k b → AreDeclared k c
declared_too k b c is declared = record { all = subst (λ (xs : List ℕ). list_all (λ x. nat_lt x k) xs ≡ true) (sym (extends_variables b c is)) declared.all }

pub declared_matched : (k : ℕ) (b c : PlainPartial) (p : PlainPattern) (v : PlainValue) → Matches b p v c → AreDeclared k b → AreDeclared k c
declared_matched k b c p v is all = declared_too k b c is.makes.extends all

-- what is kept of a match, and of none
pub kept_matched
    : (n : PlainNet) (p : PlainPattern) (v : PlainValue) (b c : PlainPartial) (tried : ℕ) (old new : List PlainUnderWay) (is : Bool)
    → is ≡ true → OnTrue is (Matches b p v c) → new ≡ old ++ after tried (kept n (Some c)) → new ≡ old ++ after tried (kept n (fitted p v b))
kept_matched n p v b c tried old new true is matches added = added ∙ ap (λ o. old ++ after tried (kept n o)) (sym (match_is_fitted b c p v matches))
kept_matched n p v b c tried old new false is matches added = cc

pub kept_unmatched
    : (n : PlainNet) (p : PlainPattern) (v : PlainValue) (b : PlainPartial) (tried : ℕ) (old : List PlainUnderWay) (is : Bool)
    → is ≡ false → OnFalse is (MatchesNot b p v) → old ≡ old ++ after tried (kept n (fitted p v b))
kept_unmatched n p v b tried old true is unmatched = cc
kept_unmatched n p v b tried old false is unmatched = sym (append-nil old) ∙ ap (λ o. old ++ after tried (kept n o)) (sym (unmatched_is_unfitted b p v unmatched))
