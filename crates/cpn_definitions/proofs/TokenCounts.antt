-- An inscription that has terms has at most 65,536 tokens, and a value that an operation makes at most 65,536 nodes.
use Rattle.std.proofs.Common.{◌≡◌, ℕ, ◌+◌, ◌≤◌, Bool, true, false, cond, nat_le, List, [], ◌∷◌, ◌++◌, map, refl, sym, ap, subst, arith, leb-true}
use Rattle.std.specs.List.{list_all}
use Rattle.cpn_definitions.specs.Value.{PlainValue, int, nodes_of}
use Rattle.cpn_definitions.specs.Colour.{PlainColour}
use Rattle.cpn_definitions.specs.Outcome.{gives, faults, ◌>>=◌, too_large, bad_delay}
use Rattle.cpn_definitions.specs.Inscription.{PlainExpr, literal, ArcInscription, no_token, one, times, sum_of, later, stamped, chosen, selected, bound, ArcInscriptions, no_inscriptions, more_inscriptions, ArcArms, no_arc_arms, more_arc_arms, Functions}
use Rattle.cpn_definitions.specs.Matching.{matched}
use Rattle.cpn_definitions.specs.Operations.{most_nodes, sized, truth_in}
use Rattle.cpn_definitions.specs.Meaning.{PlainBinding, Setting, meant, setting_of}
use Rattle.cpn_definitions.specs.Terms.{PlainTerm, most_tokens, written_delay, tokens_in, counted, delayed_by, may_be_delayed, then_delayed, lone_term, is_lone, later_terms, terms_behind, terms_of_each, terms_among, terms_of}
use Rattle.cpn_definitions.proofs.Outcomes.{bound_parts, same_given}
use Rattle.cpn_definitions.proofs.Terms.{one_of_both, one_arm}

-- ---- nodes

pub sized_is_small : (v w : PlainValue) → sized v ≡ gives w → nodes_of w ≤ most_nodes
sized_is_small v w is = split (nat_le (nodes_of v) most_nodes) refl is
  where
    split : (b : Bool) → nat_le (nodes_of v) most_nodes ≡ b → cond b (gives v) (faults too_large) ≡ gives w → nodes_of w ≤ most_nodes
    split true fits h = subst (λ u. nodes_of u ≤ most_nodes) (same_given v w h) (leb-true (nodes_of v) most_nodes fits)
    split false misfit h = cc

-- ---- tokens

-- of so many tokens before, and the terms, there are not too many
abbrev AreFew : ℕ → List PlainTerm → Type 0
AreFew before terms = before + tokens_in terms ≤ most_tokens

pub tokens_of_both : (xs ys : List PlainTerm) → tokens_in (xs ++ ys) ≡ tokens_in xs + tokens_in ys
tokens_of_both [] ys = omega arith
tokens_of_both (x ∷ xs) ys = let rest = tokens_of_both xs ys in omega arith

tokens_delayed : (n : ℕ) (xs : List PlainTerm) → tokens_in (map (delayed_by n) xs) ≡ tokens_in xs
tokens_delayed n [] = refl
tokens_delayed n (x ∷ xs) = ap (λ k. x.count + k) (tokens_delayed n xs)

counted_are_few : (before : ℕ) (xs terms : List PlainTerm) → counted before xs ≡ gives terms → AreFew before terms
counted_are_few before xs terms is = split (nat_le (before + tokens_in xs) most_tokens) refl is
  where
    split : (b : Bool) → nat_le (before + tokens_in xs) most_tokens ≡ b → cond b (gives xs) (faults too_large) ≡ gives terms → AreFew before terms
    split true fits h = subst (AreFew before) (same_given xs terms h) (leb-true (before + tokens_in xs) most_tokens fits)
    split false misfit h = cc

delayed_are_few : (delay : PlainExpr) (s : Setting) (locals : List PlainValue) (before : ℕ) (xs terms : List PlainTerm) → then_delayed delay s locals xs ≡ gives terms → AreFew before xs → AreFew before terms
delayed_are_few delay s locals before xs terms is few =
    let first = bound_parts (meant delay s locals) _ terms is in
    let second = bound_parts (written_delay first.0) _ terms first.2 in
    split second.0 (list_all (may_be_delayed second.0) xs) second.2
  where
    split : (n : ℕ) (b : Bool) → cond b (gives (map (delayed_by n) xs)) (faults bad_delay) ≡ gives terms → AreFew before terms
    split n true h = subst (AreFew before) (same_given (map (delayed_by n) xs) terms h) (subst (λ k. before + k ≤ most_tokens) (sym (tokens_delayed n xs)) few)
    split n false h = cc

behind_delay : (m : ArcInscription) (delay : PlainExpr) (colour : PlainColour) (s : Setting) (locals : List PlainValue) (before : ℕ) (terms : List PlainTerm) → ((xs : List PlainTerm) → terms_behind m colour s locals before ≡ gives xs → AreFew before xs) → (b : Bool) →
    later_terms b (lone_term m colour s locals) (terms_behind m colour s locals before) (then_delayed delay s locals) before ≡ gives terms → AreFew before terms
behind_delay m delay colour s locals before terms few true is =
    let first = bound_parts (lone_term m colour s locals >>= then_delayed delay s locals) _ terms is in
    counted_are_few before first.0 terms first.2
behind_delay m delay colour s locals before terms few false is =
    let first = bound_parts (terms_behind m colour s locals before) _ terms is in
    delayed_are_few delay s locals before first.0 terms first.2 (few first.0 first.1)

mutual
  pub terms_are_few : (m : ArcInscription) (colour : PlainColour) (s : Setting) (locals : List PlainValue) (before : ℕ) (terms : List PlainTerm) → before ≤ most_tokens → terms_behind m colour s locals before ≡ gives terms → AreFew before terms
  terms_are_few no_token colour s locals before terms few is = subst (AreFew before) (same_given [] terms is) (omega arith)
  terms_are_few (one e) colour s locals before terms few is = let first = bound_parts (lone_term (one e) colour s locals) _ terms is in counted_are_few before first.0 terms first.2
  terms_are_few (times k e) colour s locals before terms few is = let first = bound_parts (lone_term (times k e) colour s locals) _ terms is in counted_are_few before first.0 terms first.2
  terms_are_few (sum_of ms) colour s locals before terms few is = sum_is_few ms colour s locals before terms few is
  terms_are_few (later m delay) colour s locals before terms few is = behind_delay m delay colour s locals before terms (λ xs h. terms_are_few m colour s locals before xs few h) (is_lone m) is
  terms_are_few (stamped m stamp) colour s locals before terms few is = behind_delay m (literal (int stamp)) colour s locals before terms (λ xs h. terms_are_few m colour s locals before xs few h) (is_lone m) is
  terms_are_few (chosen c m n) colour s locals before terms few is =
      let first = bound_parts (meant c s locals) _ terms is in
      let second = bound_parts (truth_in first.0) _ terms first.2 in
      one_of_both (AreFew before) second.0 (terms_behind m colour s locals before) (terms_behind n colour s locals before) terms
      (λ xs h. terms_are_few m colour s locals before xs few h) (λ xs h. terms_are_few n colour s locals before xs few h) second.2
  terms_are_few (selected e arms) colour s locals before terms few is =
      let first = bound_parts (meant e s locals) _ terms is in
      arm_is_few arms first.0 colour s locals before terms few first.2
  terms_are_few (bound e m) colour s locals before terms few is =
      let first = bound_parts (meant e s locals) _ terms is in
      terms_are_few m colour s (locals ++ first.0 ∷ []) before terms few first.2

  sum_is_few : (ms : ArcInscriptions) (colour : PlainColour) (s : Setting) (locals : List PlainValue) (before : ℕ) (terms : List PlainTerm) → before ≤ most_tokens → terms_of_each ms colour s locals before ≡ gives terms → AreFew before terms
  sum_is_few no_inscriptions colour s locals before terms few is = subst (AreFew before) (same_given [] terms is) (omega arith)
  sum_is_few (more_inscriptions m ms) colour s locals before terms few is =
      let first = bound_parts (terms_behind m colour s locals before) _ terms is in
      let second = bound_parts (terms_of_each ms colour s locals (before + tokens_in first.0)) _ terms first.2 in
      let rest = sum_is_few ms colour s locals (before + tokens_in first.0) second.0 (terms_are_few m colour s locals before first.0 few first.1) second.1 in
      let both = tokens_of_both first.0 second.0 in
      subst (AreFew before) (same_given (first.0 ++ second.0) terms second.2) (omega arith)

  arm_is_few : (arms : ArcArms) (v : PlainValue) (colour : PlainColour) (s : Setting) (locals : List PlainValue) (before : ℕ) (terms : List PlainTerm) → before ≤ most_tokens → terms_among arms v colour s locals before ≡ gives terms → AreFew before terms
  arm_is_few no_arc_arms v colour s locals before terms few is = cc
  arm_is_few (more_arc_arms p m arms) v colour s locals before terms few is =
      one_arm (AreFew before) (matched p v) (λ vs. terms_behind m colour s (locals ++ vs) before) (terms_among arms v colour s locals before) terms
      (λ vs xs h. terms_are_few m colour s (locals ++ vs) before xs few h) (λ xs h. arm_is_few arms v colour s locals before xs few h) is

pub tokens_are_few : (funs : Functions) (m : ArcInscription) (colour : PlainColour) (b : PlainBinding) (time : ℕ) (terms : List PlainTerm) → terms_of funs m colour b time ≡ gives terms → tokens_in terms ≤ most_tokens
tokens_are_few funs m colour b time terms is = let few = terms_are_few m colour (setting_of funs b time) [] 0 terms (omega arith) is in omega arith
