-- How many tokens there are on a place after an element occurred: at most as many as before and those that it makes, which
-- are at most 65,536 for each of its output arcs.
use Rattle.std.proofs.Common.{◌≡◌, ℕ, suc, ◌+◌, ◌*◌, ◌≤◌, Bool, true, false, cond, List, [], ◌∷◌, ◌++◌, length, replicate, refl, ap, subst, arith, Ordering, is_lt}
use Rattle.std.specs.List.{list_any, flat_map}
use Rattle.std.proofs.lemmas.List.{length-replicate, length-append}
use Rattle.cpn_definitions.specs.Value.{PlainValue}
use Rattle.cpn_definitions.specs.Bounds.{most_made, IsBounded}
use Rattle.cpn_definitions.specs.Lists.{with_item, with_items, in_order}
use Rattle.cpn_definitions.specs.Marking.{PlainToken, Tokens, Marking, tokens_at, on_place, token_at, token_cmp, add_token, without_token, is_taken_by}
use Rattle.cpn_definitions.specs.Outcome.{gives}
use Rattle.cpn_definitions.specs.Net.{PlainArc, PlainNet, transition_at}
use Rattle.cpn_definitions.specs.Meaning.{PlainBinding}
use Rattle.cpn_definitions.specs.Terms.{PlainTerm, most_tokens, tokens_in, terms_of}
use Rattle.cpn_definitions.specs.Occurrence.{PlainElement, Needed, Made, made_cmp, gather, made_by, stamp_on, transition_delay, outputs_of, subtract, add_made}
use Rattle.cpn_definitions.specs.Sound.{IsSoundTransition}
use Rattle.cpn_definitions.proofs.Outcomes.{bound_parts, same_given}
use Rattle.cpn_definitions.proofs.ChangedPlaces.{tokens_on_place}
use Rattle.cpn_definitions.proofs.TokenCounts.{tokens_are_few}

-- ---- the tokens that an element makes

pub length-with_item : {X : Type 0} (c : X → X → Ordering) (x : X) (ys : List X) → length (with_item c x ys) ≡ suc (length ys)
length-with_item c x [] = refl
length-with_item c x (y ∷ ys) = split (is_lt (c x y)) (length-with_item c x ys)
  where
    split : (b : Bool) → length (with_item c x ys) ≡ suc (length ys) → length (cond b (x ∷ y ∷ ys) (y ∷ with_item c x ys)) ≡ suc (suc (length ys))
    split true rest = refl
    split false rest = ap (λ k. suc k) rest

pub length-with_items : {X : Type 0} (c : X → X → Ordering) (xs ys : List X) → length (with_items c xs ys) ≡ length xs + length ys
length-with_items c [] ys = omega arith
length-with_items c (x ∷ xs) ys = let rest = length-with_items c xs (with_item c x ys) in let one = length-with_item c x ys in omega (arith, rest, one)

pub length-in_order : {X : Type 0} (c : X → X → Ordering) (xs : List X) → length (in_order c xs) ≡ length xs
length-in_order c xs = let all = length-with_items c xs [] in omega (arith, all)

-- as many as the terms say
pub length-of_terms : {X : Type 0} (f : PlainTerm → X) (terms : List PlainTerm) → length (flat_map (λ term. replicate term.count (f term)) terms) ≡ tokens_in terms
length-of_terms f [] = refl
length-of_terms f (term ∷ terms) =
    let both = length-append (replicate term.count (f term)) (flat_map (λ t. replicate t.count (f t)) terms) in
    let own = length-replicate term.count (f term) in
    let rest = length-of_terms f terms in
    omega (arith, both, own, rest)

one_arc_is_few : (n : PlainNet) (b : PlainBinding) (time delay : ℕ) (arc : PlainArc) (made : List Made) → made_by n b time delay arc ≡ gives made → length made ≤ most_tokens
one_arc_is_few n b time delay arc made is =
    let first = bound_parts (terms_of n.functions arc.expr arc.colour b time) _ made is in
    let few = tokens_are_few n.functions arc.expr arc.colour b time first.0 first.1 in
    let all = length-of_terms {X = Made} (λ term. record { place = arc.place; value = term.value; stamp = stamp_on n arc.place (time + delay + term.delay) }) first.0 in
    subst (λ (ms : List Made). length ms ≤ most_tokens) (same_given _ made first.2) (omega (arith, few, all))

arcs_are_few : (n : PlainNet) (b : PlainBinding) (time delay : ℕ) (arcs : List PlainArc) (made : List Made) → gather (made_by n b time delay) arcs ≡ gives made → length made ≤ length arcs * most_tokens
arcs_are_few n b time delay [] made is = subst (λ (ms : List Made). length ms ≤ 0) (same_given [] made is) (omega arith)
arcs_are_few n b time delay (arc ∷ arcs) made is =
    let first = bound_parts (made_by n b time delay arc) _ made is in
    let second = bound_parts (gather (made_by n b time delay) arcs) _ made first.2 in
    let own = one_arc_is_few n b time delay arc first.0 first.1 in
    let rest = arcs_are_few n b time delay arcs second.0 second.1 in
    let both = length-append first.0 second.0 in
    subst (λ (ms : List Made). length ms ≤ suc (length arcs) * most_tokens) (same_given (first.0 ++ second.0) made second.2) (omega (arith, own, rest, both))

pub outputs_are_few : (n : PlainNet) (e : PlainElement) (time : ℕ) (outputs : List Made) → IsSoundTransition n (transition_at n e.transition) → outputs_of n e time ≡ gives outputs → length outputs ≤ most_made
unfolding outputs_of
outputs_are_few n e time outputs sound is =
    let t = transition_at n e.transition in
    let first = bound_parts (transition_delay n.functions t.delay e.binding time) _ outputs is in
    let second = bound_parts (gather (made_by n e.binding time first.0) t.outputs) _ outputs first.2 in
    let few = arcs_are_few n e.binding time first.0 t.outputs second.0 second.1 in
    let arcs = sound.few_arcs in
    let all = length-in_order made_cmp second.0 in
    subst (λ (ms : List Made). length ms ≤ most_made) (same_given (in_order made_cmp second.0) outputs second.2) (omega (arith, few, arcs, all))

-- ---- the tokens of a place

pub length-add_token : (t : PlainToken) (ks : Tokens) → length (add_token t ks) ≡ length ks + 1
length-add_token t [] = refl
length-add_token t (k ∷ ks) = split (is_lt (token_cmp t k)) (length-add_token t ks)
  where
    split : (b : Bool) → length (add_token t ks) ≡ length ks + 1 → length (cond b (t ∷ k ∷ ks) (k ∷ add_token t ks)) ≡ suc (length ks) + 1
    split true rest = omega arith
    split false rest = omega arith

not_more_without : (v : PlainValue) (t : ℕ) (ks : Tokens) → length (without_token v t ks) ≤ length ks
not_more_without v t [] = omega arith
not_more_without v t (k ∷ ks) = split (list_any (is_taken_by v t) ks) (is_taken_by v t k) (not_more_without v t ks)
  where
    split : (b c : Bool) → length (without_token v t ks) ≤ length ks → length (cond b (k ∷ without_token v t ks) (cond c ks (k ∷ ks))) ≤ suc (length ks)
    split true c rest = omega (arith, rest)
    split false true rest = omega arith
    split false false rest = omega arith

-- what is taken leaves no more
pub taken_up_to : (latest : Needed → ℕ) (needs : List Needed) (m : Marking) (number : ℕ) → IsBounded number m → IsBounded number (subtract latest needs m)
taken_up_to latest [] m number up_to = up_to
taken_up_to latest (need ∷ needs) m number up_to =
    taken_up_to latest needs (on_place need.place (without_token need.value (latest need)) m) number
    (tokens_on_place (λ q (ks : Tokens). length ks ≤ number) need.place (without_token need.value (latest need)) m up_to
    (λ at. let fewer = not_more_without need.value (latest need) (tokens_at m need.place) in omega (arith, at, fewer)))

-- what is put in adds at most as many as there are
pub added_up_to : (outputs : List Made) (m : Marking) (number : ℕ) → IsBounded number m → IsBounded (number + length outputs) (add_made outputs m)
added_up_to [] m number up_to p = let all = up_to p in omega (arith, all)
added_up_to (made ∷ more) m number up_to p =
    let next = on_place made.place (add_token (token_at made.value made.stamp)) m in
    let after : IsBounded (number + 1) next = tokens_on_place (λ q (ks : Tokens). length ks ≤ number + 1) made.place (add_token (token_at made.value made.stamp)) m
    (λ q. let all = up_to q in omega (arith, all))
    (λ at. let all = up_to made.place in let one = length-add_token (token_at made.value made.stamp) (tokens_at m made.place) in omega (arith, all, one)) in
    let rest = added_up_to more next (number + 1) after p in
    omega (arith, rest)
