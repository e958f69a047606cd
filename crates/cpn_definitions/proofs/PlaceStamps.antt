-- The stamps of the tokens that an element makes, and of those on a place after it occurred.
use Rattle.std.proofs.Common.{◌≡◌, ℕ, suc, zero, ◌+◌, ◌≤◌, Bool, true, false, cond, nat_le, List, [], ◌∷◌, ◌++◌, replicate, Option, Some, None, pos, negsuc, refl, subst, arith, leb-true, Ordering, is_lt}
use Rattle.std.specs.List.{list_all, flat_map}
use Rattle.std.proofs.lemmas.Bool.{cond_both, and_parts, and_from}
use Rattle.std.proofs.lemmas.Bool.Decides.{nat_tests}
use Rattle.cpn_definitions.specs.Value.{PlainValue, int}
use Rattle.cpn_definitions.specs.Bounds.{last_stamp}
use Rattle.cpn_definitions.specs.Inscription.{PlainExpr, Functions}
use Rattle.cpn_definitions.specs.Lists.{with_item, with_items, in_order}
use Rattle.cpn_definitions.specs.Marking.{PlainToken, Tokens, Marking, tokens_at, on_place, token_at, add_token, without_token}
use Rattle.cpn_definitions.specs.Meaning.{PlainBinding, meaning}
use Rattle.cpn_definitions.specs.Net.{PlainArc, PlainNet, is_timed, transition_at}
use Rattle.cpn_definitions.specs.Occurrence.{PlainElement, Needed, Made, made_cmp, gather, made_by, stamp_on, transition_delay, outputs_of, subtract, add_made}
use Rattle.cpn_definitions.specs.Outcome.{gives, faults, bad_delay}
use Rattle.cpn_definitions.specs.Terms.{PlainTerm, delay_of, terms_of}
use Rattle.cpn_definitions.specs.Times.{last_time}
use Rattle.cpn_definitions.proofs.ChangedPlaces.{tokens_on_place}
use Rattle.cpn_definitions.proofs.DelayBounds.{AreInRange, delays_in_range}
use Rattle.cpn_definitions.proofs.Markings.{all_without, all_added}
use Rattle.cpn_definitions.proofs.Outcomes.{bound_parts, same_given}

-- ---- the tokens that an element makes

-- none of them has a later stamp than the latest
abbrev pub AreMadeInRange : List Made → Type 0
AreMadeInRange made = list_all (λ m. nat_le m.stamp last_stamp) made ≡ true

pub all_append : {X : Type 0} (test : X → Bool) (xs ys : List X) → list_all test xs ≡ true → list_all test ys ≡ true → list_all test (xs ++ ys) ≡ true
all_append test [] ys first second = second
all_append test (x ∷ xs) ys first second = let parts = and_parts (test x) (list_all test xs) first in and_from _ _ parts.0 (all_append test xs ys parts.1 second)

pub all_replicate : {X : Type 0} (test : X → Bool) (n : ℕ) (x : X) → test x ≡ true → list_all test (replicate n x) ≡ true
all_replicate test zero x passes = refl
all_replicate test (suc n) x passes = and_from _ _ passes (all_replicate test n x passes)

all_with_item : {X : Type 0} (c : X → X → Ordering) (test : X → Bool) (x : X) (ys : List X) → test x ≡ true → list_all test ys ≡ true → list_all test (with_item c x ys) ≡ true
all_with_item c test x [] passes all = and_from _ _ passes refl
all_with_item c test x (y ∷ ys) passes all =
    let parts = and_parts (test y) (list_all test ys) all in
    cond_both (is_lt (c x y)) (x ∷ y ∷ ys) (y ∷ with_item c x ys) (λ zs. list_all test zs ≡ true) (λ _. and_from _ _ passes all) (λ _. and_from _ _ parts.0 (all_with_item c test x ys passes parts.1))

pub all_with_items : {X : Type 0} (c : X → X → Ordering) (test : X → Bool) (xs ys : List X) → list_all test xs ≡ true → list_all test ys ≡ true → list_all test (with_items c xs ys) ≡ true
all_with_items c test [] ys first second = second
all_with_items c test (x ∷ xs) ys first second = let parts = and_parts (test x) (list_all test xs) first in all_with_items c test xs (with_item c x ys) parts.1 (all_with_item c test x ys parts.0 second)

-- a stamp that is at most three times the last time, or 0
stamp_in_range : (n : PlainNet) (p time delay late : ℕ) → time ≤ last_time → delay ≤ last_time → nat_le late last_time ≡ true → nat_le (stamp_on n p (time + delay + late)) last_stamp ≡ true
stamp_in_range n p time delay late first second third = split (is_timed n p)
  where
    small : late ≤ last_time
    small = leb-true late last_time third

    split : (b : Bool) → nat_le (cond b (time + delay + late) 0) last_stamp ≡ true
    split true = grind (arith, nat_tests, first, second, small)
    split false = refl

terms_made_in_range : (n : PlainNet) (p time delay : ℕ) (terms : List PlainTerm) → time ≤ last_time → delay ≤ last_time → AreInRange terms
    → AreMadeInRange (flat_map (λ (term : PlainTerm). replicate term.count (record { place = p; value = term.value; stamp = stamp_on n p (time + delay + term.delay) })) terms)
terms_made_in_range n p time delay [] first second all = refl
terms_made_in_range n p time delay (term ∷ terms) first second all =
    let parts = and_parts (nat_le term.delay last_time) (list_all (λ (t : PlainTerm). nat_le t.delay last_time) terms) all in
    let made : Made = record { place = p; value = term.value; stamp = stamp_on n p (time + delay + term.delay) } in
    all_append (λ (m : Made). nat_le m.stamp last_stamp) (replicate term.count made) _
    (all_replicate (λ (m : Made). nat_le m.stamp last_stamp) term.count made (stamp_in_range n p time delay term.delay first second parts.0))
    (terms_made_in_range n p time delay terms first second parts.1)

arcs_made_in_range : (n : PlainNet) (b : PlainBinding) (time delay : ℕ) (arcs : List PlainArc) (made : List Made) → time ≤ last_time → delay ≤ last_time → gather (made_by n b time delay) arcs ≡ gives made → AreMadeInRange made
arcs_made_in_range n b time delay [] made first second is = subst AreMadeInRange (same_given [] made is) refl
arcs_made_in_range n b time delay (arc ∷ arcs) made first second is =
    let own = bound_parts (made_by n b time delay arc) _ made is in
    let terms = bound_parts (terms_of n.functions arc.expr arc.colour b time) _ own.0 own.1 in
    let rest = bound_parts (gather (made_by n b time delay) arcs) _ made own.2 in
    let here : AreMadeInRange own.0 = subst AreMadeInRange (same_given _ own.0 terms.2) (terms_made_in_range n arc.place time delay terms.0 first second (delays_in_range n.functions arc.expr arc.colour b time terms.0 terms.1)) in
    subst AreMadeInRange (same_given (own.0 ++ rest.0) made rest.2)
    (all_append (λ (m : Made). nat_le m.stamp last_stamp) own.0 rest.0 here (arcs_made_in_range n b time delay arcs rest.0 first second rest.1))

delay_in_range : (v : PlainValue) (delay : ℕ) → delay_of v ≡ gives delay → delay ≤ last_time
delay_in_range (int (pos k)) delay is = split (nat_le k last_time) refl is
  where
    split : (b : Bool) → nat_le k last_time ≡ b → cond b (gives k) (faults bad_delay) ≡ gives delay → delay ≤ last_time
    split true fits h = subst (λ d. d ≤ last_time) (same_given k delay h) (leb-true k last_time fits)
    split false misfit h = cc
delay_in_range (int (negsuc k)) delay is = cc
delay_in_range v delay is = cc

transition_delay_in_range : (funs : Functions) (e : Option PlainExpr) (b : PlainBinding) (time delay : ℕ) → transition_delay funs e b time ≡ gives delay → delay ≤ last_time
transition_delay_in_range funs None b time delay is = subst (λ d. d ≤ last_time) (same_given 0 delay is) (omega arith)
transition_delay_in_range funs (Some e) b time delay is = let parts = bound_parts (meaning funs e b time) delay_of delay is in delay_in_range parts.0 delay parts.2

pub outputs_in_range : (n : PlainNet) (e : PlainElement) (time : ℕ) (outputs : List Made) → time ≤ last_time → outputs_of n e time ≡ gives outputs → AreMadeInRange outputs
unfolding outputs_of
outputs_in_range n e time outputs early is =
    let t = transition_at n e.transition in
    let first = bound_parts (transition_delay n.functions t.delay e.binding time) _ outputs is in
    let second = bound_parts (gather (made_by n e.binding time first.0) t.outputs) _ outputs first.2 in
    let all = arcs_made_in_range n e.binding time first.0 t.outputs second.0 early (transition_delay_in_range n.functions t.delay e.binding time first.0 first.1) second.1 in
    subst AreMadeInRange (same_given (in_order made_cmp second.0) outputs second.2) (all_with_items made_cmp (λ (m : Made). nat_le m.stamp last_stamp) second.0 [] all refl)

-- ---- the tokens of a place

-- on each place the tokens pass a test
abbrev AllPass : (PlainToken → Bool) → Marking → Type 0
AllPass test m = (p : ℕ) → list_all test (tokens_at m p) ≡ true

pub taken_pass : (test : PlainToken → Bool) (latest : Needed → ℕ) (needs : List Needed) (m : Marking) → AllPass test m → AllPass test (subtract latest needs m)
taken_pass test latest [] m all = all
taken_pass test latest (need ∷ needs) m all =
    taken_pass test latest needs (on_place need.place (without_token need.value (latest need)) m)
    (tokens_on_place (λ q (ks : Tokens). list_all test ks ≡ true) need.place (without_token need.value (latest need)) m all (all_without test need.value (latest need) (tokens_at m need.place)))

pub added_pass : (test : PlainToken → Bool) (outputs : List Made) (m : Marking) → list_all (λ made. test (token_at made.value made.stamp)) outputs ≡ true → AllPass test m → AllPass test (add_made outputs m)
added_pass test [] m passes all = all
added_pass test (made ∷ more) m passes all =
    let parts = and_parts (test (token_at made.value made.stamp)) (list_all (λ (o : Made). test (token_at o.value o.stamp)) more) passes in
    added_pass test more (on_place made.place (add_token (token_at made.value made.stamp)) m) parts.1
    (tokens_on_place (λ q (ks : Tokens). list_all test ks ≡ true) made.place (add_token (token_at made.value made.stamp)) m all (all_added test (token_at made.value made.stamp) (tokens_at m made.place) parts.0))
