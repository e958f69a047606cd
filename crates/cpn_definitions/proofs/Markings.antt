-- A marking of a net's places stays one when an element of a sound net occurs.
use Rattle.std.proofs.Common.{◌≡◌, ℕ, zero, suc, ◌+◌, ◌==◌, Bool, true, false, ◌||◌, cond, List, [], ◌∷◌, ◌++◌, length, replicate, refl, ap, subst, ◌∙◌, arith, slice_index_or, is_lt}
use Rattle.std.specs.List.{list_all, list_any, flat_map, AllByRecursion}
use Rattle.std.proofs.lemmas.Bool.{cond_both, and_parts, and_from}
use Rattle.cpn_definitions.specs.Value.{PlainValue}
use Rattle.cpn_definitions.specs.Colour.{PlainColour, admits}
use Rattle.cpn_definitions.specs.Lists.{in_order}
use Rattle.cpn_definitions.specs.Marking.{PlainToken, Tokens, Marking, token_at, token_cmp, tokens_at, on_place, AreSorted, add_token, without_token, is_taken_by}
use Rattle.cpn_definitions.specs.Inscription.{ArcInscription}
use Rattle.cpn_definitions.specs.Net.{PlainArc, PlainTransition, PlainNet, Coloured, nothing, no_transition, place_at, transition_at, is_timed}
use Rattle.cpn_definitions.specs.Outcome.{gives}
use Rattle.cpn_definitions.specs.Meaning.{PlainBinding, setting_of}
use Rattle.cpn_definitions.specs.Terms.{PlainTerm, terms_of}
use Rattle.cpn_definitions.specs.Occurrence.{gather, PlainElement, Needed, Made, made_cmp, made_by, stamp_on, transition_delay, outputs_of, subtract, add_made}
use Rattle.cpn_definitions.specs.Sound.{IsSoundArc, IsSoundTransition, IsSound, may_hold, IsMarking}
use Rattle.cpn_definitions.proofs.Outcomes.{bound_parts, same_given}
use Rattle.cpn_definitions.proofs.RisingLists.{each_appended, each_flat}
use Rattle.cpn_definitions.proofs.OrderedLists.{each_with_items}
use Rattle.cpn_definitions.proofs.SortedTokens.{add_token_sorted, without_token_sorted}
use Rattle.cpn_definitions.proofs.ChangedPlaces.{places_with, tokens_on_place}
use Rattle.cpn_definitions.proofs.Terms.{AreTermsOf, terms_are}

-- ---- a marking of places, place by place

-- the tokens are sorted, and the place of a number may hold them
abbrev pub IsHeldAt : List Coloured → ℕ → Tokens → Type 0
IsHeldAt places p ks = AreSorted ks × (list_all (may_hold (slice_index_or places p nothing).colour) ks ≡ true)

pub held_at : (places : List Coloured) (m : Marking) → IsMarking places m → (p : ℕ) → IsHeldAt places p (tokens_at m p)
held_at [] [] is zero = (tt, refl)
held_at [] [] is (suc p) = (tt, refl)
held_at [] (ks ∷ m) is p = absurd is
held_at (place ∷ places) [] is p = absurd is
held_at (place ∷ places) (ks ∷ m) is zero = (is.0, is.1)
held_at (place ∷ places) (ks ∷ m) is (suc p) = held_at places m is.2 p

pub marking_length : (places : List Coloured) (m : Marking) → IsMarking places m → length m ≡ length places
marking_length [] [] is = refl
marking_length [] (ks ∷ m) is = absurd is
marking_length (place ∷ places) [] is = absurd is
marking_length (place ∷ places) (ks ∷ m) is = ap (λ (k : ℕ). suc k) (marking_length places m is.2)

pub marking_from : (places : List Coloured) (m : Marking) → length m ≡ length places → ((p : ℕ) → IsHeldAt places p (tokens_at m p)) → IsMarking places m
marking_from [] [] same all = tt
marking_from [] (ks ∷ m) same all = absurd (omega arith)
marking_from (place ∷ places) [] same all = absurd (omega arith)
marking_from (place ∷ places) (ks ∷ m) same all = ((all 0).0, (all 0).1, marking_from places m (omega arith) (λ p. all (suc p)))

-- a marking of places stays one where what is changed on one place may still be held there
pub changed_marking : (places : List Coloured) (p : ℕ) (change : Tokens → Tokens) (m : Marking) → (IsHeldAt places p (tokens_at m p) → IsHeldAt places p (change (tokens_at m p))) → IsMarking places m → IsMarking places (on_place p change m)
changed_marking places p change m keeps is =
    marking_from places (on_place p change m) (places_with p change m ∙ marking_length places m is) (tokens_on_place (IsHeldAt places) p change m (held_at places m is) keeps)

-- ---- taking

pub all_without : (test : PlainToken → Bool) (v : PlainValue) (t : ℕ) (ks : Tokens) → list_all test ks ≡ true → list_all test (without_token v t ks) ≡ true
all_without test v t [] all = refl
all_without test v t (k ∷ ks) all =
    let parts = and_parts (test k) (list_all test ks) all in
    cond_both (list_any (is_taken_by v t) ks) (k ∷ without_token v t ks) (cond (is_taken_by v t k) ks (k ∷ ks)) (λ ls. list_all test ls ≡ true) (λ _. and_from _ _ parts.0 (all_without test v t ks parts.1))
    (λ _. cond_both (is_taken_by v t k) ks (k ∷ ks) (λ ls. list_all test ls ≡ true) (λ _. parts.1) (λ _. all))

pub subtracted_marking : (places : List Coloured) (latest : Needed → ℕ) (needs : List Needed) (m : Marking) → IsMarking places m → IsMarking places (subtract latest needs m)
subtracted_marking places latest [] m is = is
subtracted_marking places latest (need ∷ needs) m is =
    subtracted_marking places latest needs (on_place need.place (without_token need.value (latest need)) m)
    (changed_marking places need.place (without_token need.value (latest need)) m (λ held. (without_token_sorted need.value (latest need) (tokens_at m need.place) held.0, all_without _ need.value (latest need) (tokens_at m need.place) held.1)) is)

-- ---- adding

pub all_added : (test : PlainToken → Bool) (t : PlainToken) (ks : Tokens) → test t ≡ true → list_all test ks ≡ true → list_all test (add_token t ks) ≡ true
all_added test t [] passes all = and_from _ _ passes refl
all_added test t (k ∷ ks) passes all =
    let parts = and_parts (test k) (list_all test ks) all in
    cond_both (is_lt (token_cmp t k)) (t ∷ k ∷ ks) (k ∷ add_token t ks) (λ ls. list_all test ls ≡ true) (λ _. and_from _ _ passes all) (λ _. and_from _ _ parts.0 (all_added test t ks passes parts.1))

-- the place of a made token may hold it
abbrev pub MayBeHeld : List Coloured → Made → Type 0
MayBeHeld places made = may_hold (slice_index_or places made.place nothing).colour (token_at made.value made.stamp) ≡ true

pub added_marking : (places : List Coloured) (outputs : List Made) (m : Marking) → AllByRecursion (MayBeHeld places) outputs → IsMarking places m → IsMarking places (add_made outputs m)
added_marking places [] m held is = is
added_marking places (made ∷ more) m held is =
    added_marking places more (on_place made.place (add_token (token_at made.value made.stamp)) m) held.1
    (changed_marking places made.place (add_token (token_at made.value made.stamp)) m (λ at. (add_token_sorted (token_at made.value made.stamp) (tokens_at m made.place) at.0, all_added _ (token_at made.value made.stamp) (tokens_at m made.place) held.0 at.1)) is)

-- ---- the outputs of a sound net

replicated : (places : List Coloured) (k : ℕ) (made : Made) → MayBeHeld places made → AllByRecursion (MayBeHeld places) (replicate k made)
replicated places zero made is = tt
replicated places (suc k) made is = (is, replicated places k made is)

-- the terms of an inscription have values of its colour set
terms_admitted : (n : PlainNet) (e : ArcInscription) (colour : PlainColour) (b : PlainBinding) (time : ℕ) (terms : List PlainTerm) → terms_of n.functions e colour b time ≡ gives terms → AllByRecursion (λ (term : PlainTerm). admits colour term.value ≡ true) terms
terms_admitted n e colour b time terms is = only_admitted terms (terms_are e colour (setting_of n.functions b time) [] 0 terms is)
  where
    only_admitted : (xs : List PlainTerm) → AreTermsOf colour xs → AllByRecursion (λ (term : PlainTerm). admits colour term.value ≡ true) xs
    only_admitted [] are = tt
    only_admitted (x ∷ xs) are = (are.0.0, only_admitted xs are.1)

-- a token of an admitted value, stamped as the place is timed, may be held
token_held : (n : PlainNet) (p : ℕ) (v : PlainValue) (stamp : ℕ) → admits (place_at n p).colour v ≡ true → MayBeHeld n.places (record { place = p; value = v; stamp = stamp_on n p stamp })
token_held n p v stamp fits = and_from _ _ fits (split (is_timed n p))
  where
    split : (b : Bool) → (b || (cond b stamp 0 == 0)) ≡ true
    split true = refl
    split false = refl

arc_held : (n : PlainNet) (t : PlainTransition) (b : PlainBinding) (time delay : ℕ) (arc : PlainArc) (made : List Made) → IsSoundArc n t arc → made_by n b time delay arc ≡ gives made → AllByRecursion (MayBeHeld n.places) made
arc_held n t b time delay arc made sound is =
    let terms = bound_parts (terms_of n.functions arc.expr arc.colour b time) _ made is in
    let each = λ (term : PlainTerm). replicate term.count (record { place = arc.place; value = term.value; stamp = stamp_on n arc.place (time + delay + term.delay) }) in
    let admitted = terms_admitted n arc.expr arc.colour b time terms.0 terms.1 in
    subst (AllByRecursion (MayBeHeld n.places)) (same_given (flat_map each terms.0) made terms.2)
    (each_flat (MayBeHeld n.places) each terms.0 (held_each terms.0 admitted))
  where
    held_each : (terms : List PlainTerm) → AllByRecursion (λ (term : PlainTerm). admits arc.colour term.value ≡ true) terms → AllByRecursion (λ (term : PlainTerm). AllByRecursion (MayBeHeld n.places) (replicate term.count (record { place = arc.place; value = term.value; stamp = stamp_on n arc.place (time + delay + term.delay) }))) terms
    held_each [] all = tt
    held_each (term ∷ terms) all =
        (replicated n.places term.count (record { place = arc.place; value = term.value; stamp = stamp_on n arc.place (time + delay + term.delay) }) (token_held n arc.place term.value (time + delay + term.delay) (subst (λ colour. admits colour term.value ≡ true) sound.colour_is all.0)), held_each terms all.1)

arcs_held : (n : PlainNet) (t : PlainTransition) (b : PlainBinding) (time delay : ℕ) (arcs : List PlainArc) (made : List Made) → AllByRecursion (IsSoundArc n t) arcs → gather (made_by n b time delay) arcs ≡ gives made → AllByRecursion (MayBeHeld n.places) made
arcs_held n t b time delay [] made sound is = subst (AllByRecursion (MayBeHeld n.places)) (same_given [] made is) tt
arcs_held n t b time delay (arc ∷ arcs) made sound is =
    let first = bound_parts (made_by n b time delay arc) _ made is in
    let rest = bound_parts (gather (made_by n b time delay) arcs) _ made first.2 in
    subst (AllByRecursion (MayBeHeld n.places)) (same_given (first.0 ++ rest.0) made rest.2) (each_appended (MayBeHeld n.places) first.0 rest.0 (arc_held n t b time delay arc first.0 sound.0 first.1) (arcs_held n t b time delay arcs rest.0 sound.1 rest.1))

-- the output arcs of a transition of a sound net are sound; past the last transition there is none
pub outputs_sound_at : (n : PlainNet) (ts : List PlainTransition) (t : ℕ) → AllByRecursion (IsSoundTransition n) ts → AllByRecursion (IsSoundArc n (slice_index_or ts t no_transition)) (slice_index_or ts t no_transition).outputs
outputs_sound_at n [] zero all = tt
outputs_sound_at n [] (suc t) all = tt
outputs_sound_at n (tr ∷ ts) zero all = all.0.outputs_sound
outputs_sound_at n (tr ∷ ts) (suc t) all = outputs_sound_at n ts t all.1

pub outputs_held : (n : PlainNet) (e : PlainElement) (time : ℕ) (outputs : List Made) → IsSound n → outputs_of n e time ≡ gives outputs → AllByRecursion (MayBeHeld n.places) outputs
unfolding outputs_of
outputs_held n e time outputs sound is =
    let tr = transition_at n e.transition in
    let delay = bound_parts (transition_delay n.functions tr.delay e.binding time) _ outputs is in
    let made = bound_parts (gather (made_by n e.binding time delay.0) tr.outputs) _ outputs delay.2 in
    subst (AllByRecursion (MayBeHeld n.places)) (same_given (in_order made_cmp made.0) outputs made.2) (each_with_items made_cmp (MayBeHeld n.places) made.0 [] (arcs_held n tr e.binding time delay.0 tr.outputs made.0 (outputs_sound_at n n.transitions e.transition sound.transitions_sound) made.1) tt)

-- a marking of the places of a sound net stays one when needs are taken and the outputs of an element are added
pub occurred_marking : (n : PlainNet) (latest : Needed → ℕ) (needs : List Needed) (e : PlainElement) (time : ℕ) (outputs : List Made) (m : Marking) → IsSound n → outputs_of n e time ≡ gives outputs → IsMarking n.places m → IsMarking n.places (add_made outputs (subtract latest needs m))
occurred_marking n latest needs e time outputs m sound made is = added_marking n.places outputs (subtract latest needs m) (outputs_held n e time outputs sound made) (subtracted_marking n.places latest needs m is)
