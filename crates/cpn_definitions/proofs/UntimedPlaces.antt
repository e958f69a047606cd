-- On a place that keeps no time stamps each stamp is 0: there it makes no difference whether the time and the offset of a
-- need count or not. So needs are covered by a marking of the net, and taken from it, without a look at the net.
use Rattle.std.proofs.Common.{◌≡◌, ℕ, zero, suc, ◌+◌, ◌==◌, Bool, true, false, ◌&&◌, ◌||◌, cond, nat_le, List, [], ◌∷◌, ◌++◌, length, map, replicate, refl, sym, ap, ap₂, subst, ◌∙◌, arith, slice_index_or, slice_set, eqb-true, le-leb}
use Rattle.std.specs.List.{list_all, list_any, filter, flat_map, AllByRecursion}
use Rattle.std.proofs.lemmas.Bool.{cond_both, and_parts, and_from}
use Rattle.cpn_definitions.specs.Value.{PlainValue}
use Rattle.cpn_definitions.specs.Order.{same_value}
use Rattle.cpn_definitions.specs.Lists.{with_item, with_items, in_order}
use Rattle.cpn_definitions.specs.Marking.{PlainToken, Tokens, Marking, tokens_at, on_place, stamps, covers, is_taken_by, without_token, add_token, token_at, token_cmp}
use Rattle.cpn_definitions.specs.Net.{PlainArc, PlainNet, Coloured, nothing, transition_at, is_timed}
use Rattle.cpn_definitions.specs.Occurrence.{PlainElement, Needed, Made, made_cmp, made_by, stamp_on, transition_delay, outputs_of, threshold, threshold_in, same_need, thresholds, are_covered, subtract, add_made, gather}
use Rattle.cpn_definitions.specs.Colour.{PlainColour}
use Rattle.cpn_definitions.specs.Outcome.{gives}
use Rattle.cpn_definitions.specs.Meaning.{PlainBinding}
use Rattle.cpn_definitions.specs.Terms.{PlainTerm, terms_of}
use Rattle.cpn_definitions.specs.Sound.{IsStamped, may_hold, IsMarking}
use Rattle.cpn_definitions.proofs.RisingLists.{each_appended, each_flat, each_in}
use Rattle.cpn_definitions.proofs.OrderedLists.{each_with_items}
use Rattle.cpn_definitions.proofs.ChangedPlaces.{tokens_on_place}
use Rattle.cpn_definitions.proofs.Outcomes.{bound_parts, same_given}
use Rattle.std.specs.Ordering.{nat_cmp, is_lt}

-- ---- stamps that are all 0

abbrev AreZero : Tokens → Type 0
AreZero ks = list_all (λ (t : PlainToken). t.stamp == 0) ks ≡ true

stamp_zero : (k : PlainToken) → (k.stamp == 0) ≡ true → k.stamp ≡ 0
stamp_zero k h = eqb-true k.stamp 0 h

zero_by : (s t : ℕ) → s ≡ 0 → nat_le s t ≡ true
zero_by s t is = le-leb s t (omega arith)

-- how many stamps there are decides whether they cover
abbrev AreZeros : List ℕ → Type 0
AreZeros [] = Unit {0}
AreZeros (s ∷ ss) = (s ≡ 0) × AreZeros ss

stamps_zero : (v : PlainValue) (ks : Tokens) → AreZero ks → AreZeros (stamps v ks)
stamps_zero v [] all = tt
stamps_zero v (k ∷ ks) all =
    let parts = and_parts (k.stamp == 0) (list_all (λ (t : PlainToken). t.stamp == 0) ks) all in
    cond_both (same_value v k.value) (k.stamp ∷ stamps v ks) (stamps v ks) AreZeros (λ _. (stamp_zero k parts.0, stamps_zero v ks parts.1)) (λ _. stamps_zero v ks parts.1)

-- zeros cover as many thresholds, whatever these are
zeros_cover : (ss ts us : List ℕ) → AreZeros ss → length ts ≡ length us → covers ss ts ≡ covers ss us
zeros_cover ss [] [] zeros same = refl
zeros_cover ss [] (u ∷ us) zeros same = absurd (omega arith)
zeros_cover ss (t ∷ ts) [] zeros same = absurd (omega arith)
zeros_cover [] (t ∷ ts) (u ∷ us) zeros same = refl
zeros_cover (s ∷ ss) (t ∷ ts) (u ∷ us) zeros same =
    rw (zero_by s t zeros.0, zero_by s u zeros.0) (zeros_cover ss ts us zeros.1 (omega arith))

length_with_item : (x : ℕ) (ys : List ℕ) → length (with_item nat_cmp x ys) ≡ suc (length ys)
length_with_item x [] = refl
length_with_item x (y ∷ ys) =
    cond_both (is_lt (nat_cmp x y)) (x ∷ y ∷ ys) (y ∷ with_item nat_cmp x ys) (λ zs. length zs ≡ suc (suc (length ys))) (λ _. refl) (λ _. ap (λ (n : ℕ). suc n) (length_with_item x ys))

length_with_items : (xs ys : List ℕ) → length (with_items nat_cmp xs ys) ≡ length xs + length ys
length_with_items [] ys = omega arith
length_with_items (x ∷ xs) ys = let rest = length_with_items xs (with_item nat_cmp x ys) in let more = length_with_item x ys in omega arith

length_mapped : (f g : Needed → ℕ) (xs : List Needed) → length (map f xs) ≡ length (map g xs)
length_mapped f g [] = refl
length_mapped f g (x ∷ xs) = ap (λ (n : ℕ). suc n) (length_mapped f g xs)

-- there are as many thresholds of one kind as of another
as_many : (f g : Needed → ℕ) (need : Needed) (needs : List Needed) → length (thresholds f need needs) ≡ length (thresholds g need needs)
as_many f g need needs =
    let a = length_with_items (map f (filter (same_need need) needs)) [] in
    let b = length_with_items (map g (filter (same_need need) needs)) [] in
    let same = length_mapped f g (filter (same_need need) needs) in omega arith

-- ---- covering

-- where the place is timed the thresholds are the same
threshold_of_timed : (n : PlainNet) (time : ℕ) (need : Needed) → is_timed n need.place ≡ true → threshold_in n time need ≡ threshold time need
threshold_of_timed n time need timed = rw timed refl

pub same_place : (need other : Needed) → same_need need other ≡ true → need.place ≡ other.place
same_place need other same = eqb-true need.place other.place (and_parts (need.place == other.place) (same_value need.value other.value) same).0

pub thresholds_of_timed : (n : PlainNet) (time : ℕ) (need : Needed) (needs : List Needed) → is_timed n need.place ≡ true → map (threshold time) (filter (same_need need) needs) ≡ map (threshold_in n time) (filter (same_need need) needs)
thresholds_of_timed n time need [] timed = refl
thresholds_of_timed n time need (other ∷ needs) timed = split (thresholds_of_timed n time need needs timed) (same_need need other) refl
  where
    split
        : map (threshold time) (filter (same_need need) needs) ≡ map (threshold_in n time) (filter (same_need need) needs)
        → (b : Bool) → same_need need other ≡ b
        → map (threshold time) (cond b (other ∷ filter (same_need need) needs) (filter (same_need need) needs)) ≡ map (threshold_in n time) (cond b (other ∷ filter (same_need need) needs) (filter (same_need need) needs))
    split rest true same =
        let at : is_timed n other.place ≡ true = subst (λ (p : ℕ). is_timed n p ≡ true) (same_place need other same) timed in
        ap₂ (λ t ts. t ∷ ts) (sym (threshold_of_timed n time other at)) rest
    split rest false same = rest

one_covered : (n : PlainNet) (m : Marking) (time : ℕ) (need : Needed) (needs : List Needed) → IsStamped n m → covers (stamps need.value (tokens_at m need.place)) (thresholds (threshold time) need needs) ≡ covers (stamps need.value (tokens_at m need.place)) (thresholds (threshold_in n time) need needs)
one_covered n m time need needs stamped = split (is_timed n need.place) refl
  where
    split : (b : Bool) → is_timed n need.place ≡ b → covers (stamps need.value (tokens_at m need.place)) (thresholds (threshold time) need needs) ≡ covers (stamps need.value (tokens_at m need.place)) (thresholds (threshold_in n time) need needs)
    split true timed = ap (λ ts. covers (stamps need.value (tokens_at m need.place)) (in_order nat_cmp ts)) (thresholds_of_timed n time need needs timed)
    split false untimed =
        zeros_cover (stamps need.value (tokens_at m need.place)) (thresholds (threshold time) need needs) (thresholds (threshold_in n time) need needs) (stamps_zero need.value (tokens_at m need.place) (stamped need.place untimed)) (as_many (threshold time) (threshold_in n time) need needs)

pub all_alike : {X : Type 0} (p q : X → Bool) (xs : List X) → ((x : X) → p x ≡ q x) → list_all p xs ≡ list_all q xs
all_alike p q [] same = refl
all_alike p q (x ∷ xs) same = ap₂ (λ a b. a && b) (same x) (all_alike p q xs same)

-- in a marking of the net needs are covered at a time exactly where they are without a look at the net
pub covered_alike : (n : PlainNet) (m : Marking) (time : ℕ) (needs : List Needed) → IsStamped n m → are_covered (threshold time) m needs ≡ are_covered (threshold_in n time) m needs
covered_alike n m time needs stamped =
    all_alike (λ need. covers (stamps need.value (tokens_at m need.place)) (thresholds (threshold time) need needs)) (λ need. covers (stamps need.value (tokens_at m need.place)) (thresholds (threshold_in n time) need needs)) needs
    (λ need. one_covered n m time need needs stamped)

-- ---- subtracting

taken_alike : (v : PlainValue) (s t : ℕ) (k : PlainToken) → k.stamp ≡ 0 → is_taken_by v s k ≡ is_taken_by v t k
taken_alike v s t k is = ap (λ b. same_value v k.value && b) (zero_by k.stamp s is ∙ sym (zero_by k.stamp t is))

any_alike : (v : PlainValue) (s t : ℕ) (ks : Tokens) → AreZero ks → list_any (is_taken_by v s) ks ≡ list_any (is_taken_by v t) ks
any_alike v s t [] all = refl
any_alike v s t (k ∷ ks) all =
    let parts = and_parts (k.stamp == 0) (list_all (λ (t : PlainToken). t.stamp == 0) ks) all in
    ap₂ (λ a b. a || b) (taken_alike v s t k (stamp_zero k parts.0)) (any_alike v s t ks parts.1)

without_alike : (v : PlainValue) (s t : ℕ) (ks : Tokens) → AreZero ks → without_token v s ks ≡ without_token v t ks
without_alike v s t [] all = refl
without_alike v s t (k ∷ ks) all =
    let parts = and_parts (k.stamp == 0) (list_all (λ (t : PlainToken). t.stamp == 0) ks) all in
    ap₂ (λ b ls. cond b (k ∷ ls) (cond (is_taken_by v s k) ks (k ∷ ks))) (any_alike v s t ks parts.1) (without_alike v s t ks parts.1)
    ∙ ap (λ b. cond (list_any (is_taken_by v t) ks) (k ∷ without_token v t ks) (cond b ks (k ∷ ks))) (taken_alike v s t k (stamp_zero k parts.0))

zero_without : (v : PlainValue) (t : ℕ) (ks : Tokens) → AreZero ks → AreZero (without_token v t ks)
zero_without v t [] all = refl
zero_without v t (k ∷ ks) all =
    let parts = and_parts (k.stamp == 0) (list_all (λ (t : PlainToken). t.stamp == 0) ks) all in
    cond_both (list_any (is_taken_by v t) ks) (k ∷ without_token v t ks) (cond (is_taken_by v t k) ks (k ∷ ks)) AreZero (λ _. and_from _ _ parts.0 (zero_without v t ks parts.1))
    (λ _. cond_both (is_taken_by v t k) ks (k ∷ ks) AreZero (λ _. parts.1) (λ _. all))

zero_added : (t : PlainToken) (ks : Tokens) → (t.stamp == 0) ≡ true → AreZero ks → AreZero (add_token t ks)
zero_added t [] none all = and_from _ _ none refl
zero_added t (k ∷ ks) none all =
    let parts = and_parts (k.stamp == 0) (list_all (λ (t : PlainToken). t.stamp == 0) ks) all in
    cond_both (is_lt (token_cmp t k)) (t ∷ k ∷ ks) (k ∷ add_token t ks) AreZero (λ _. and_from _ _ none all) (λ _. and_from _ _ parts.0 (zero_added t ks none parts.1))

-- ---- one place changed

-- a marking stays stamped as the net is timed when a token is taken
pub stamped_without : (n : PlainNet) (p : ℕ) (v : PlainValue) (t : ℕ) (m : Marking) → IsStamped n m → IsStamped n (on_place p (without_token v t) m)
stamped_without n p v t m stamped = tokens_on_place (λ q ks. is_timed n q ≡ false → AreZero ks) p (without_token v t) m stamped (λ at untimed. zero_without v t (tokens_at m p) (at untimed))

pub stamped_subtracted : (n : PlainNet) (latest : Needed → ℕ) (needs : List Needed) (m : Marking) → IsStamped n m → IsStamped n (subtract latest needs m)
stamped_subtracted n latest [] m stamped = stamped
stamped_subtracted n latest (need ∷ needs) m stamped = stamped_subtracted n latest needs (on_place need.place (without_token need.value (latest need)) m) (stamped_without n need.place need.value (latest need) m stamped)

-- the tokens that were made are stamped as the net is timed
abbrev pub IsMadeStamped : PlainNet → Made → Type 0
IsMadeStamped n made = is_timed n made.place ≡ false → made.stamp ≡ 0

abbrev pub MadeStamped : PlainNet → List Made → Type 0
MadeStamped n outputs = AllByRecursion (IsMadeStamped n) outputs

pub stamped_added : (n : PlainNet) (outputs : List Made) (m : Marking) → MadeStamped n outputs → IsStamped n m → IsStamped n (add_made outputs m)
stamped_added n [] m made stamped = stamped
stamped_added n (one ∷ more) m made stamped =
    stamped_added n more (on_place one.place (add_token (token_at one.value one.stamp)) m) made.1
    (tokens_on_place (λ q ks. is_timed n q ≡ false → AreZero ks) one.place (add_token (token_at one.value one.stamp)) m stamped (λ at untimed. zero_added (token_at one.value one.stamp) (tokens_at m one.place) (rw (made.0 untimed) refl) (at untimed)))

-- a place past the last one holds nothing, and nothing is taken from it
taken_from : (n : PlainNet) (p : ℕ) (v : PlainValue) (s t : ℕ) (m : Marking) → AreZero (tokens_at m p) → on_place p (without_token v s) m ≡ on_place p (without_token v t) m
taken_from n p v s t m none = ap (λ ks. slice_set m p ks) (without_alike v s t (tokens_at m p) none)

-- from a marking of the net needs are taken as they are without a look at the net
pub subtracted_alike : (n : PlainNet) (time : ℕ) (needs : List Needed) (m : Marking) → IsStamped n m → subtract (threshold time) needs m ≡ subtract (threshold_in n time) needs m
subtracted_alike n time [] m stamped = refl
subtracted_alike n time (need ∷ needs) m stamped =
    ap (subtract (threshold time) needs) (first (is_timed n need.place) refl)
    ∙ subtracted_alike n time needs (on_place need.place (without_token need.value (threshold_in n time need)) m) (stamped_without n need.place need.value (threshold_in n time need) m stamped)
  where
    first : (b : Bool) → is_timed n need.place ≡ b → on_place need.place (without_token need.value (threshold time need)) m ≡ on_place need.place (without_token need.value (threshold_in n time need)) m
    first true timed = ap (λ t. on_place need.place (without_token need.value t) m) (sym (threshold_of_timed n time need timed))
    first false untimed = taken_from n need.place need.value (threshold time need) (threshold_in n time need) m (stamped need.place untimed)

-- ---- outputs, and markings of the places

replicated : (n : PlainNet) (k : ℕ) (made : Made) → IsMadeStamped n made → MadeStamped n (replicate k made)
replicated n zero made is = tt
replicated n (suc k) made is = (is, replicated n k made is)

untimed_stamp : (n : PlainNet) (p stamp : ℕ) → is_timed n p ≡ false → stamp_on n p stamp ≡ 0
untimed_stamp n p stamp untimed = rw untimed refl

arc_made : (n : PlainNet) (b : PlainBinding) (time delay : ℕ) (arc : PlainArc) (made : List Made) → made_by n b time delay arc ≡ gives made → MadeStamped n made
arc_made n b time delay arc made is =
    let terms = bound_parts (terms_of n.functions arc.expr arc.colour b time) _ made is in
    let each = λ (term : PlainTerm). replicate term.count (record { place = arc.place; value = term.value; stamp = stamp_on n arc.place (time + delay + term.delay) }) in
    subst (MadeStamped n) (same_given (flat_map each terms.0) made terms.2)
    (each_flat (IsMadeStamped n) each terms.0 (each_in (λ term. MadeStamped n (each term)) terms.0 (λ term _. replicated n term.count (record { place = arc.place; value = term.value; stamp = stamp_on n arc.place (time + delay + term.delay) }) (λ untimed. untimed_stamp n arc.place (time + delay + term.delay) untimed))))

arcs_made : (n : PlainNet) (b : PlainBinding) (time delay : ℕ) (arcs : List PlainArc) (made : List Made) → gather (made_by n b time delay) arcs ≡ gives made → MadeStamped n made
arcs_made n b time delay [] made is = subst (MadeStamped n) (same_given [] made is) tt
arcs_made n b time delay (arc ∷ arcs) made is =
    let first = bound_parts (made_by n b time delay arc) _ made is in
    let rest = bound_parts (gather (made_by n b time delay) arcs) _ made first.2 in
    subst (MadeStamped n) (same_given (first.0 ++ rest.0) made rest.2) (each_appended (IsMadeStamped n) first.0 rest.0 (arc_made n b time delay arc first.0 first.1) (arcs_made n b time delay arcs rest.0 rest.1))

-- the outputs of an element are stamped as the net is timed
pub outputs_stamped : (n : PlainNet) (e : PlainElement) (time : ℕ) (outputs : List Made) → outputs_of n e time ≡ gives outputs → MadeStamped n outputs
unfolding outputs_of
outputs_stamped n e time outputs is =
    let delay = bound_parts (transition_delay n.functions (transition_at n e.transition).delay e.binding time) _ outputs is in
    let made = bound_parts (gather (made_by n e.binding time delay.0) (transition_at n e.transition).outputs) _ outputs delay.2 in
    subst (MadeStamped n) (same_given (in_order made_cmp made.0) outputs made.2) (each_with_items made_cmp (IsMadeStamped n) made.0 [] (arcs_made n e.binding time delay.0 (transition_at n e.transition).outputs made.0 made.1) tt)

held_at_zero : (colour : PlainColour) (ks : Tokens) → colour.timed ≡ false → list_all (may_hold colour) ks ≡ true → AreZero ks
held_at_zero colour [] untimed all = refl
held_at_zero colour (k ∷ ks) untimed all =
    let parts = and_parts (may_hold colour k) (list_all (may_hold colour) ks) all in
    let stamp = and_parts _ (colour.timed || (k.stamp == 0)) parts.0 in
    and_from _ _ (ap (λ b. b || (k.stamp == 0)) (sym untimed) ∙ stamp.1) (held_at_zero colour ks untimed parts.1)

places_stamped : (places : List Coloured) (m : Marking) (p : ℕ) → IsMarking places m → (slice_index_or places p nothing).colour.timed ≡ false → AreZero (tokens_at m p)
places_stamped [] [] zero is untimed = refl
places_stamped [] [] (suc p) is untimed = refl
places_stamped [] (ks ∷ m) p is untimed = absurd is
places_stamped (place ∷ places) [] p is untimed = absurd is
places_stamped (place ∷ places) (ks ∷ m) zero is untimed = held_at_zero place.colour ks untimed is.1
places_stamped (place ∷ places) (ks ∷ m) (suc p) is untimed = places_stamped places m p is.2 untimed

-- a marking of the net's places is stamped as the net is timed
pub marking_stamped : (n : PlainNet) (m : Marking) → IsMarking n.places m → IsStamped n m
marking_stamped n m is = λ p untimed. places_stamped n.places m p is untimed
