-- The needs and the outputs of an element are in their order, whatever the order of the arcs; so the thresholds of the needs
-- for one value on one place stand in increasing order when the subtraction takes them.
use Rattle.std.proofs.Common.{◌≡◌, ℕ, ◌+◌, ◌==◌, Bool, true, false, cond, List, [], ◌∷◌, ◌++◌, map, refl, sym, ap, ap₂, subst, ◌∙◌, append_assoc, eqb-true, Equal, is_gt, nat_cmp, arith}
use Rattle.std.specs.List.{filter, AllByRecursion}
use Rattle.std.specs.Ordering.{ordering_then}
use Rattle.std.proofs.lemmas.Bool.{and_parts}
use Rattle.std.proofs.lemmas.Bool.Decides.{nat_tests}
use Rattle.std.proofs.lemmas.Cmp.{nat_cmp_total, tied_itself}
use Rattle.cpn_definitions.specs.Value.{PlainValue}
use Rattle.cpn_definitions.specs.Order.{value_cmp, same_value}
use Rattle.cpn_definitions.specs.ValueOrder.{value_itself, same_value_true}
use Rattle.cpn_definitions.specs.Lists.{IsInOrder, in_order}
use Rattle.cpn_definitions.specs.Marking.{Marking, tokens_at, stamps, less}
use Rattle.cpn_definitions.specs.Net.{PlainArc, PlainNet, transition_at}
use Rattle.cpn_definitions.specs.Outcome.{Outcome, gives, ◌>>=◌}
use Rattle.cpn_definitions.specs.Occurrence.{gather, PlainElement, Needed, Made, needed_cmp, made_cmp, needed_by, needs_of, made_by, transition_delay, outputs_of, threshold, thresholds, subtract}
use Rattle.cpn_definitions.proofs.Outcomes.{bound_parts, same_given}
use Rattle.cpn_definitions.proofs.OrderedLists.{in_order_is, in_order_same, exchanged_in_order}
use Rattle.cpn_definitions.proofs.TokenOrder.{needed_cmp_total, needed_same, made_cmp_total}
use Rattle.cpn_definitions.proofs.RisingLists.{each_filtered}
use Rattle.cpn_definitions.proofs.Subtraction.{AllAreSorted, is_for, thresholds_for, subtract_is_less}

-- ---- in order

pub needs_in_order : (n : PlainNet) (e : PlainElement) (needs : List Needed) → needs_of n e ≡ gives needs → IsInOrder needed_cmp needs
unfolding needs_of
needs_in_order n e needs is =
    let parts = bound_parts (gather (needed_by n.functions e.binding) (transition_at n e.transition).inputs) _ needs is in
    subst (IsInOrder needed_cmp) (same_given (in_order needed_cmp parts.0) needs parts.2) (in_order_is needed_cmp needed_cmp_total parts.0)

pub outputs_in_order : (n : PlainNet) (e : PlainElement) (time : ℕ) (outputs : List Made) → outputs_of n e time ≡ gives outputs → IsInOrder made_cmp outputs
unfolding outputs_of
outputs_in_order n e time outputs is =
    let delay = bound_parts (transition_delay n.functions (transition_at n e.transition).delay e.binding time) _ outputs is in
    let made = bound_parts (gather (made_by n e.binding time delay.0) (transition_at n e.transition).outputs) _ outputs delay.2 in
    subst (IsInOrder made_cmp) (same_given (in_order made_cmp made.0) outputs made.2) (in_order_is made_cmp made_cmp_total made.0)

-- ---- two arcs in another order

-- what arcs give, where each of them gives something
gathered_apart : {A : Type 0} (f : PlainArc → Outcome (List A)) (before : List PlainArc) (arcs : List PlainArc) (xs : List A) → gather f (before ++ arcs) ≡ gives xs → (us : List A) × (vs : List A) × (gather f before ≡ gives us) × (gather f arcs ≡ gives vs) × (us ++ vs ≡ xs)
gathered_apart f [] arcs xs is = ([], xs, refl, is, refl)
gathered_apart f (arc ∷ before) arcs xs is =
    let first = bound_parts (f arc) _ xs is in
    let rest = bound_parts (gather f (before ++ arcs)) _ xs first.2 in
    let parts = gathered_apart f before arcs rest.0 rest.1 in
    (first.0 ++ parts.0, parts.1, ap₂ (λ o p. o >>= (λ us. p >>= (λ vs. gives (us ++ vs)))) first.1 parts.2, parts.3, append_assoc first.0 parts.0 parts.1 ∙ ap (λ ys. first.0 ++ ys) parts.4 ∙ same_given (first.0 ++ rest.0) xs rest.2)

gathered_together : {A : Type 0} (f : PlainArc → Outcome (List A)) (before : List PlainArc) (arcs : List PlainArc) (us vs : List A) → gather f before ≡ gives us → gather f arcs ≡ gives vs → gather f (before ++ arcs) ≡ gives (us ++ vs)
gathered_together f [] arcs us vs first second = second ∙ ap (λ ws. gives (ws ++ vs)) (same_given [] us first)
gathered_together f (arc ∷ before) arcs us vs first second =
    let here = bound_parts (f arc) _ us first in
    let rest = bound_parts (gather f before) _ us here.2 in
    let later = gathered_together f before arcs rest.0 vs rest.1 second in
    ap₂ (λ o p. o >>= (λ xs. p >>= (λ ys. gives (xs ++ ys)))) here.1 later ∙ ap gives (sym (append_assoc here.0 rest.0 vs) ∙ ap (λ ws. ws ++ vs) (same_given (here.0 ++ rest.0) us rest.2))

-- What the needs of two neighbouring arcs say of their exchange: the arcs need the same in either order.
pub needs_exchanged
    : (f : PlainArc → Outcome (List Needed)) (before : List PlainArc) (a b : PlainArc) (later : List PlainArc) (xs : List Needed)
    → gather f (before ++ a ∷ b ∷ later) ≡ gives xs
    → (ys : List Needed) × (gather f (before ++ b ∷ a ∷ later) ≡ gives ys) × (in_order needed_cmp xs ≡ in_order needed_cmp ys)
needs_exchanged f before a b later xs is =
    let parts = gathered_apart f before (a ∷ b ∷ later) xs is in
    let first = bound_parts (f a) _ parts.1 parts.3 in
    let rest = bound_parts (gather f (b ∷ later)) _ parts.1 first.2 in
    let second = bound_parts (f b) _ rest.0 rest.1 in
    let last = bound_parts (gather f later) _ rest.0 second.2 in
    let us = parts.0 in
    let was : xs ≡ us ++ (first.0 ++ (second.0 ++ last.0)) =
    sym parts.4 ∙ ap (λ ws. us ++ ws) (sym (same_given (first.0 ++ rest.0) parts.1 rest.2) ∙ ap (λ ws. first.0 ++ ws) (sym (same_given (second.0 ++ last.0) rest.0 last.2))) in
    let turned : gather f (b ∷ a ∷ later) ≡ gives (second.0 ++ (first.0 ++ last.0)) =
    ap₂ (λ o p. o >>= (λ vs. p >>= (λ ws. gives (vs ++ ws)))) second.1 (ap₂ (λ o p. o >>= (λ vs. p >>= (λ ws. gives (vs ++ ws)))) first.1 last.1) in (
      us ++ (second.0 ++ (first.0 ++ last.0)),
      gathered_together f before (b ∷ a ∷ later) us (second.0 ++ (first.0 ++ last.0)) parts.2 turned,
      ap (in_order needed_cmp) was ∙ exchanged_in_order needed_cmp needed_cmp_total needed_same us first.0 second.0 last.0,
    )

-- ---- thresholds

filtered_in_order : (p : Needed → Bool) (xs : List Needed) → IsInOrder needed_cmp xs → IsInOrder needed_cmp (filter p xs)
filtered_in_order p [] ordered = tt
filtered_in_order p (x ∷ xs) ordered = split (each_filtered (λ y. is_gt (needed_cmp x y) ≡ false) p xs ordered.0) (filtered_in_order p xs ordered.1) (p x)
  where
    split : AllByRecursion (λ y. is_gt (needed_cmp x y) ≡ false) (filter p xs) → IsInOrder needed_cmp (filter p xs) → (b : Bool) → IsInOrder needed_cmp (cond b (x ∷ filter p xs) (filter p xs))
    split first rest true = (first, rest)
    split first rest false = rest

-- the needs that pass are for the place and the value
all_for : (p : ℕ) (v : PlainValue) (xs : List Needed) → AllByRecursion (λ x. is_for p v x ≡ true) (filter (is_for p v) xs)
all_for p v [] = tt
all_for p v (x ∷ xs) = split (all_for p v xs) (is_for p v x) refl
  where
    split : AllByRecursion (λ x. is_for p v x ≡ true) (filter (is_for p v) xs) → (b : Bool) → is_for p v x ≡ b → AllByRecursion (λ x. is_for p v x ≡ true) (cond b (x ∷ filter (is_for p v) xs) (filter (is_for p v) xs))
    split rest true is = (is, rest)
    split rest false is = rest

-- of two needs for one value on one place that stand in order, the thresholds do
threshold_order : (time p : ℕ) (v : PlainValue) (x y : Needed) → is_for p v x ≡ true → is_for p v y ≡ true → is_gt (needed_cmp x y) ≡ false → is_gt (nat_cmp (threshold time x) (threshold time y)) ≡ false
threshold_order time p v x y for_x for_y h =
    let a = and_parts (p == x.place) (same_value v x.value) for_x in
    let b = and_parts (p == y.place) (same_value v y.value) for_y in
    let places : nat_cmp x.place y.place ≡ Equal = ap₂ nat_cmp (sym (eqb-true p x.place a.0)) (sym (eqb-true p y.place b.0)) ∙ tied_itself nat_cmp_total p in
    let values : value_cmp x.value y.value ≡ Equal = ap₂ value_cmp (sym (same_value_true v x.value a.1)) (sym (same_value_true v y.value b.1)) ∙ value_itself v in
    let offsets : is_gt (nat_cmp x.offset y.offset) ≡ false = ap₂ (λ o p. is_gt (ordering_then o (ordering_then p (nat_cmp x.offset y.offset)))) (sym places) (sym values) ∙ h in
    later time x.offset y.offset offsets
  where
    later : (time i j : ℕ) → is_gt (nat_cmp i j) ≡ false → is_gt (nat_cmp (time + i) (time + j)) ≡ false
    later time i j h = grind (arith, nat_tests)

mapped_in_order : (time p : ℕ) (v : PlainValue) (xs : List Needed) → AllByRecursion (λ x. is_for p v x ≡ true) xs → IsInOrder needed_cmp xs → IsInOrder nat_cmp (map (threshold time) xs)
mapped_in_order time p v [] all ordered = tt
mapped_in_order time p v (x ∷ xs) all ordered = (after x xs all.0 all.1 ordered.0, mapped_in_order time p v xs all.1 ordered.1)
  where
    after : (x : Needed) (ys : List Needed) → is_for p v x ≡ true → AllByRecursion (λ y. is_for p v y ≡ true) ys → AllByRecursion (λ y. is_gt (needed_cmp x y) ≡ false) ys → AllByRecursion (λ t. is_gt (nat_cmp (threshold time x) t) ≡ false) (map (threshold time) ys)
    after x [] for_x all later = tt
    after x (y ∷ ys) for_x all later = (threshold_order time p v x y for_x all.0 later.0, after x ys for_x all.1 later.1)

-- the thresholds of needs in order, for a value on a place, stand in increasing order
pub thresholds_in_order : (time p : ℕ) (v : PlainValue) (needs : List Needed) → IsInOrder needed_cmp needs → IsInOrder nat_cmp (thresholds_for (threshold time) p v needs)
thresholds_in_order time p v needs ordered = mapped_in_order time p v (filter (is_for p v) needs) (all_for p v needs) (filtered_in_order (is_for p v) needs ordered)

-- The timed subtraction of the stamps of a need's value on its place, by the very thresholds that covering asks for.
pub needs_are_less : (time : ℕ) (need : Needed) (needs : List Needed) (m : Marking) → AllAreSorted m → IsInOrder needed_cmp needs → stamps need.value (tokens_at (subtract (threshold time) needs m) need.place) ≡ less (stamps need.value (tokens_at m need.place)) (thresholds (threshold time) need needs)
needs_are_less time need needs m sorted ordered =
    subtract_is_less (threshold time) needs m need.place need.value sorted
    ∙ ap (less (stamps need.value (tokens_at m need.place))) (sym (in_order_same nat_cmp nat_cmp_total (thresholds_for (threshold time) need.place need.value needs) (thresholds_in_order time need.place need.value needs ordered)))
