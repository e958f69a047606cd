-- What is covered at a time is covered at each later time; so a marking with no enabled element is dead, and each element
-- has a least time exactly where it is covered at some time.
use Rattle.std.proofs.Common.{◌≡◌, ℕ, zero, suc, ◌+◌, ◌<◌, ◌≤◌, ◌-◌, Bool, true, false, cond, nat_le, List, [], ◌∷◌, map, refl, sym, ap, ap₂, subst, ◌∙◌, arith, ⊎_elim, Contains, le-leb, leb-true, is_lt, nat_cmp}
use Rattle.std.specs.List.{list_all, filter}
use Rattle.std.proofs.lemmas.Bool.{and_parts, and_from, cases_Bool}
use Rattle.std.proofs.lemmas.Bool.Decides.{nat_tests}
use Rattle.cpn_definitions.specs.Lists.{with_item, with_items, in_order}
use Rattle.cpn_definitions.specs.Marking.{Marking, tokens_at, stamps, covers}
use Rattle.cpn_definitions.specs.Net.{PlainNet, is_timed}
use Rattle.cpn_definitions.specs.Outcome.{Outcome, gives, faults, no_meaning, gives_and}
use Rattle.cpn_definitions.specs.Occurrence.{PlainElement, Needed, threshold, threshold_in, same_need, thresholds, are_covered, may_occur, needs_of, covered}
use Rattle.cpn_definitions.specs.Enabled.{PlainEntry, IsEarliest, Enabled, IsDead}
use Rattle.cpn_definitions.proofs.UntimedPlaces.{same_place, thresholds_of_timed}
use Rattle.cpn_definitions.proofs.TruthValues.{not_both}

-- ---- thresholds that are not below others

-- each number of the first list is at most the one at its index in the second, and the lists are equally long
abbrev pub AreAtMost : List ℕ → List ℕ → Type 0
AreAtMost [] [] = Unit {0}
AreAtMost (t ∷ ts) (u ∷ us) = (t ≤ u) × AreAtMost ts us
AreAtMost [] (u ∷ us) = ⊥
AreAtMost (t ∷ ts) [] = ⊥

le_after : (s t u : ℕ) → nat_le s t ≡ true → t ≤ u → nat_le s u ≡ true
le_after s t u h le = le-leb s u (let first : s ≤ t = leb-true s t h in omega arith)

-- what covers thresholds covers ones that are not below them
pub covers_at_most : (ss ts us : List ℕ) → AreAtMost ts us → covers ss ts ≡ true → covers ss us ≡ true
covers_at_most ss [] [] at_most h = refl
covers_at_most ss [] (u ∷ us) at_most h = absurd at_most
covers_at_most ss (t ∷ ts) [] at_most h = absurd at_most
covers_at_most [] (t ∷ ts) (u ∷ us) at_most h = cc
covers_at_most (s ∷ ss) (t ∷ ts) (u ∷ us) at_most h =
    let parts = and_parts (nat_le s t) (covers ss ts) h in
    and_from _ _ (le_after s t u parts.0 at_most.0) (covers_at_most ss ts us at_most.1 parts.1)

-- ---- thresholds at a later time

abbrev later_by : ℕ → ℕ → ℕ
later_by d t = t + d

same_order : (d x y : ℕ) → is_lt (nat_cmp (x + d) (y + d)) ≡ is_lt (nat_cmp x y)
same_order d x y = grind (arith, nat_tests)

later_with_item : (d x : ℕ) (ys : List ℕ) → with_item nat_cmp (x + d) (map (later_by d) ys) ≡ map (later_by d) (with_item nat_cmp x ys)
later_with_item d x [] = refl
later_with_item d x (y ∷ ys) =
    ap (λ b. cond b ((x + d) ∷ (y + d) ∷ map (later_by d) ys) ((y + d) ∷ with_item nat_cmp (x + d) (map (later_by d) ys))) (same_order d x y) ∙ split (later_with_item d x ys) (is_lt (nat_cmp x y))
  where
    split
        : with_item nat_cmp (x + d) (map (later_by d) ys) ≡ map (later_by d) (with_item nat_cmp x ys)
        → (b : Bool) → cond b ((x + d) ∷ (y + d) ∷ map (later_by d) ys) ((y + d) ∷ with_item nat_cmp (x + d) (map (later_by d) ys)) ≡ map (later_by d) (cond b (x ∷ y ∷ ys) (y ∷ with_item nat_cmp x ys))
    split rest true = refl
    split rest false = ap (λ zs. (y + d) ∷ zs) rest

later_with_items : (d : ℕ) (xs ys : List ℕ) → with_items nat_cmp (map (later_by d) xs) (map (later_by d) ys) ≡ map (later_by d) (with_items nat_cmp xs ys)
later_with_items d [] ys = refl
later_with_items d (x ∷ xs) ys = ap (with_items nat_cmp (map (later_by d) xs)) (later_with_item d x ys) ∙ later_with_items d xs (with_item nat_cmp x ys)

later_thresholds : (s d : ℕ) (needs : List Needed) → map (threshold (s + d)) needs ≡ map (later_by d) (map (threshold s) needs)
later_thresholds s d [] = refl
later_thresholds s d (need ∷ needs) = ap₂ (λ t ts. t ∷ ts) (let e : (s + d) + need.offset ≡ (s + need.offset) + d = omega arith in e) (later_thresholds s d needs)

not_below : (d : ℕ) (ts : List ℕ) → AreAtMost ts (map (later_by d) ts)
not_below d [] = tt
not_below d (t ∷ ts) = (omega arith, not_below d ts)

covers_later : (ss : List ℕ) (s d : ℕ) (need : Needed) (needs : List Needed) → covers ss (thresholds (threshold s) need needs) ≡ true → covers ss (thresholds (threshold (s + d)) need needs) ≡ true
covers_later ss s d need needs h =
    let at : thresholds (threshold (s + d)) need needs ≡ map (later_by d) (thresholds (threshold s) need needs) = ap (in_order nat_cmp) (later_thresholds s d (filter (same_need need) needs)) ∙ later_with_items d (map (threshold s) (filter (same_need need) needs)) [] in
    subst (λ ts. covers ss ts ≡ true) (sym at) (covers_at_most ss (thresholds (threshold s) need needs) (map (later_by d) (thresholds (threshold s) need needs)) (not_below d (thresholds (threshold s) need needs)) h)

all_implied : {X : Type 0} (p q : X → Bool) (xs : List X) → ((x : X) → p x ≡ true → q x ≡ true) → list_all p xs ≡ true → list_all q xs ≡ true
all_implied p q [] so h = refl
all_implied p q (x ∷ xs) so h = let parts = and_parts (p x) (list_all p xs) h in and_from _ _ (so x parts.0) (all_implied p q xs so parts.1)

later_is : (s t : ℕ) → s ≤ t → s + (t - s) ≡ t
later_is s t le = omega arith

-- needs that are covered at a time are covered at each later one
pub needs_later : (m : Marking) (s t : ℕ) (needs : List Needed) → s ≤ t → are_covered (threshold s) m needs ≡ true → are_covered (threshold t) m needs ≡ true
needs_later m s t needs le h =
    subst (λ (time : ℕ). are_covered (threshold time) m needs ≡ true) (later_is s t le)
    (all_implied (λ need. covers (stamps need.value (tokens_at m need.place)) (thresholds (threshold s) need needs)) (λ need. covers (stamps need.value (tokens_at m need.place)) (thresholds (threshold (s + (t - s))) need needs)) needs
    (λ need is. covers_later (stamps need.value (tokens_at m need.place)) s (t - s) need needs is) h)

-- ---- the same in a net

untimed_thresholds : (n : PlainNet) (s t : ℕ) (need : Needed) (needs : List Needed) → is_timed n need.place ≡ false → map (threshold_in n s) (filter (same_need need) needs) ≡ map (threshold_in n t) (filter (same_need need) needs)
untimed_thresholds n s t need [] untimed = refl
untimed_thresholds n s t need (other ∷ needs) untimed = split (untimed_thresholds n s t need needs untimed) (same_need need other) refl
  where
    zero_at : (time : ℕ) → same_need need other ≡ true → threshold_in n time other ≡ 0
    zero_at time same = let at : is_timed n other.place ≡ false = subst (λ (p : ℕ). is_timed n p ≡ false) (same_place need other same) untimed in rw at refl

    split
        : map (threshold_in n s) (filter (same_need need) needs) ≡ map (threshold_in n t) (filter (same_need need) needs)
        → (b : Bool) → same_need need other ≡ b
        → map (threshold_in n s) (cond b (other ∷ filter (same_need need) needs) (filter (same_need need) needs)) ≡ map (threshold_in n t) (cond b (other ∷ filter (same_need need) needs) (filter (same_need need) needs))
    split rest true same = ap₂ (λ x xs. x ∷ xs) (zero_at s same ∙ sym (zero_at t same)) rest
    split rest false same = rest

covers_later_in : (n : PlainNet) (ss : List ℕ) (s d : ℕ) (need : Needed) (needs : List Needed) → covers ss (thresholds (threshold_in n s) need needs) ≡ true → covers ss (thresholds (threshold_in n (s + d)) need needs) ≡ true
covers_later_in n ss s d need needs h = split (is_timed n need.place) refl
  where
    split : (b : Bool) → is_timed n need.place ≡ b → covers ss (thresholds (threshold_in n (s + d)) need needs) ≡ true
    split true timed =
        subst (λ ts. covers ss (in_order nat_cmp ts) ≡ true) (thresholds_of_timed n (s + d) need needs timed)
        (covers_later ss s d need needs (subst (λ ts. covers ss (in_order nat_cmp ts) ≡ true) (sym (thresholds_of_timed n s need needs timed)) h))
    split false untimed = subst (λ ts. covers ss (in_order nat_cmp ts) ≡ true) (untimed_thresholds n s (s + d) need needs untimed) h

pub needs_later_in : (n : PlainNet) (m : Marking) (s t : ℕ) (needs : List Needed) → s ≤ t → are_covered (threshold_in n s) m needs ≡ true → are_covered (threshold_in n t) m needs ≡ true
needs_later_in n m s t needs le h =
    subst (λ (time : ℕ). are_covered (threshold_in n time) m needs ≡ true) (later_is s t le)
    (all_implied (λ need. covers (stamps need.value (tokens_at m need.place)) (thresholds (threshold_in n s) need needs)) (λ need. covers (stamps need.value (tokens_at m need.place)) (thresholds (threshold_in n (s + (t - s))) need needs)) needs
    (λ need is. covers_later_in n (stamps need.value (tokens_at m need.place)) s (t - s) need needs is) h)

-- what is covered at a time is covered at each later time
pub covered_later : (n : PlainNet) (m : Marking) (s t : ℕ) (e : PlainElement) → s ≤ t → covered n m s e ≡ true → covered n m t e ≡ true
unfolding covered
covered_later n m s t e le is =
    let parts = and_parts (may_occur n e) _ is in
    and_from _ _ parts.0 (given (needs_of n e) parts.1)
  where
    given : (o : Outcome (List Needed)) → gives_and o (are_covered (threshold_in n s) m) ≡ true → gives_and o (are_covered (threshold_in n t) m) ≡ true
    given (gives needs) h = needs_later_in n m s t needs le h
    given (faults fault) h = cc
    given no_meaning h = cc

-- ---- the least time

-- an element that is covered at the end of a stretch of time has a least time there
least_within : (n : PlainNet) (m : Marking) (clock d : ℕ) (e : PlainElement) → covered n m (clock + d) e ≡ true → (x : PlainEntry) × (x.element ≡ e) × IsEarliest n m clock x
least_within n m clock zero e is = (record { earliest = clock; element = e }, refl, record { not_before = omega arith; is_covered = subst (λ (t : ℕ). covered n m t e ≡ true) (omega arith) is; not_earlier = λ s from before. absurd (omega arith) })
least_within n m clock (suc d) e is =
    ⊎_elim (λ sooner. least_within n m clock d e sooner)
    (λ not_yet. (record { earliest = clock + suc d; element = e }, refl, record { not_before = omega arith; is_covered = is; not_earlier = λ s from before. none_before s (omega arith) not_yet }))
    (cases_Bool (covered n m (clock + d) e))
  where
    none_before : (s : ℕ) → s ≤ clock + d → covered n m (clock + d) e ≡ false → covered n m s e ≡ false
    none_before s le not_yet = ⊎_elim (λ yes. absurd (not_both (covered n m (clock + d) e) (covered_later n m s (clock + d) e le yes) not_yet)) (λ no. no) (cases_Bool (covered n m s e))

-- each element that is covered at some time has an entry
pub has_entry : (n : PlainNet) (m : Marking) (clock time : ℕ) (e : PlainElement) → covered n m time e ≡ true → (x : PlainEntry) × (x.element ≡ e) × IsEarliest n m clock x
has_entry n m clock time e is = least_within n m clock time e (covered_later n m time (clock + time) e (omega arith) is)

-- a marking with no enabled element is dead
pub none_is_dead : (n : PlainNet) (m : Marking) (clock : ℕ) → Enabled n m clock [] → IsDead n m
none_is_dead n m clock enabled time e = ⊎_elim (λ yes. absurd (none yes)) (λ no. no) (cases_Bool (covered n m time e))
  where
    none : covered n m time e ≡ true → ⊥
    none is =
        let x = has_entry n m clock time e is in
        let there : Contains [] x.0 = (enabled.exact x.0).1 x.2 in
        let lt : there.0 < 0 = there.1 in
        absurd (omega arith)

-- and a dead one has none
pub dead_has_none : (n : PlainNet) (m : Marking) (clock : ℕ) (entries : List PlainEntry) → IsDead n m → Enabled n m clock entries → entries ≡ []
dead_has_none n m clock [] dead enabled = refl
dead_has_none n m clock (x ∷ xs) dead enabled =
    let is = (enabled.exact x).0 (0, omega arith, refl) in
    absurd (not_both (covered n m x.earliest x.element) is.is_covered (dead x.earliest x.element))
