-- Of which values on which places the tokens of two lists in order differ.
use Rattle.std.proofs.Common.{◌≡◌, ℕ, ◌==◌, Bool, true, false, ◌||◌, cond, List, [], ◌∷◌, map, length, refl, sym, ap, subst, ◌∙◌, eqb-true, Ordering, Less, Equal, Greater, nat_cmp, is_gt, arith}
use Rattle.std.proofs.Math.Path.{ap₂}
use Rattle.std.specs.List.{AllByRecursion, filter}
use Rattle.std.specs.Ordering.{ordering_then, ordering_reverse}
use Rattle.std.proofs.lemmas.Bool.{and_parts, or_parts}
use Rattle.std.proofs.lemmas.Cmp.{alike_right, nat_cmp_total, tied_itself}
use Rattle.cpn_definitions.specs.Value.{PlainValue}
use Rattle.cpn_definitions.specs.Order.{value_cmp, same_value}
use Rattle.cpn_definitions.specs.ValueOrder.{same_value_true, value_cmp_total, value_same, then_first, then_second}
use Rattle.cpn_definitions.specs.Lists.{IsInOrder}
use Rattle.cpn_definitions.specs.Occurrence.{Made, made_cmp}
use Rattle.cpn_definitions.proofs.Addition.{is_made_for, stamps_for}
use Rattle.cpn_definitions.proofs.InsertIndexes.{not_after}
use Rattle.cpn_definitions.proofs.NumberTests.{same_number}
use Rattle.cpn_definitions.proofs.RisingLists.{each_implied, each_mapped}
use Rattle.cpn_definitions.proofs.TokenOrder.{made_cmp_total}
use Rattle.cpn_tmset.specs.Changed.{PlainChange, change_cmp, is_told}
use Rattle.cpn_log.specs.Gathered.{as_compared, differing, made_change}
use Rattle.cpn_log.proofs.ChangeOrder.{outputs_stand_in_order}
use Rattle.cpn_log.proofs.TouchedStamps.{none_made, some_made}

-- ---- one token more

passed : (p : ℕ) (v : PlainValue) (t : Made) (ts : List Made) → is_made_for p v t ≡ false → stamps_for p v (t ∷ ts) ≡ stamps_for p v ts
passed p v t ts other = ap (λ b. map (λ (k : Made). k.stamp) (cond b (t ∷ filter (is_made_for p v) ts) (filter (is_made_for p v) ts))) other

counted : (p : ℕ) (v : PlainValue) (t : Made) (ts : List Made) → is_made_for p v t ≡ true → stamps_for p v (t ∷ ts) ≡ t.stamp ∷ stamps_for p v ts
counted p v t ts own = ap (λ b. map (λ (k : Made). k.stamp) (cond b (t ∷ filter (is_made_for p v) ts) (filter (is_made_for p v) ts))) own

same_first : (p : ℕ) (v : PlainValue) (t : Made) (ts os : List Made) → stamps_for p v ts ≡ stamps_for p v os → stamps_for p v (t ∷ ts) ≡ stamps_for p v (t ∷ os)
same_first p v t ts os same = split (is_made_for p v t) refl
  where
    split : (b : Bool) → is_made_for p v t ≡ b → stamps_for p v (t ∷ ts) ≡ stamps_for p v (t ∷ os)
    split true own = counted p v t ts own ∙ ap (λ ss. t.stamp ∷ ss) same ∙ sym (counted p v t os own)
    split false other = passed p v t ts other ∙ same ∙ sym (passed p v t os other)

same_others : (p : ℕ) (v : PlainValue) (t : Made) (ts os : List Made) → stamps_for p v (t ∷ ts) ≡ stamps_for p v (t ∷ os) → stamps_for p v ts ≡ stamps_for p v os
same_others p v t ts os same = split (is_made_for p v t) refl
  where
    split : (b : Bool) → is_made_for p v t ≡ b → stamps_for p v ts ≡ stamps_for p v os
    split true own = let both : t.stamp ∷ stamps_for p v ts ≡ t.stamp ∷ stamps_for p v os = sym (counted p v t ts own) ∙ same ∙ counted p v t os own in cc
    split false other = sym (passed p v t ts other) ∙ same ∙ passed p v t os other

-- ---- the order of tokens

-- two tokens that compare as equal are the same
made_same : (x y : Made) → made_cmp x y ≡ Equal → x ≡ y
made_same x y h =
    let rest = then_second (nat_cmp x.place y.place) (ordering_then (value_cmp x.value y.value) (nat_cmp x.stamp y.stamp)) h in
    let places : x.place ≡ y.place = same_number x.place y.place (then_first _ _ h) in
    let values : x.value ≡ y.value = value_same x.value y.value (then_first _ _ rest) in
    let numbers : x.stamp ≡ y.stamp = same_number x.stamp y.stamp (then_second (value_cmp x.value y.value) _ rest) in
    let e : record { place = x.place; value = x.value; stamp = x.stamp } ≡ y = ap₂ (λ p v. record { place = p; value = v; stamp = x.stamp }) places values ∙ ap (λ s. record { place = y.place; value = y.value; stamp = s }) numbers in e

-- two tokens of a value on a place compare by their stamps
of_one_value : (p : ℕ) (v : PlainValue) (x y : Made) → is_made_for p v x ≡ true → is_made_for p v y ≡ true → made_cmp x y ≡ nat_cmp x.stamp y.stamp
of_one_value p v x y own other =
    let a = and_parts (p == x.place) (same_value v x.value) own in
    let b = and_parts (p == y.place) (same_value v y.value) other in
    let places : nat_cmp x.place y.place ≡ Equal = ap₂ nat_cmp (sym (eqb-true p x.place a.0)) (sym (eqb-true p y.place b.0)) ∙ tied_itself nat_cmp_total p in
    let values : value_cmp x.value y.value ≡ Equal = ap₂ value_cmp (sym (same_value_true v x.value a.1)) (sym (same_value_true v y.value b.1)) ∙ tied_itself value_cmp_total v in
    ap₂ (λ o q. ordering_then o (ordering_then q (nat_cmp x.stamp y.stamp))) places values

-- what holds of each token, and so of the stamp of each that is for a value on a place
each_stamp : (P : ℕ → Type 0) (Q : Made → Type 0) (p : ℕ) (v : PlainValue) → ((y : Made) → is_made_for p v y ≡ true → Q y → P y.stamp) → (xs : List Made) → AllByRecursion Q xs → AllByRecursion P (stamps_for p v xs)
each_stamp P Q p v so [] all = tt
each_stamp P Q p v so (x ∷ xs) all = split (is_made_for p v x) refl (each_stamp P Q p v so xs all.1)
  where
    split : (b : Bool) → is_made_for p v x ≡ b → AllByRecursion P (stamps_for p v xs) → AllByRecursion P (stamps_for p v (x ∷ xs))
    split true own rest = subst (AllByRecursion P) (sym (counted p v x xs own)) (so x own all.0, rest)
    split false other rest = subst (AllByRecursion P) (sym (passed p v x xs other)) rest

-- the stamps of tokens in order are in order
pub stamps_in_order : (p : ℕ) (v : PlainValue) (xs : List Made) → IsInOrder made_cmp xs → IsInOrder nat_cmp (stamps_for p v xs)
stamps_in_order p v [] ordered = tt
stamps_in_order p v (x ∷ xs) ordered = split (is_made_for p v x) refl (stamps_in_order p v xs ordered.1)
  where
    split : (b : Bool) → is_made_for p v x ≡ b → IsInOrder nat_cmp (stamps_for p v xs) → IsInOrder nat_cmp (stamps_for p v (x ∷ xs))
    split true own rest =
        subst (IsInOrder nat_cmp) (sym (counted p v x xs own))
        (each_stamp (λ s. is_gt (nat_cmp x.stamp s) ≡ false) (λ y. is_gt (made_cmp x y) ≡ false) p v (λ y other h. ap is_gt (sym (of_one_value p v x y own other)) ∙ h) xs ordered.0, rest)
    split false other rest = subst (IsInOrder nat_cmp) (sym (passed p v x xs other)) rest

below_each : (t o : Made) (os : List Made) → made_cmp t o ≡ Less → IsInOrder made_cmp (o ∷ os) → AllByRecursion (λ y. made_cmp t y ≡ Less) (o ∷ os)
below_each t o os less ordered = (less, each_implied (λ y. is_gt (made_cmp o y) ≡ false) (λ y. made_cmp t y ≡ Less) os further ordered.0)
  where
    further : (y : Made) → is_gt (made_cmp o y) ≡ false → made_cmp t y ≡ Less
    further y h = split (made_cmp o y) refl h
      where
        split : (r : Ordering) → made_cmp o y ≡ r → is_gt r ≡ false → made_cmp t y ≡ Less
        split Less e f = made_cmp_total.trans t o y less e
        split Equal e f = sym (alike_right made_cmp_total o y t e) ∙ less
        split Greater e f = cc

turned : (t o : Made) → made_cmp t o ≡ Greater → made_cmp o t ≡ Less
turned t o greater = made_cmp_total.antisymm o t ∙ ap ordering_reverse greater

-- a token that comes before all of others is not among them by its stamp
not_among : (p : ℕ) (v : PlainValue) (t o : Made) (ss : List ℕ) (os : List Made) → is_made_for p v t ≡ true → made_cmp t o ≡ Less → IsInOrder made_cmp (o ∷ os) → t.stamp ∷ ss ≡ stamps_for p v (o ∷ os) → ⊥
not_among p v t o ss os own less ordered same =
    let later = each_stamp (λ s. nat_cmp t.stamp s ≡ Less) (λ y. made_cmp t y ≡ Less) p v (λ y other h. sym (of_one_value p v t y own other) ∙ h) (o ∷ os) (below_each t o os less ordered) in
    let first = (subst (AllByRecursion (λ s. nat_cmp t.stamp s ≡ Less)) (sym same) later).0 in
    let clash : Less ≡ Equal = sym first ∙ tied_itself nat_cmp_total t.stamp in cc

-- ---- what is told

-- a value on a place that is not told has the same stamps in both lists
pub same_where_not_told : (p : ℕ) (v : PlainValue) (ts os : List Made) → is_told p v (differing ts os) ≡ false → stamps_for p v ts ≡ stamps_for p v os
same_where_not_told p v [] os h = sym (none_made p v os h)
same_where_not_told p v (t ∷ ts) [] h = none_made p v (t ∷ ts) h
same_where_not_told p v (t ∷ ts) (o ∷ os) h = split (made_cmp t o) refl (same_where_not_told p v ts (o ∷ os)) (same_where_not_told p v ts os) (same_where_not_told p v (t ∷ ts) os) h
  where
    split
        : (r : Ordering) → made_cmp t o ≡ r
        → (is_told p v (differing ts (o ∷ os)) ≡ false → stamps_for p v ts ≡ stamps_for p v (o ∷ os))
        → (is_told p v (differing ts os) ≡ false → stamps_for p v ts ≡ stamps_for p v os)
        → (is_told p v (differing (t ∷ ts) os) ≡ false → stamps_for p v (t ∷ ts) ≡ stamps_for p v os)
        → is_told p v (as_compared r (made_change t ∷ differing ts (o ∷ os)) (differing ts os) (made_change o ∷ differing (t ∷ ts) os)) ≡ false
        → stamps_for p v (t ∷ ts) ≡ stamps_for p v (o ∷ os)
    split Less e below equal above g = let parts = or_parts (is_made_for p v t) (is_told p v (differing ts (o ∷ os))) g in passed p v t ts parts.0 ∙ below parts.1
    split Equal e below equal above g = subst (λ x. stamps_for p v (t ∷ ts) ≡ stamps_for p v (x ∷ os)) (made_same t o e) (same_first p v t ts os (equal g))
    split Greater e below equal above g = let parts = or_parts (is_made_for p v o) (is_told p v (differing (t ∷ ts) os)) g in above parts.1 ∙ sym (passed p v o os parts.0)

none_left : (ss : List ℕ) (n : ℕ) → ss ≡ [] → length ss ≡ n → n ≡ 0
none_left ss n none is = sym is ∙ ap (λ (xs : List ℕ). length xs) none

some_left : (p : ℕ) (v : PlainValue) (xs : List Made) → is_told p v (map made_change xs) ≡ true → stamps_for p v xs ≡ [] → ⊥
some_left p v xs h none = let some = some_made p v xs h in let zero_long = none_left (stamps_for p v xs) (length (stamps_for p v xs)) none refl in absurd (omega (arith, some, zero_long))

-- one that is told has not
pub differ_where_told : (p : ℕ) (v : PlainValue) (ts os : List Made) → IsInOrder made_cmp ts → IsInOrder made_cmp os → is_told p v (differing ts os) ≡ true → stamps_for p v ts ≡ stamps_for p v os → ⊥
differ_where_told p v [] os ordered others h same = some_left p v os h (sym same)
differ_where_told p v (t ∷ ts) [] ordered others h same = some_left p v (t ∷ ts) h same
differ_where_told p v (t ∷ ts) (o ∷ os) ordered others h same =
    split (made_cmp t o) refl (differ_where_told p v ts (o ∷ os) ordered.1 others) (differ_where_told p v ts os ordered.1 others.1) (differ_where_told p v (t ∷ ts) os ordered others.1) h
  where
    first : (b : Bool) → is_made_for p v t ≡ b → made_cmp t o ≡ Less → (is_told p v (differing ts (o ∷ os)) ≡ true → stamps_for p v ts ≡ stamps_for p v (o ∷ os) → ⊥) → (b || is_told p v (differing ts (o ∷ os))) ≡ true → ⊥
    first true own e below g = not_among p v t o (stamps_for p v ts) os own e others (sym (counted p v t ts own) ∙ same)
    first false other e below g = below g (sym (passed p v t ts other) ∙ same)

    second : (b : Bool) → is_made_for p v o ≡ b → made_cmp t o ≡ Greater → (is_told p v (differing (t ∷ ts) os) ≡ true → stamps_for p v (t ∷ ts) ≡ stamps_for p v os → ⊥) → (b || is_told p v (differing (t ∷ ts) os)) ≡ true → ⊥
    second true own e above g = not_among p v o t (stamps_for p v os) ts own (turned t o e) ordered (sym (counted p v o os own) ∙ sym same)
    second false other e above g = above g (same ∙ passed p v o os other)

    split
        : (r : Ordering) → made_cmp t o ≡ r
        → (is_told p v (differing ts (o ∷ os)) ≡ true → stamps_for p v ts ≡ stamps_for p v (o ∷ os) → ⊥)
        → (is_told p v (differing ts os) ≡ true → stamps_for p v ts ≡ stamps_for p v os → ⊥)
        → (is_told p v (differing (t ∷ ts) os) ≡ true → stamps_for p v (t ∷ ts) ≡ stamps_for p v os → ⊥)
        → is_told p v (as_compared r (made_change t ∷ differing ts (o ∷ os)) (differing ts os) (made_change o ∷ differing (t ∷ ts) os)) ≡ true
        → ⊥
    split Less e below equal above g = first (is_made_for p v t) refl e below g
    split Equal e below equal above g = equal g (same_others p v t ts os (subst (λ x. stamps_for p v (t ∷ ts) ≡ stamps_for p v (x ∷ os)) (sym (made_same t o e)) same))
    split Greater e below equal above g = second (is_made_for p v o) refl e above g

-- ---- in order

-- what holds of the place and value of each token holds of each that differs
pub each_differing : (P : PlainChange → Type 0) (ts os : List Made) → AllByRecursion (λ x. P (made_change x)) ts → AllByRecursion (λ x. P (made_change x)) os → AllByRecursion P (differing ts os)
each_differing P [] os first second = each_mapped P made_change os second
each_differing P (t ∷ ts) [] first second = each_mapped P made_change (t ∷ ts) first
each_differing P (t ∷ ts) (o ∷ os) first second = split (made_cmp t o) (each_differing P ts (o ∷ os) first.1 second) (each_differing P ts os first.1 second.1) (each_differing P (t ∷ ts) os first second.1)
  where
    split
        : (r : Ordering)
        → AllByRecursion P (differing ts (o ∷ os))
        → AllByRecursion P (differing ts os)
        → AllByRecursion P (differing (t ∷ ts) os)
        → AllByRecursion P (as_compared r (made_change t ∷ differing ts (o ∷ os)) (differing ts os) (made_change o ∷ differing (t ∷ ts) os))
    split Less below equal above = (first.0, below)
    split Equal below equal above = equal
    split Greater below equal above = (second.0, above)

behind : (t y : Made) → is_gt (made_cmp t y) ≡ false → is_gt (change_cmp (made_change t) (made_change y)) ≡ false
behind t y h = not_after (nat_cmp t.place y.place) (value_cmp t.value y.value) (nat_cmp t.stamp y.stamp) h

behind_each : (t : Made) (ys : List Made) → AllByRecursion (λ y. is_gt (made_cmp t y) ≡ false) ys → AllByRecursion (λ y. is_gt (change_cmp (made_change t) (made_change y)) ≡ false) ys
behind_each t ys all = each_implied (λ y. is_gt (made_cmp t y) ≡ false) (λ y. is_gt (change_cmp (made_change t) (made_change y)) ≡ false) ys (behind t) all

not_below_each : (t o : Made) (os : List Made) → made_cmp t o ≡ Less → IsInOrder made_cmp (o ∷ os) → AllByRecursion (λ y. is_gt (made_cmp t y) ≡ false) (o ∷ os)
not_below_each t o os less ordered = each_implied (λ y. made_cmp t y ≡ Less) (λ y. is_gt (made_cmp t y) ≡ false) (o ∷ os) (λ y h. ap is_gt h) (below_each t o os less ordered)

pub differing_in_order : (ts os : List Made) → IsInOrder made_cmp ts → IsInOrder made_cmp os → IsInOrder change_cmp (differing ts os)
differing_in_order [] os ordered others = outputs_stand_in_order os others
differing_in_order (t ∷ ts) [] ordered others = outputs_stand_in_order (t ∷ ts) ordered
differing_in_order (t ∷ ts) (o ∷ os) ordered others =
    split (made_cmp t o) refl (differing_in_order ts (o ∷ os) ordered.1 others) (differing_in_order ts os ordered.1 others.1) (differing_in_order (t ∷ ts) os ordered others.1)
  where
    split
        : (r : Ordering) → made_cmp t o ≡ r
        → IsInOrder change_cmp (differing ts (o ∷ os))
        → IsInOrder change_cmp (differing ts os)
        → IsInOrder change_cmp (differing (t ∷ ts) os)
        → IsInOrder change_cmp (as_compared r (made_change t ∷ differing ts (o ∷ os)) (differing ts os) (made_change o ∷ differing (t ∷ ts) os))
    split Less e below equal above =
        (each_differing (λ c. is_gt (change_cmp (made_change t) c) ≡ false) ts (o ∷ os) (behind_each t ts ordered.0) (behind_each t (o ∷ os) (not_below_each t o os e others)), below)
    split Equal e below equal above = equal
    split Greater e below equal above =
        (each_differing (λ c. is_gt (change_cmp (made_change o) c) ≡ false) (t ∷ ts) os (behind_each o (t ∷ ts) (not_below_each o t ts (turned t o e) ordered)) (behind_each o os others.0), above)
