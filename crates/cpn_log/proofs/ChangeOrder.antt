-- The order of places with values: those of needs and of outputs stand in it, and so does what is sorted by it.
use Rattle.std.proofs.Common.{◌≡◌, ℕ, suc, ◌+◌, ◌==◌, Bool, true, false, ◌&&◌, List, [], ◌∷◌, map, get_or, refl, sym, ap, subst, ◌∙◌, eqb-true, arith, Ordering, Less, Equal, Greater, nat_cmp, is_lt, is_gt}
use Rattle.std.proofs.Math.Path.{ap₂}
use Rattle.std.specs.List.{AllByRecursion}
use Rattle.std.specs.List.Sorted.{IsSortedBy}
use Rattle.std.specs.Ordering.{ordering_reverse}
use Rattle.std.proofs.lemmas.Bool.{and_parts}
use Rattle.std.proofs.lemmas.Cmp.{alike_right}
use Rattle.std.proofs.lemmas.List.Sorted.{ranks_by, sorted_far}
use Rattle.cpn_definitions.specs.Order.{value_cmp, same_value}
use Rattle.cpn_definitions.specs.ValueOrder.{same_value_true, same_value_refl}
use Rattle.cpn_definitions.specs.Lists.{IsInOrder}
use Rattle.cpn_definitions.specs.Occurrence.{Needed, Made, needed_cmp, made_cmp}
use Rattle.cpn_definitions.proofs.RisingLists.{each_in, contains_from_in}
use Rattle.cpn_definitions.proofs.NumberTests.{equals_itself}
use Rattle.cpn_definitions.proofs.InsertIndexes.{not_after}
use Rattle.cpn_tmset.specs.Changed.{PlainChange, change_cmp}
use Rattle.cpn_tmset.proofs.ChangeOrder.{change_cmp_total, change_same}
use Rattle.cpn_log.specs.Gathered.{same_change, need_change, made_change}

pub same_change_true : (x y : PlainChange) → same_change x y ≡ true → x ≡ y
same_change_true x y h =
    let parts = and_parts (x.place == y.place) (same_value x.value y.value) h in
    let places : x.place ≡ y.place = eqb-true x.place y.place parts.0 in
    let values : x.value ≡ y.value = same_value_true x.value y.value parts.1 in
    let e : record { place = x.place; value = x.value } ≡ y = ap₂ (λ p v. record { place = p; value = v }) places values in e

pub same_change_refl : (x : PlainChange) → same_change x x ≡ true
same_change_refl x = ap₂ (λ a b. a && b) (equals_itself x.place) (same_value_refl x.value)

-- it is symmetric
pub same_change_sym : (x y : PlainChange) → same_change x y ≡ same_change y x
same_change_sym x y = split (same_change x y) (same_change y x) refl refl
  where
    split : (a b : Bool) → same_change x y ≡ a → same_change y x ≡ b → a ≡ b
    split true true first second = refl
    split false false first second = refl
    split true false first second = let P : PlainChange → Type 0 = λ z. same_change z x ≡ true in sym (subst P (same_change_true x y first) (same_change_refl x)) ∙ second
    split false true first second = let P : PlainChange → Type 0 = λ z. same_change z y ≡ true in sym first ∙ subst P (same_change_true y x second) (same_change_refl y)

-- what comes before one that isn't after a third comes before the third
pub less_up_to : (u v w : PlainChange) → change_cmp u v ≡ Less → is_gt (change_cmp v w) ≡ false → change_cmp u w ≡ Less
less_up_to u v w h g = split (change_cmp v w) refl g
  where
    split : (o : Ordering) → change_cmp v w ≡ o → is_gt o ≡ false → change_cmp u w ≡ Less
    split Less e f = change_cmp_total.trans u v w h e
    split Equal e f = sym (alike_right change_cmp_total v w u e) ∙ h
    split Greater e f = cc

-- of two that differ, the one that isn't after the other comes before it
pub less_where_differ : (u v : PlainChange) → is_gt (change_cmp u v) ≡ false → same_change u v ≡ false → change_cmp u v ≡ Less
less_where_differ u v g differ = split (change_cmp u v) refl g
  where
    split : (o : Ordering) → change_cmp u v ≡ o → is_gt o ≡ false → o ≡ Less
    split Less e f = refl
    split Equal e f = let P : PlainChange → Type 0 = λ z. same_change u z ≡ true in let same : same_change u v ≡ true = subst P (change_same u v e) (same_change_refl u) in cc
    split Greater e f = cc

-- ---- in order

-- a list in order is in order when each item is seen by another, where that keeps the order
mapped_each : {X Y : Type 0} (C : X → X → Ordering) (D : Y → Y → Ordering) (f : X → Y) → ((x y : X) → is_gt (C x y) ≡ false → is_gt (D (f x) (f y)) ≡ false) → (x : X) (xs : List X) → AllByRecursion (λ y. is_gt (C x y) ≡ false) xs → AllByRecursion (λ y. is_gt (D (f x) y) ≡ false) (map f xs)
mapped_each C D f keeps x [] all = tt
mapped_each C D f keeps x (y ∷ ys) all = (keeps x y all.0, mapped_each C D f keeps x ys all.1)

mapped_in_order : {X Y : Type 0} (C : X → X → Ordering) (D : Y → Y → Ordering) (f : X → Y) → ((x y : X) → is_gt (C x y) ≡ false → is_gt (D (f x) (f y)) ≡ false) → (xs : List X) → IsInOrder C xs → IsInOrder D (map f xs)
mapped_in_order C D f keeps [] ordered = tt
mapped_in_order C D f keeps (x ∷ xs) ordered = (mapped_each C D f keeps x xs ordered.0, mapped_in_order C D f keeps xs ordered.1)

pub needs_stand_in_order : (needs : List Needed) → IsInOrder needed_cmp needs → IsInOrder change_cmp (map need_change needs)
needs_stand_in_order needs ordered = mapped_in_order needed_cmp change_cmp need_change (λ x y h. not_after (nat_cmp x.place y.place) (value_cmp x.value y.value) (nat_cmp x.offset y.offset) h) needs ordered

pub outputs_stand_in_order : (outputs : List Made) → IsInOrder made_cmp outputs → IsInOrder change_cmp (map made_change outputs)
outputs_stand_in_order outputs ordered = mapped_in_order made_cmp change_cmp made_change (λ x y h. not_after (nat_cmp x.place y.place) (value_cmp x.value y.value) (nat_cmp x.stamp y.stamp) h) outputs ordered

-- ---- what is sorted

module _ {X : Type 0} (view : X → PlainChange) where
  abbrev before : X → X → Bool
  before x y = is_lt (change_cmp (view x) (view y))

  sorted_rest : (x : X) (xs : List X) → IsSortedBy before (x ∷ xs) → IsSortedBy before xs
  sorted_rest x xs sorted k d low lt =
      let next : suc k + 1 ≡ suc (k + 1) = omega arith in
      subst (λ (j : ℕ). before (get_or (x ∷ xs) j d) (get_or xs k d) ≡ false) next (sorted (suc k) d (omega arith) (omega arith))

  turned : (x y : X) → before y x ≡ false → is_gt (change_cmp (view x) (view y)) ≡ false
  turned x y h = split (change_cmp (view y) (view x)) refl
    where
      split : (o : Ordering) → change_cmp (view y) (view x) ≡ o → is_gt (change_cmp (view x) (view y)) ≡ false
      split Less e = cc
      split Equal e = ap is_gt (change_cmp_total.antisymm (view x) (view y) ∙ ap ordering_reverse e)
      split Greater e = ap is_gt (change_cmp_total.antisymm (view x) (view y) ∙ ap ordering_reverse e)

  first_of_sorted : (x : X) (xs : List X) → IsSortedBy before (x ∷ xs) → AllByRecursion (λ y. is_gt (change_cmp (view x) (view y)) ≡ false) xs
  first_of_sorted x xs sorted =
      each_in (λ y. is_gt (change_cmp (view x) (view y)) ≡ false) xs
      (λ y is. let at = contains_from_in xs y is in turned x y (subst (λ z. before z x ≡ false) at.2 (sorted_far before (ranks_by change_cmp_total view) (x ∷ xs) sorted 0 (suc at.0) y (omega arith) (let within = at.1 in omega (arith, within)))))

  all_viewed : (x : X) (xs : List X) → AllByRecursion (λ y. is_gt (change_cmp (view x) (view y)) ≡ false) xs → AllByRecursion (λ d. is_gt (change_cmp (view x) d) ≡ false) (map view xs)
  all_viewed x [] all = tt
  all_viewed x (y ∷ ys) all = (all.0, all_viewed x ys all.1)

  -- what is sorted stands in order
  pub sorted_in_order : (xs : List X) → IsSortedBy before xs → IsInOrder change_cmp (map view xs)
  sorted_in_order [] sorted = tt
  sorted_in_order (x ∷ xs) sorted = (all_viewed x xs (first_of_sorted x xs sorted), sorted_in_order xs (sorted_rest x xs sorted))
