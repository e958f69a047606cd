-- Where an item is added to a list in order: the comparison divides the list there, and with the item put there it is the list
-- with one item more (`with_item`), in order again.
use Rattle.std.proofs.Common.{◌≡◌, ℕ, zero, suc, ◌≤◌, Bool, true, false, not, List, [], ◌∷◌, ◌++◌, map, length, get_or, take, drop, insert, refl, sym, ap, ap₂, subst, ◌∙◌, arith, Ordering, Less, Equal, Greater, is_lt, is_gt}
use Rattle.std.specs.List.Sorted.{IsPartitionPoint, IsPartitionedBy}
use Rattle.std.specs.Ordering.{ordering_reverse, ordering_then}
use Rattle.std.specs.Cmp.{IsTotalOrder}
use Rattle.std.proofs.lemmas.Bool.{cond-true, cond-false}
use Rattle.std.proofs.lemmas.List.{length-map, map-append, take-map, drop-map}
use Rattle.std.proofs.lemmas.Cmp.{upto}
use Rattle.cpn_definitions.specs.Lists.{IsInOrder, with_item}
use Rattle.cpn_definitions.proofs.DividedLists.{divided, divided_views}
use Rattle.cpn_definitions.proofs.OrderedLists.{with_item_in_order}
use Rattle.cpn_definitions.specs.InsertIndexes.{IsInsertIndex}

pub turn_lt : (o : Ordering) → is_gt (ordering_reverse o) ≡ is_lt o
turn_lt Less = refl
turn_lt Equal = refl
turn_lt Greater = refl

-- what is not after another by three comparisons in turn is not by the first two
pub not_after : (o p q : Ordering) → is_gt (ordering_then o (ordering_then p q)) ≡ false → is_gt (ordering_then o p) ≡ false
not_after Less p q h = refl
not_after Equal Less q h = refl
not_after Equal Equal q h = refl
not_after Equal Greater q h = h
not_after Greater p q h = h

module _ {A X : Type 0} (view : A → X) (c : X → X → Ordering) where
  -- that an item does not come before those of a list in order divides it
  pub divided_by_item : IsTotalOrder c → (x : X) (xs : List A) → IsInOrder c (map view xs) → IsPartitionedBy (λ y. not (is_lt (c x (view y)))) xs
  divided_by_item total x xs ordered = divided c total view (λ y. not (is_lt (c x y))) (λ a b le h. ap not (sym (turned a) ∙ upto total a b x le (turned b ∙ unnot (is_lt (c x b)) h))) xs ordered
    where
      turned : (y : X) → is_gt (c y x) ≡ is_lt (c x y)
      turned y = ap is_gt (total.antisymm y x) ∙ turn_lt (c x y)

      unnot : (b : Bool) → not b ≡ true → b ≡ false
      unnot true h = cc
      unnot false h = refl

  -- where the test divides a list, the item is to be put among the views
  pub item_index : (x : X) (xs : List A) (i : ℕ) → i ≤ length xs → IsPartitionPoint (λ y. not (is_lt (c x (view y))) ≡ true) (λ y. not (is_lt (c x (view y))) ≡ false) xs i → IsInsertIndex c x (map view xs) i
  item_index x xs i le point =
      let seen = divided_views view (λ y. not (is_lt (c x y))) xs i le point in
      (λ k d from below. off (is_lt (c x (get_or (map view xs) k d))) (seen.0 k d from below), λ k d from below. on (is_lt (c x (get_or (map view xs) k d))) (seen.1 k d from below))
    where
      off : (b : Bool) → not b ≡ true → b ≡ false
      off true h = cc
      off false h = refl

      on : (b : Bool) → not b ≡ false → b ≡ true
      on true h = refl
      on false h = cc

-- the list with the item put at its index is the list with one item more
pub inserted : {X : Type 0} (c : X → X → Ordering) (x : X) (xs : List X) (i : ℕ) → i ≤ length xs → IsInsertIndex c x xs i → insert xs i x ≡ with_item c x xs
inserted c x [] i le index = let at : i ≡ 0 = omega arith in rw at refl
inserted c x (y ∷ ys) zero le index =
    sym (cond-true (is_lt (c x y)) (x ∷ y ∷ ys) (y ∷ with_item c x ys) (index.1 0 y (omega arith) (omega arith)))
inserted c x (y ∷ ys) (suc i) le index =
    ap (λ zs. y ∷ zs) (inserted c x ys i (omega arith) ((λ k d from below. index.0 (suc k) d (omega arith) (omega arith)), (λ k d from below. index.1 (suc k) d (omega arith) (omega arith))))
    ∙ sym (cond-false (is_lt (c x y)) (x ∷ y ∷ ys) (y ∷ with_item c x ys) (index.0 0 y (omega arith) (omega arith)))

-- the same of a list that is seen item by item, whose index was found in its slice
module _ {A X : Type 0} (view : A → X) (c : X → X → Ordering) (x : A) (xs slice : List A) (i : ℕ) (same : slice ≡ xs) (le : i ≤ length slice) (index : IsInsertIndex c (view x) (map view slice) i) where
  pub inserted_views : map view (insert xs i x) ≡ with_item c (view x) (map view xs)
  inserted_views =
      map-append view (take i xs) (x ∷ drop i xs) ∙ ap₂ (λ us vs. us ++ view x ∷ vs) (sym (take-map view i xs)) (sym (drop-map view i xs))
      ∙ inserted c (view x) (map view xs) i (let as_many : length (map view xs) ≡ length xs = length-map xs view in let le' : i ≤ length xs = subst (λ ys. i ≤ length ys) same le in omega arith)
      (subst (λ ys. IsInsertIndex c (view x) (map view ys) i) same index)

  -- what was in order stays in order
  pub inserted_in_order : IsTotalOrder c → IsInOrder c (map view xs) → IsInOrder c (map view (insert xs i x))
  inserted_in_order total ordered = subst (IsInOrder c) (sym inserted_views) (with_item_in_order c total (view x) (map view xs) ordered)
