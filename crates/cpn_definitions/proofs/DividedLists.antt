-- Lists in order, and where a test divides them: of two items the earlier does not come after the later, so a test that passes
-- at each item that does not come after one where it passes divides the list. A list may be seen item by item: it is
-- divided where its views are.
use Rattle.std.proofs.Common.{◌≡◌, ℕ, zero, suc, ◌<◌, ◌≤◌, Bool, true, false, List, [], ◌∷◌, map, length, get_or, sym, ap, ap₂, ◌∙◌, arith, Ordering, is_gt}
use Rattle.std.specs.List.{AllByRecursion}
use Rattle.std.specs.List.Sorted.{IsPartitionPoint, IsPartitionedBy}
use Rattle.std.specs.Cmp.{IsTotalOrder}
use Rattle.std.proofs.lemmas.List.{length-map, get_or-map}
use Rattle.std.proofs.lemmas.Cmp.{tied_itself}
use Rattle.cpn_definitions.specs.Lists.{IsInOrder}
use Rattle.cpn_definitions.proofs.ViewedLists.{within, seen_at}

-- what holds of each item of a list holds of the one at an index
each_at : {X : Type 0} (P : X → Type 0) (xs : List X) (j : ℕ) (d : X) → AllByRecursion P xs → j < length xs → P (get_or xs j d)
each_at P [] j d all lt = absurd (omega arith)
each_at P (x ∷ xs) zero d all lt = all.0
each_at P (x ∷ xs) (suc j) d all lt = each_at P xs j d all.1 (omega arith)

module _ {X : Type 0} (c : X → X → Ordering) (total : IsTotalOrder c) where
  -- of two items in order the earlier does not come after the later
  pub ordered_places : (xs : List X) (i j : ℕ) (d : X) → IsInOrder c xs → i ≤ j → j < length xs → is_gt (c (get_or xs i d) (get_or xs j d)) ≡ false
  ordered_places [] i j d ordered le lt = absurd (omega arith)
  ordered_places (x ∷ xs) zero zero d ordered le lt = ap is_gt (tied_itself total x)
  ordered_places (x ∷ xs) zero (suc j) d ordered le lt = each_at (λ y. is_gt (c x y) ≡ false) xs j d ordered.0 (omega arith)
  ordered_places (x ∷ xs) (suc i) zero d ordered le lt = absurd (omega arith)
  ordered_places (x ∷ xs) (suc i) (suc j) d ordered le lt = ordered_places xs i j d ordered.1 (omega arith) (omega arith)

  -- a test that passes at each item that does not come after one where it passes divides the list
  pub divided : {A : Type 0} (view : A → X) (test : X → Bool) → ((x y : X) → is_gt (c x y) ≡ false → test y ≡ true → test x ≡ true) → (xs : List A) → IsInOrder c (map view xs) → IsPartitionedBy (λ a. test (view a)) xs
  divided view test down xs ordered i j d le lt is =
      down (view (get_or xs i d)) (view (get_or xs j d))
      (ap₂ (λ x y. is_gt (c x y)) (sym (get_or-map view xs i d (view d) (omega arith))) (sym (get_or-map view xs j d (view d) lt)) ∙ ordered_places (map view xs) i j (view d) ordered le (within view xs j lt)) is

-- where a test divides a list, it divides the views
pub divided_views
    : {A X : Type 0} (view : A → X) (test : X → Bool) (xs : List A) (i : ℕ) → i ≤ length xs
    → IsPartitionPoint (λ a. test (view a) ≡ true) (λ a. test (view a) ≡ false) xs i
    → IsPartitionPoint (λ x. test x ≡ true) (λ x. test x ≡ false) (map view xs) i
divided_views view test xs i le point =
    let same : length (map view xs) ≡ length xs = length-map xs view in (
      λ k d from below. seen_at view (λ x. test x ≡ true) xs k d (omega arith) (λ e. point.0 k e from below),
      λ k d from below. seen_at view (λ x. test x ≡ false) xs k d (omega arith) (λ e. point.1 k e from (omega arith)),
    )
