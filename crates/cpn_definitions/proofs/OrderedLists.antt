-- Lists in the order of a comparison: they stay so when an item is added, and it makes no difference in which order items
-- are added.
use Rattle.std.proofs.Common.{◌≡◌, Bool, true, false, cond, List, [], ◌∷◌, ◌++◌, refl, sym, ap, subst, ◌∙◌, append_assoc, append-nil, Ordering, Less, Equal, Greater, is_lt, is_gt}
use Rattle.std.specs.List.{AllByRecursion}
use Rattle.std.specs.Ordering.{ordering_reverse}
use Rattle.std.specs.Cmp.{IsTotalOrder}
use Rattle.std.proofs.lemmas.Bool.{cond_both, cond-true, cond-false}
use Rattle.std.proofs.lemmas.Cmp.{upto}
use Rattle.cpn_definitions.specs.Lists.{IsInOrder, with_item, with_items, in_order}
use Rattle.cpn_definitions.proofs.RisingLists.{each_implied}

-- items that are put in order one after another
pub with_items_append : {X : Type 0} (c : X → X → Ordering) (xs ys zs : List X) → with_items c (xs ++ ys) zs ≡ with_items c ys (with_items c xs zs)
with_items_append c [] ys zs = refl
with_items_append c (x ∷ xs) ys zs = with_items_append c xs ys (with_item c x zs)

-- what comes before another is not after it
below : (o : Ordering) → is_lt o ≡ true → is_gt o ≡ false
below Less h = refl
below Equal h = refl
below Greater h = cc

not_before : (o : Ordering) → is_lt o ≡ false → is_gt (ordering_reverse o) ≡ false
not_before Less h = cc
not_before Equal h = refl
not_before Greater h = refl

-- what holds of each item and of one more holds of each with it
pub all_with_item : {X : Type 0} (c : X → X → Ordering) (P : X → Type 0) (x : X) (ys : List X) → P x → AllByRecursion P ys → AllByRecursion P (with_item c x ys)
all_with_item c P x [] is all = (is, tt)
all_with_item c P x (y ∷ ys) is all =
    cond_both (is_lt (c x y)) (x ∷ y ∷ ys) (y ∷ with_item c x ys) (AllByRecursion P) (λ _. (is, all)) (λ _. (all.0, all_with_item c P x ys is all.1))

module _ {X : Type 0} (c : X → X → Ordering) (total : IsTotalOrder c) where
  -- an item that does not come before another is not before it: the other is not after it
  turned : (x y : X) → is_lt (c x y) ≡ false → is_gt (c y x) ≡ false
  turned x y h = ap is_gt (total.antisymm y x) ∙ not_before (c x y) h

  -- an item that comes before the first comes before none that is below it
  first_of : (x y : X) (ys : List X) → is_lt (c x y) ≡ true → IsInOrder c (y ∷ ys) → AllByRecursion (λ z. is_gt (c x z) ≡ false) (y ∷ ys)
  first_of x y ys h ordered =
      let before = below (c x y) h in
      (before, each_implied (λ z. is_gt (c y z) ≡ false) (λ z. is_gt (c x z) ≡ false) ys (λ z later. upto total x y z before later) ordered.0)

  pub with_item_in_order : (x : X) (ys : List X) → IsInOrder c ys → IsInOrder c (with_item c x ys)
  with_item_in_order x [] ordered = (tt, tt)
  with_item_in_order x (y ∷ ys) ordered =
      cond_both (is_lt (c x y)) (x ∷ y ∷ ys) (y ∷ with_item c x ys) (IsInOrder c) (λ h. (first_of x y ys h ordered, ordered))
      (λ h. (all_with_item c (λ z. is_gt (c y z) ≡ false) x ys (turned x y h) ordered.0, with_item_in_order x ys ordered.1))

  pub with_items_in_order : (xs ys : List X) → IsInOrder c ys → IsInOrder c (with_items c xs ys)
  with_items_in_order [] ys ordered = ordered
  with_items_in_order (x ∷ xs) ys ordered = with_items_in_order xs (with_item c x ys) (with_item_in_order x ys ordered)

  -- the items of a list in their order are in order
  pub in_order_is : (xs : List X) → IsInOrder c (in_order c xs)
  in_order_is xs = with_items_in_order xs [] tt

  -- an item that comes before none is added at the end
  pub added_last : (x : X) (ys : List X) → AllByRecursion (λ y. is_lt (c x y) ≡ false) ys → with_item c x ys ≡ ys ++ x ∷ []
  added_last x [] all = refl
  added_last x (y ∷ ys) all = cond-false (is_lt (c x y)) (x ∷ y ∷ ys) (y ∷ with_item c x ys) all.0 ∙ ap (λ zs. y ∷ zs) (added_last x ys all.1)

  -- an item that is not after another: the other does not come before it
  unturned : (y x : X) → is_gt (c y x) ≡ false → is_lt (c x y) ≡ false
  unturned y x h = back (c y x) (c x y) (total.antisymm x y) h
    where
      back : (o p : Ordering) → p ≡ ordering_reverse o → is_gt o ≡ false → is_lt p ≡ false
      back Less p is h = ap is_lt is
      back Equal p is h = ap is_lt is
      back Greater p is h = cc

  first_behind : (P : X → Type 0) (ys : List X) (x : X) (xs : List X) → AllByRecursion P (ys ++ x ∷ xs) → P x
  first_behind P [] x xs all = all.0
  first_behind P (y ∷ ys) x xs all = first_behind P ys x xs all.1

  -- of items in order, none of those ahead of one comes after it
  ahead : (ys : List X) (x : X) (xs : List X) → IsInOrder c (ys ++ x ∷ xs) → AllByRecursion (λ y. is_lt (c x y) ≡ false) ys
  ahead [] x xs ordered = tt
  ahead (y ∷ ys) x xs ordered = (unturned y x (first_behind (λ z. is_gt (c y z) ≡ false) ys x xs ordered.0), ahead ys x xs ordered.1)

  kept : (xs ys : List X) → IsInOrder c (ys ++ xs) → with_items c xs ys ≡ ys ++ xs
  kept [] ys ordered = sym (append-nil ys)
  kept (x ∷ xs) ys ordered =
      let last = added_last x ys (ahead ys x xs ordered) in
      let joined : (ys ++ x ∷ []) ++ xs ≡ ys ++ x ∷ xs = append_assoc ys (x ∷ []) xs in
      ap (with_items c xs) last ∙ kept xs (ys ++ x ∷ []) (subst (IsInOrder c) (sym joined) ordered) ∙ joined

  -- items that are in order stay as they are
  pub in_order_same : (xs : List X) → IsInOrder c xs → in_order c xs ≡ xs
  in_order_same xs ordered = kept xs [] ordered

  -- ---- the order in which items are added

  module _ (same : (x y : X) → c x y ≡ Equal → x ≡ y) where
    not_both : (x y : X) → is_lt (c x y) ≡ true → is_lt (c y x) ≡ false
    not_both x y h = back (c x y) (c y x) (total.antisymm y x) h
      where
        back : (o p : Ordering) → p ≡ ordering_reverse o → is_lt o ≡ true → is_lt p ≡ false
        back Less p is h = ap is_lt is
        back Equal p is h = cc
        back Greater p is h = cc

    neither : (x y : X) → is_lt (c x y) ≡ false → is_lt (c y x) ≡ false → x ≡ y
    neither x y h g = same x y (middle (c x y) (c y x) (total.antisymm y x) h g)
      where
        middle : (o p : Ordering) → p ≡ ordering_reverse o → is_lt o ≡ false → is_lt p ≡ false → o ≡ Equal
        middle Less p is h g = cc
        middle Equal p is h g = refl
        middle Greater p is h g = let e : is_lt p ≡ true = ap is_lt is in cc

    less_trans : (x y z : X) → is_lt (c x y) ≡ true → is_lt (c y z) ≡ true → is_lt (c x z) ≡ true
    less_trans x y z h g = ap is_lt (total.trans x y z (less (c x y) h) (less (c y z) g))
      where
        less : (o : Ordering) → is_lt o ≡ true → o ≡ Less
        less Less h = refl
        less Equal h = cc
        less Greater h = cc

    two_first : (x y : X) (zs : List X) → cond (is_lt (c x y)) (x ∷ y ∷ zs) (y ∷ x ∷ zs) ≡ cond (is_lt (c y x)) (y ∷ x ∷ zs) (x ∷ y ∷ zs)
    two_first x y zs = split (is_lt (c x y)) (is_lt (c y x)) refl refl
      where
        split : (a b : Bool) → is_lt (c x y) ≡ a → is_lt (c y x) ≡ b → cond a (x ∷ y ∷ zs) (y ∷ x ∷ zs) ≡ cond b (y ∷ x ∷ zs) (x ∷ y ∷ zs)
        split true true h g = let e : is_lt (c y x) ≡ false = not_both x y h in cc
        split true false h g = refl
        split false true h g = refl
        split false false h g = let e : x ≡ y = neither x y h g in ap (λ z. z ∷ x ∷ zs) (sym e) ∙ ap (λ z. x ∷ z ∷ zs) e

    -- it makes no difference which of two items is added first
    pub added_either_way : (x y : X) (zs : List X) → with_item c x (with_item c y zs) ≡ with_item c y (with_item c x zs)
    added_either_way x y [] = two_first x y []
    added_either_way x y (z ∷ zs) = split (is_lt (c x z)) (is_lt (c y z)) refl refl (added_either_way x y zs)
      where
        split
            : (a b : Bool) → is_lt (c x z) ≡ a → is_lt (c y z) ≡ b
            → with_item c x (with_item c y zs) ≡ with_item c y (with_item c x zs)
            → with_item c x (cond b (y ∷ z ∷ zs) (z ∷ with_item c y zs)) ≡ with_item c y (cond a (x ∷ z ∷ zs) (z ∷ with_item c x zs))
        split true true h g rest =
            ap (λ us. cond (is_lt (c x y)) (x ∷ y ∷ z ∷ zs) (y ∷ us)) (cond-true (is_lt (c x z)) (x ∷ z ∷ zs) (z ∷ with_item c x zs) h) ∙ two_first x y (z ∷ zs)
            ∙ sym (ap (λ us. cond (is_lt (c y x)) (y ∷ x ∷ z ∷ zs) (x ∷ us)) (cond-true (is_lt (c y z)) (y ∷ z ∷ zs) (z ∷ with_item c y zs) g))
        split true false h g rest =
            let later : is_lt (c y x) ≡ false = no_less (is_lt (c y x)) refl in
            cond-true (is_lt (c x z)) (x ∷ z ∷ with_item c y zs) (z ∷ with_item c x (with_item c y zs)) h
            ∙ sym (cond-false (is_lt (c y x)) (y ∷ x ∷ z ∷ zs) (x ∷ with_item c y (z ∷ zs)) later ∙ ap (λ us. x ∷ us) (cond-false (is_lt (c y z)) (y ∷ z ∷ zs) (z ∷ with_item c y zs) g))
          where
            no_less : (b : Bool) → is_lt (c y x) ≡ b → is_lt (c y x) ≡ false
            no_less true is = let e : is_lt (c y z) ≡ true = less_trans y x z is h in cc
            no_less false is = is
        split false true h g rest =
            let later : is_lt (c x y) ≡ false = no_less (is_lt (c x y)) refl in
            cond-false (is_lt (c x y)) (x ∷ y ∷ z ∷ zs) (y ∷ with_item c x (z ∷ zs)) later ∙ ap (λ us. y ∷ us) (cond-false (is_lt (c x z)) (x ∷ z ∷ zs) (z ∷ with_item c x zs) h)
            ∙ sym (cond-true (is_lt (c y z)) (y ∷ z ∷ with_item c x zs) (z ∷ with_item c y (with_item c x zs)) g)
          where
            no_less : (b : Bool) → is_lt (c x y) ≡ b → is_lt (c x y) ≡ false
            no_less true is = let e : is_lt (c x z) ≡ true = less_trans x y z is g in cc
            no_less false is = is
        split false false h g rest =
            cond-false (is_lt (c x z)) (x ∷ z ∷ with_item c y zs) (z ∷ with_item c x (with_item c y zs)) h ∙ ap (λ us. z ∷ us) rest
            ∙ sym (cond-false (is_lt (c y z)) (y ∷ z ∷ with_item c x zs) (z ∷ with_item c y (with_item c x zs)) g)

    one_later : (xs : List X) (y : X) (zs : List X) → with_items c xs (with_item c y zs) ≡ with_item c y (with_items c xs zs)
    one_later [] y zs = refl
    one_later (x ∷ xs) y zs = ap (with_items c xs) (added_either_way x y zs) ∙ one_later xs y (with_item c x zs)

    items_either_way : (xs ys zs : List X) → with_items c ys (with_items c xs zs) ≡ with_items c xs (with_items c ys zs)
    items_either_way [] ys zs = refl
    items_either_way (x ∷ xs) ys zs = items_either_way xs ys (with_item c x zs) ∙ ap (with_items c xs) (one_later ys x zs)

    -- two neighbouring parts of a list, exchanged: in order they are the same
    pub exchanged_in_order : (before xs ys later : List X) → in_order c (before ++ (xs ++ (ys ++ later))) ≡ in_order c (before ++ (ys ++ (xs ++ later)))
    exchanged_in_order before xs ys later =
        let zs = with_items c before [] in
        with_items_append c before (xs ++ (ys ++ later)) [] ∙ with_items_append c xs (ys ++ later) zs ∙ with_items_append c ys later (with_items c xs zs)
        ∙ ap (with_items c later) (items_either_way xs ys zs)
        ∙ sym (with_items_append c before (ys ++ (xs ++ later)) [] ∙ with_items_append c ys (xs ++ later) zs ∙ with_items_append c xs later (with_items c ys zs))

-- what holds of each item holds of each of them in order
pub each_with_items : {X : Type 0} (c : X → X → Ordering) (P : X → Type 0) (xs ys : List X) → AllByRecursion P xs → AllByRecursion P ys → AllByRecursion P (with_items c xs ys)
each_with_items c P [] ys first rest = rest
each_with_items c P (x ∷ xs) ys first rest = each_with_items c P xs (with_item c x ys) first.1 (all_with_item c P x ys first.0 rest)
