-- A rising list around one of its items: what comes before an item that is on its left, and after one that is on its right; where an
-- item is put in the list, what a list without it is, and what is found in it.
use Rattle.std.proofs.Common.{◌≡◌, Bool, true, false, cond, not, ◌||◌, List, [], ◌∷◌, ◌++◌, Some, None, find, refl, sym, ap, subst, ◌∙◌, Ordering, Less, Equal, Greater, is_lt, is_eq, append_assoc}
use Rattle.std.specs.List.{filter, list_any, AllByRecursion}
use Rattle.std.specs.Ordering.{ordering_reverse}
use Rattle.std.specs.Cmp.{IsTotalOrder}
use Rattle.std.proofs.lemmas.Bool.{cond_both, cond-true, cond-false}
use Rattle.cpn_definitions.specs.Lists.{Rises, with_item}
use Rattle.cpn_definitions.proofs.RisingLists.{each_implied}
use Rattle.cpn_definitions.proofs.OrderedLists.{all_with_item}

-- ---- parts of a list

pub each_left : {X : Type 0} (P : X → Type 0) (xs ys : List X) → AllByRecursion P (xs ++ ys) → AllByRecursion P xs
each_left P [] ys all = tt
each_left P (x ∷ xs) ys all = (all.0, each_left P xs ys all.1)

pub each_right : {X : Type 0} (P : X → Type 0) (xs ys : List X) → AllByRecursion P (xs ++ ys) → AllByRecursion P ys
each_right P [] ys all = all
each_right P (x ∷ xs) ys all = each_right P xs ys all.1

pub rises_left : {X : Type 0} (c : X → X → Ordering) (xs ys : List X) → Rises c (xs ++ ys) → Rises c xs
rises_left c [] ys rise = tt
rises_left c (x ∷ xs) ys rise = (each_left (λ y. c x y ≡ Less) xs ys rise.0, rises_left c xs ys rise.1)

pub rises_right : {X : Type 0} (c : X → X → Ordering) (xs ys : List X) → Rises c (xs ++ ys) → Rises c ys
rises_right c [] ys rise = rise
rises_right c (x ∷ xs) ys rise = rises_right c xs ys rise.1

each_past : {X : Type 0} (P : X → Type 0) (xs : List X) (k : X) (ys : List X) → AllByRecursion P (xs ++ k ∷ ys) → AllByRecursion P (xs ++ ys)
each_past P [] k ys all = all.1
each_past P (x ∷ xs) k ys all = (all.0, each_past P xs k ys all.1)

-- without one of its items
pub rises_past : {X : Type 0} (c : X → X → Ordering) (xs : List X) (k : X) (ys : List X) → Rises c (xs ++ k ∷ ys) → Rises c (xs ++ ys)
rises_past c [] k ys rise = rise.1
rises_past c (x ∷ xs) k ys rise = (each_past (λ y. c x y ≡ Less) xs k ys rise.0, rises_past c xs k ys rise.1)

pub rises_filtered : {X : Type 0} (c : X → X → Ordering) (p : X → Bool) (xs : List X) → Rises c xs → Rises c (filter p xs)
rises_filtered c p [] rise = tt
rises_filtered {X} c p (x ∷ xs) rise = split (p x) (rises_filtered c p xs rise.1)
  where
    split : (test : Bool) → Rises c (filter p xs) → Rises c (cond test (x ∷ filter p xs) (filter p xs))
    split true rest = (each_kept xs rise.0, rest)
      where
        each_kept : (ys : List X) → AllByRecursion (λ y. c x y ≡ Less) ys → AllByRecursion (λ y. c x y ≡ Less) (filter p ys)
        each_kept [] all = tt
        each_kept (y ∷ ys) all = cond_both (p y) (y ∷ filter p ys) (filter p ys) (AllByRecursion (λ y. c x y ≡ Less)) (λ _. (all.0, each_kept ys all.1)) (λ _. each_kept ys all.1)
    split false rest = rest

module _ {X : Type 0} (c : X → X → Ordering) where
  -- x comes before each, or after each
  abbrev pub BeforeAll : X → List X → Type 0
  BeforeAll x ys = AllByRecursion (λ y. c x y ≡ Less) ys

  abbrev pub AfterAll : X → List X → Type 0
  AfterAll x ys = AllByRecursion (λ y. c x y ≡ Greater) ys

  -- ---- the list with x

  pub put_left : (x k : X) (l r : List X) → c x k ≡ Less → with_item c x (l ++ k ∷ r) ≡ with_item c x l ++ k ∷ r
  put_left x k [] r less = cond-true (is_lt (c x k)) (x ∷ k ∷ r) (k ∷ with_item c x r) (ap is_lt less)
  put_left x k (y ∷ l) r less = split (is_lt (c x y)) (put_left x k l r less)
    where
      split : (b : Bool) → with_item c x (l ++ k ∷ r) ≡ with_item c x l ++ k ∷ r → cond b (x ∷ y ∷ (l ++ k ∷ r)) (y ∷ with_item c x (l ++ k ∷ r)) ≡ cond b (x ∷ y ∷ l) (y ∷ with_item c x l) ++ k ∷ r
      split true rest = refl
      split false rest = ap (λ zs. y ∷ zs) rest

  pub put_past : (x : X) (l m : List X) → AfterAll x l → with_item c x (l ++ m) ≡ l ++ with_item c x m
  put_past x [] m after = refl
  put_past x (y ∷ l) m after = cond-false (is_lt (c x y)) (x ∷ y ∷ (l ++ m)) (y ∷ with_item c x (l ++ m)) (ap is_lt after.0) ∙ ap (λ zs. y ∷ zs) (put_past x l m after.1)

  -- ---- what is tied with x

  -- none is tied with x where x comes before each, or after each
  pub none_before : (x : X) (ys : List X) → BeforeAll x ys → list_any (λ y. is_eq (c x y)) ys ≡ false
  none_before x [] before = refl
  none_before x (y ∷ ys) before = ap (λ o. is_eq o || list_any (λ z. is_eq (c x z)) ys) before.0 ∙ none_before x ys before.1

  pub none_after : (x : X) (ys : List X) → AfterAll x ys → list_any (λ y. is_eq (c x y)) ys ≡ false
  none_after x [] after = refl
  none_after x (y ∷ ys) after = ap (λ o. is_eq o || list_any (λ z. is_eq (c x z)) ys) after.0 ∙ none_after x ys after.1

-- where none passes, a list without those that pass is the list, and none is found
pub kept_whole : {X : Type 0} (p : X → Bool) (xs : List X) → list_any p xs ≡ false → filter (λ x. not (p x)) xs ≡ xs
kept_whole p [] none = refl
kept_whole {X} p (x ∷ xs) none = split (p x) none (kept_whole p xs)
  where
    split : (b : Bool) → (b || list_any p xs) ≡ false → (list_any p xs ≡ false → filter (λ x. not (p x)) xs ≡ xs) → cond (not b) (x ∷ filter (λ x. not (p x)) xs) (filter (λ x. not (p x)) xs) ≡ x ∷ xs
    split true h rest = cc
    split false h rest = ap (λ zs. x ∷ zs) (rest h)

pub none_found : {X : Type 0} (p : X → Bool) (xs : List X) → list_any p xs ≡ false → find p xs ≡ None
none_found p [] none = refl
none_found {X} p (x ∷ xs) none = split (p x) none (none_found p xs)
  where
    split : (b : Bool) → (b || list_any p xs) ≡ false → (list_any p xs ≡ false → find p xs ≡ None) → cond b (Some x) (find p xs) ≡ None
    split true h rest = cc
    split false h rest = rest h

-- past those that do not pass
pub found_past : {X : Type 0} (p : X → Bool) (xs ys : List X) → list_any p xs ≡ false → find p (xs ++ ys) ≡ find p ys
found_past p [] ys none = refl
found_past {X} p (x ∷ xs) ys none = split (p x) none (found_past p xs ys)
  where
    split : (b : Bool) → (b || list_any p xs) ≡ false → (list_any p xs ≡ false → find p (xs ++ ys) ≡ find p ys) → cond b (Some x) (find p (xs ++ ys)) ≡ find p ys
    split true h rest = cc
    split false h rest = rest h

-- before those that do not pass
pub found_before : {X : Type 0} (p : X → Bool) (xs ys : List X) → list_any p ys ≡ false → find p (xs ++ ys) ≡ find p xs
found_before p [] ys none = none_found p ys none
found_before p (x ∷ xs) ys none = ap (cond (p x) (Some x)) (found_before p xs ys none)

pub filter_append : {X : Type 0} (p : X → Bool) (xs ys : List X) → filter p (xs ++ ys) ≡ filter p xs ++ filter p ys
filter_append p [] ys = refl
filter_append {X} p (x ∷ xs) ys = split (p x) (filter_append p xs ys)
  where
    split : (b : Bool) → filter p (xs ++ ys) ≡ filter p xs ++ filter p ys → cond b (x ∷ filter p (xs ++ ys)) (filter p (xs ++ ys)) ≡ cond b (x ∷ filter p xs) (filter p xs) ++ filter p ys
    split true rest = ap (λ zs. x ∷ zs) rest
    split false rest = rest

pub any_append : {X : Type 0} (p : X → Bool) (xs ys : List X) → list_any p (xs ++ ys) ≡ (list_any p xs || list_any p ys)
any_append p [] ys = refl
any_append {X} p (x ∷ xs) ys = split (p x) (any_append p xs ys)
  where
    split : (b : Bool) → list_any p (xs ++ ys) ≡ (list_any p xs || list_any p ys) → (b || list_any p (xs ++ ys)) ≡ ((b || list_any p xs) || list_any p ys)
    split true rest = refl
    split false rest = rest

or_parts : (a b : Bool) → (a || b) ≡ false → (a ≡ false) × (b ≡ false)
or_parts true b h = cc
or_parts false b h = (refl, h)

-- none of a list around k: none on either side, and not k
pub none_of_parts : {X : Type 0} (p : X → Bool) (l : List X) (k : X) (r : List X) → list_any p (l ++ k ∷ r) ≡ false → (list_any p l ≡ false) × (p k ≡ false) × (list_any p r ≡ false)
none_of_parts p [] k r none = let h = or_parts (p k) (list_any p r) none in (refl, h.0, h.1)
none_of_parts p (y ∷ l) k r none =
    let h = or_parts (p y) (list_any p (l ++ k ∷ r)) none in
    let rest = none_of_parts p l k r h.1 in
    (ap (λ b. b || list_any p l) h.0 ∙ rest.0, rest.1, rest.2)

pub less_from : (o : Ordering) → is_lt o ≡ true → o ≡ Less
less_from Less h = refl
less_from o h = cc

pub greater_from : (o : Ordering) → is_lt o ≡ false → is_eq o ≡ false → o ≡ Greater
greater_from Less h g = cc
greater_from Equal h g = cc
greater_from Greater h g = refl

module _ {X : Type 0} (c : X → X → Ordering) (total : IsTotalOrder c) where
  turned : (x y : X) → c y x ≡ Less → c x y ≡ Greater
  turned x y less = total.antisymm x y ∙ ap ordering_reverse less

  -- ---- around the item k

  right_of : (l : List X) (k : X) (r : List X) → Rises c (l ++ k ∷ r) → AllByRecursion (λ y. c k y ≡ Less) r
  right_of l k r rise = (rises_right c l (k ∷ r) rise).0

  left_of : (l : List X) (k : X) (r : List X) → Rises c (l ++ k ∷ r) → AllByRecursion (λ y. c y k ≡ Less) l
  left_of [] k r rise = tt
  left_of (y ∷ l) k r rise = ((each_right (λ z. c y z ≡ Less) l (k ∷ r) rise.0).0, left_of l k r rise.1)

  pub less_than_right : (x k : X) (l r : List X) → Rises c (l ++ k ∷ r) → c x k ≡ Less → BeforeAll c x (k ∷ r)
  less_than_right x k l r rise less = (less, each_implied (λ y. c k y ≡ Less) (λ y. c x y ≡ Less) r (λ y h. total.trans x k y less h) (right_of l k r rise))

  pub tied_right : (x k : X) (l r : List X) → Rises c (l ++ k ∷ r) → c x k ≡ Equal → BeforeAll c x r
  tied_right x k l r rise same = each_implied (λ y. c k y ≡ Less) (λ y. c x y ≡ Less) r (λ y h. total.congr x k y same ∙ h) (right_of l k r rise)

  pub greater_than_left : (x k : X) (l r : List X) → Rises c (l ++ k ∷ r) → c x k ≡ Greater → AfterAll c x l
  greater_than_left x k l r rise greater =
      let back : c k x ≡ Less = total.antisymm k x ∙ ap ordering_reverse greater in
      each_implied (λ y. c y k ≡ Less) (λ y. c x y ≡ Greater) l (λ y h. turned x y (total.trans y k x h back)) (left_of l k r rise)

  pub tied_left : (x k : X) (l r : List X) → Rises c (l ++ k ∷ r) → c x k ≡ Equal → AfterAll c x l
  tied_left x k l r rise same = each_implied (λ y. c y k ≡ Less) (λ y. c x y ≡ Greater) l (λ y h. total.congr x k y same ∙ turned k y h) (left_of l k r rise)

  -- ---- the list with x, which is not tied with one of it

  pub put_right : (x k : X) (l r : List X) → Rises c (l ++ k ∷ r) → c x k ≡ Greater → with_item c x (l ++ k ∷ r) ≡ l ++ k ∷ with_item c x r
  put_right x k l r rise greater =
      put_past c x l (k ∷ r) (greater_than_left x k l r rise greater)
      ∙ ap (λ zs. l ++ zs) (cond-false (is_lt (c x k)) (x ∷ k ∷ r) (k ∷ with_item c x r) (ap is_lt greater))

  pub rises_with_item : (x : X) (ys : List X) → Rises c ys → list_any (λ y. is_eq (c x y)) ys ≡ false → Rises c (with_item c x ys)
  rises_with_item x [] rise none = (tt, tt)
  rises_with_item x (y ∷ ys) rise none = split (c x y) refl none (rises_with_item x ys rise.1)
    where
      split : (o : Ordering) → c x y ≡ o → (is_eq o || list_any (λ z. is_eq (c x z)) ys) ≡ false → (list_any (λ z. is_eq (c x z)) ys ≡ false → Rises c (with_item c x ys)) → Rises c (cond (is_lt o) (x ∷ y ∷ ys) (y ∷ with_item c x ys))
      split Less is h rest = (less_than_right x y [] ys rise is, rise)
      split Equal is h rest = cc
      split Greater is h rest = (all_with_item c (λ z. c y z ≡ Less) x ys (total.antisymm y x ∙ ap ordering_reverse is) rise.0, rest h)

  -- ---- what is tied with x

  abbrev tied : X → X → Bool
  tied x y = is_eq (c x y)

  abbrev pub untied : X → List X → List X
  untied x ys = filter (λ y. not (is_eq (c x y))) ys

  pub untied_left : (x k : X) (l r : List X) → Rises c (l ++ k ∷ r) → c x k ≡ Less → untied x (l ++ k ∷ r) ≡ untied x l ++ k ∷ r
  untied_left x k l r rise less =
      filter_append (λ y. not (tied x y)) l (k ∷ r) ∙ ap (λ zs. untied x l ++ zs) (kept_whole (tied x) (k ∷ r) (none_before c x (k ∷ r) (less_than_right x k l r rise less)))

  pub untied_right : (x k : X) (l r : List X) → Rises c (l ++ k ∷ r) → c x k ≡ Greater → untied x (l ++ k ∷ r) ≡ l ++ k ∷ untied x r
  untied_right x k l r rise greater =
      filter_append (λ y. not (tied x y)) l (k ∷ r)
      ∙ ap (λ zs. zs ++ untied x (k ∷ r)) (kept_whole (tied x) l (none_after c x l (greater_than_left x k l r rise greater)))
      ∙ ap (λ o. l ++ cond (not (is_eq o)) (k ∷ untied x r) (untied x r)) greater

  pub untied_middle : (x k : X) (l r : List X) → Rises c (l ++ k ∷ r) → c x k ≡ Equal → untied x (l ++ k ∷ r) ≡ l ++ r
  untied_middle x k l r rise same =
      filter_append (λ y. not (tied x y)) l (k ∷ r)
      ∙ ap (λ zs. zs ++ untied x (k ∷ r)) (kept_whole (tied x) l (none_after c x l (tied_left x k l r rise same)))
      ∙ ap (λ o. l ++ cond (not (is_eq o)) (k ∷ untied x r) (untied x r)) same
      ∙ ap (λ zs. l ++ zs) (kept_whole (tied x) r (none_before c x r (tied_right x k l r rise same)))

  pub found_left : (x k : X) (l r : List X) → Rises c (l ++ k ∷ r) → c x k ≡ Less → find (tied x) (l ++ k ∷ r) ≡ find (tied x) l
  found_left x k l r rise less = found_before (tied x) l (k ∷ r) (none_before c x (k ∷ r) (less_than_right x k l r rise less))

  pub found_right : (x k : X) (l r : List X) → Rises c (l ++ k ∷ r) → c x k ≡ Greater → find (tied x) (l ++ k ∷ r) ≡ find (tied x) r
  found_right x k l r rise greater =
      found_past (tied x) l (k ∷ r) (none_after c x l (greater_than_left x k l r rise greater)) ∙ ap (λ o. cond (is_eq o) (Some k) (find (tied x) r)) greater

  pub found_middle : (x k : X) (l r : List X) → Rises c (l ++ k ∷ r) → c x k ≡ Equal → find (tied x) (l ++ k ∷ r) ≡ Some k
  found_middle x k l r rise same =
      found_past (tied x) l (k ∷ r) (none_after c x l (tied_left x k l r rise same)) ∙ ap (λ o. cond (is_eq o) (Some k) (find (tied x) r)) same

  pub any_left : (x k : X) (l r : List X) → Rises c (l ++ k ∷ r) → c x k ≡ Less → list_any (tied x) (l ++ k ∷ r) ≡ list_any (tied x) l
  any_left x k l r rise less = any_append (tied x) l (k ∷ r) ∙ ap (λ b. list_any (tied x) l || b) (none_before c x (k ∷ r) (less_than_right x k l r rise less)) ∙ no_more (list_any (tied x) l)
    where
      no_more : (b : Bool) → (b || false) ≡ b
      no_more true = refl
      no_more false = refl

  pub any_right : (x k : X) (l r : List X) → Rises c (l ++ k ∷ r) → c x k ≡ Greater → list_any (tied x) (l ++ k ∷ r) ≡ list_any (tied x) r
  any_right x k l r rise greater =
      any_append (tied x) l (k ∷ r) ∙ ap (λ b. b || list_any (tied x) (k ∷ r)) (none_after c x l (greater_than_left x k l r rise greater)) ∙ ap (λ o. is_eq o || list_any (tied x) r) greater

  pub any_middle : (x k : X) (l r : List X) → Rises c (l ++ k ∷ r) → c x k ≡ Equal → list_any (tied x) (l ++ k ∷ r) ≡ true
  any_middle x k l r rise same =
      any_append (tied x) l (k ∷ r) ∙ ap (λ b. b || list_any (tied x) (k ∷ r)) (none_after c x l (tied_left x k l r rise same)) ∙ ap (λ o. is_eq o || list_any (tied x) r) same

-- ---- the items around a rotation, grouped the other way

pub regrouped : {X : Type 0} (x : List X) (j : X) (y : List X) (k : X) (z : List X) → (x ++ j ∷ y) ++ k ∷ z ≡ x ++ j ∷ (y ++ k ∷ z)
regrouped x j y k z = append_assoc x (j ∷ y) (k ∷ z)

pub rises_inner_right : {X : Type 0} (c : X → X → Ordering) (x : List X) (j : X) (y : List X) (k : X) (z : List X) → Rises c ((x ++ j ∷ y) ++ k ∷ z) → Rises c (y ++ k ∷ z)
rises_inner_right c x j y k z rise = (rises_right c x (j ∷ (y ++ k ∷ z)) (subst (Rises c) (regrouped x j y k z) rise)).1

pub rises_inner_left : {X : Type 0} (c : X → X → Ordering) (x : List X) (j : X) (y : List X) (k : X) (z : List X) → Rises c (x ++ j ∷ (y ++ k ∷ z)) → Rises c (x ++ j ∷ y)
rises_inner_left c x j y k z rise = rises_left c (x ++ j ∷ y) (k ∷ z) (subst (Rises c) (sym (regrouped x j y k z)) rise)
