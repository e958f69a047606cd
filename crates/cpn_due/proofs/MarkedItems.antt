-- Marked items in order around a root: what they are with an item more, without those of an element, and with more marked.
use Rattle.std.proofs.Common.{◌≡◌, ℕ, not, Bool, true, false, cond, ◌||◌, nat_le, List, [], ◌∷◌, ◌++◌, map, Option, Some, None, refl, sym, ap, subst, ◌∙◌, arith, Ordering, Less, Equal, Greater, is_lt, is_eq}
use Rattle.std.specs.List.{list_any}
use Rattle.std.specs.Cmp.{IsTotalOrder}
use Rattle.std.proofs.lemmas.Cmp.{on_total}
use Rattle.cpn_definitions.specs.Lists.{Rises, with_item}
use Rattle.cpn_definitions.specs.Occurrence.{PlainElement}
use Rattle.cpn_definitions.specs.Enabled.{element_cmp, or_sooner}
use Rattle.cpn_definitions.proofs.OneEnabledList.{entry_cmp_total}
use Rattle.cpn_definitions.proofs.RisingLists.{rises_mapped}
use Rattle.cpn_due.specs.Due.{is_of}
use Rattle.cpn_due.specs.Marked.{PlainMarked, marked_cmp, marked_at, has_item, item_of, without_item, are_not_due, least_time, is_reached}
use Rattle.cpn_due.proofs.RisingSides.{put_left, put_right, rises_with_item, rises_filtered, none_of_parts, less_from, greater_from, untied_left, untied_right, untied_middle, found_left, found_right, found_middle, any_left, any_right, any_middle}

marked_total : IsTotalOrder marked_cmp
marked_total = on_total (λ (m : PlainMarked). m.enabled.entry) entry_cmp_total

-- ---- with an item more

module _ (x k : PlainMarked) (l r : List PlainMarked) where
  pub absent_left : has_item x (l ++ k ∷ r) ≡ false → has_item x l ≡ false
  absent_left none = (none_of_parts (λ n. is_eq (marked_cmp x n)) l k r none).0

  pub absent_right : has_item x (l ++ k ∷ r) ≡ false → has_item x r ≡ false
  absent_right none = (none_of_parts (λ n. is_eq (marked_cmp x n)) l k r none).2

  pub with_left : is_lt (marked_cmp x k) ≡ true → with_item marked_cmp x (l ++ k ∷ r) ≡ with_item marked_cmp x l ++ k ∷ r
  with_left h = put_left marked_cmp x k l r (less_from (marked_cmp x k) h)

  pub with_right : Rises marked_cmp (l ++ k ∷ r) → has_item x (l ++ k ∷ r) ≡ false → is_lt (marked_cmp x k) ≡ false → with_item marked_cmp x (l ++ k ∷ r) ≡ l ++ k ∷ with_item marked_cmp x r
  with_right rise none h = put_right marked_cmp marked_total x k l r rise (greater_from (marked_cmp x k) h (none_of_parts (λ n. is_eq (marked_cmp x n)) l k r none).1)

  pub rises_with_left : Rises marked_cmp (l ++ k ∷ r) → has_item x (l ++ k ∷ r) ≡ false → is_lt (marked_cmp x k) ≡ true → Rises marked_cmp (with_item marked_cmp x l ++ k ∷ r)
  rises_with_left rise none h = subst (Rises marked_cmp) (with_left h) (rises_with_item marked_cmp marked_total x (l ++ k ∷ r) rise none)

  pub rises_with_right : Rises marked_cmp (l ++ k ∷ r) → has_item x (l ++ k ∷ r) ≡ false → is_lt (marked_cmp x k) ≡ false → Rises marked_cmp (l ++ k ∷ with_item marked_cmp x r)
  rises_with_right rise none h = subst (Rises marked_cmp) (with_right rise none h) (rises_with_item marked_cmp marked_total x (l ++ k ∷ r) rise none)

-- ---- of an element

-- an item of the element
abbrev probe : PlainElement → PlainMarked
probe e = record { enabled = record { entry = record { earliest = 0; element = e }; needs = [] }; is_due = false }

-- how an element compares with that of an item
abbrev pub to_item : PlainElement → PlainMarked → Ordering
to_item e m = element_cmp e m.enabled.entry.element

abbrev of_element : PlainElement → PlainMarked → Bool
of_element e m = is_of e m.enabled

module _ (e : PlainElement) (k : PlainMarked) (l r : List PlainMarked) (rise : Rises marked_cmp (l ++ k ∷ r)) where
  pub without_left : to_item e k ≡ Less → without_item e (l ++ k ∷ r) ≡ without_item e l ++ k ∷ r
  without_left h = untied_left marked_cmp marked_total (probe e) k l r rise h

  pub without_right : to_item e k ≡ Greater → without_item e (l ++ k ∷ r) ≡ l ++ k ∷ without_item e r
  without_right h = untied_right marked_cmp marked_total (probe e) k l r rise h

  pub without_root : to_item e k ≡ Equal → without_item e (l ++ k ∷ r) ≡ l ++ r
  without_root h = untied_middle marked_cmp marked_total (probe e) k l r rise h

  pub rises_without : Rises marked_cmp (without_item e (l ++ k ∷ r))
  rises_without = rises_filtered marked_cmp (λ m. not (of_element e m)) (l ++ k ∷ r) rise

  pub item_left : to_item e k ≡ Less → item_of e (l ++ k ∷ r) ≡ item_of e l
  item_left h = found_left marked_cmp marked_total (probe e) k l r rise h

  pub item_right : to_item e k ≡ Greater → item_of e (l ++ k ∷ r) ≡ item_of e r
  item_right h = found_right marked_cmp marked_total (probe e) k l r rise h

  pub item_root : to_item e k ≡ Equal → item_of e (l ++ k ∷ r) ≡ Some k
  item_root h = found_middle marked_cmp marked_total (probe e) k l r rise h

  pub has_left : to_item e k ≡ Less → list_any (of_element e) (l ++ k ∷ r) ≡ list_any (of_element e) l
  has_left h = any_left marked_cmp marked_total (probe e) k l r rise h

  pub has_right : to_item e k ≡ Greater → list_any (of_element e) (l ++ k ∷ r) ≡ list_any (of_element e) r
  has_right h = any_right marked_cmp marked_total (probe e) k l r rise h

  pub has_root : to_item e k ≡ Equal → list_any (of_element e) (l ++ k ∷ r) ≡ true
  has_root h = any_middle marked_cmp marked_total (probe e) k l r rise h

-- ---- with more marked

pub map_around : (f : PlainMarked → PlainMarked) (k : PlainMarked) (l r : List PlainMarked) → map f (l ++ k ∷ r) ≡ map f l ++ f k ∷ map f r
map_around f k [] r = refl
map_around f k (x ∷ l) r = ap (λ zs. f x ∷ zs) (map_around f k l r)

pub rises_marked : (clock : ℕ) (k : PlainMarked) (l r : List PlainMarked) → Rises marked_cmp (l ++ k ∷ r) → Rises marked_cmp (map (marked_at clock) l ++ marked_at clock k ∷ map (marked_at clock) r)
rises_marked clock k l r rise = subst (Rises marked_cmp) (map_around (marked_at clock) k l r) (rises_mapped marked_cmp marked_cmp (marked_at clock) (l ++ k ∷ r) (λ x y h. h) rise)

-- a time that is not reached, of the lesser of two: neither is
neither : (time clock : ℕ) (other : Option ℕ) → is_reached (Some (or_sooner time other)) clock ≡ false → (nat_le time clock ≡ false) × (is_reached other clock ≡ false)
neither time clock None h = (h, refl)
neither time clock (Some t) h = (grind (arith, h), grind (arith, h))

-- where no time is reached, none is marked
pub none_reached : (clock : ℕ) (xs : List PlainMarked) → is_reached (least_time (are_not_due xs)) clock ≡ false → map (marked_at clock) xs ≡ xs
none_reached clock [] h = refl
none_reached clock (x ∷ xs) h = split x.is_due refl h (none_reached clock xs)
  where
    split : (b : Bool) → x.is_due ≡ b → is_reached (least_time (cond (not b) (x ∷ are_not_due xs) (are_not_due xs))) clock ≡ false → (is_reached (least_time (are_not_due xs)) clock ≡ false → map (marked_at clock) xs ≡ xs) → marked_at clock x ∷ map (marked_at clock) xs ≡ x ∷ xs
    split true is g rest =
        let same : (x.is_due || nat_le x.enabled.entry.earliest clock) ≡ x.is_due = ap (λ b. b || nat_le x.enabled.entry.earliest clock) is ∙ sym is in
        ap (λ b. record { enabled = x.enabled; is_due = b } ∷ map (marked_at clock) xs) same ∙ ap (λ zs. x ∷ zs) (rest g)
    split false is g rest =
        let both = neither x.enabled.entry.earliest clock (least_time (are_not_due xs)) g in
        let same : (x.is_due || nat_le x.enabled.entry.earliest clock) ≡ x.is_due = ap (λ b. b || nat_le x.enabled.entry.earliest clock) is ∙ both.0 ∙ sym is in
        ap (λ b. record { enabled = x.enabled; is_due = b } ∷ map (marked_at clock) xs) same ∙ ap (λ zs. x ∷ zs) (rest both.1)
