-- Of what was found, in order, the first of each binding: they rise, and are what was found.
use Rattle.std.proofs.Common.{◌≡◌, ◌⊎◌, ℕ, suc, ◌-◌, ◌<◌, Bool, true, false, cond, List, [], ◌∷◌, ◌++◌, map, length, get_or, refl, sym, ap, ◌∙◌, subst, inl, inr, ⊎_elim, arith, Ordering, Less, Equal, is_eq}
use Rattle.std.specs.List.{AllByRecursion}
use Rattle.std.specs.List.Sorted.{IsSortedBy}
use Rattle.std.proofs.lemmas.Cmp.{lists_total}
use Rattle.std.proofs.lemmas.List.{map-append}
use Rattle.std.proofs.lemmas.List.Sorted.{ranks_by, sorted_far}
use Rattle.cpn_definitions.specs.ValueOrder.{value_cmp_total}
use Rattle.cpn_definitions.specs.Lists.{Rises}
use Rattle.cpn_definitions.specs.Enabled.{PlainFound, binding_cmp}
use Rattle.cpn_definitions.proofs.KeyedEntries.{equal_from}
use Rattle.cpn_definitions.proofs.RisingLists.{IsIn, contains_from_in, in_append_left, in_append_right, in_append_cases, in_map, each_in, of_one_in, each_appended}
use Rattle.cpn_core.specs.declared.entries.EnabledElement.{EnabledElement}
use Rattle.cpn_search.specs.FoundViews.{found_view, repeats, once_more, once_of}
use Rattle.cpn_search.proofs.BindingOrder.{binding_in, values_in_order, comes_before, not_after, sorted_rest}

-- ---- the last one

pub repeats_last : (ys : List EnabledElement) (x y : EnabledElement) → 0 < length ys → y ≡ get_or ys (length ys - 1) y → repeats ys x ≡ is_eq (binding_cmp (binding_in y) (binding_in x))
repeats_last [] x y lt is = absurd (omega arith)
repeats_last (z ∷ []) x y lt is = ap (λ (k : EnabledElement). is_eq (binding_cmp (binding_in k) (binding_in x))) (sym is)
repeats_last (z ∷ (w ∷ ys)) x y lt is = repeats_last (w ∷ ys) x y (omega arith) (is ∙ ap (λ (k : ℕ). get_or (z ∷ w ∷ ys) k y) shift)
  where
    shift : length (z ∷ w ∷ ys) - 1 ≡ suc (length (w ∷ ys) - 1)
    shift = omega arith

-- a comparison that is asked whether it is equal
pub is_equal : (o p : Ordering) (test : Bool) → test ≡ is_eq o → o ≡ p → test ≡ is_eq p
is_equal o p test is same = is ∙ ap is_eq same

-- where an element repeats the last one, that one is there
repeated_is : (ys : List EnabledElement) (x : EnabledElement) → repeats ys x ≡ true → (y : EnabledElement) × IsIn y ys × (binding_cmp (binding_in y) (binding_in x) ≡ Equal)
repeated_is [] x is = let none_there : false ≡ true = is in cc
repeated_is (y ∷ []) x is = (y, inl refl, equal_from (binding_cmp (binding_in y) (binding_in x)) is)
repeated_is (y ∷ (z ∷ ys)) x is = let later = repeated_is (z ∷ ys) x is in (later.0, inr later.1, later.2)

-- one more at the end
pub once_at_end : (ys xs : List EnabledElement) (x : EnabledElement) → once_of ys (xs ++ x ∷ []) ≡ once_more (once_of ys xs) x
once_at_end ys [] x = refl
once_at_end ys (k ∷ xs) x = once_at_end (once_more ys k) xs x

-- ---- they rise

abbrev pub by_binding : PlainFound → PlainFound → Ordering
by_binding f g = binding_cmp f.binding g.binding

-- none comes after one that follows it
abbrev AreOrdered : List EnabledElement → Type 0
AreOrdered [] = Unit {0}
AreOrdered (x ∷ xs) = AllByRecursion (λ (z : EnabledElement). comes_before z x ≡ false) xs × AreOrdered xs

ordered_from : (fs : List EnabledElement) → IsSortedBy comes_before fs → AreOrdered fs
ordered_from [] sorted = tt
ordered_from (f ∷ fs) sorted = (each_in (λ (z : EnabledElement). comes_before z f ≡ false) fs first, ordered_from fs (sorted_rest f fs sorted))
  where
    first : (g : EnabledElement) → IsIn g fs → comes_before g f ≡ false
    first g h =
        let at = contains_from_in fs g h in
        let far = sorted_far comes_before (ranks_by (lists_total value_cmp_total) values_in_order) (f ∷ fs) sorted 0 (suc at.0) g (omega arith) (let lt = at.1 in omega (arith, lt)) in
        subst (λ (k : EnabledElement). comes_before k f ≡ false) at.2 far

-- one more, which none comes after, and which does not repeat the last one
rises_more : (ys : List EnabledElement) (x : EnabledElement) → Rises by_binding (map found_view ys) → ((y : EnabledElement) → IsIn y ys → comes_before x y ≡ false) → repeats ys x ≡ false → Rises by_binding (map found_view (ys ++ x ∷ []))
rises_more [] x rise below other = (tt, tt)
rises_more (y ∷ []) x rise below other = ((not_after y x (below y (inl refl)) (λ same. clash (binding_cmp (binding_in y) (binding_in x)) other same), tt), (tt, tt))
  where
    clash : (o : Ordering) → is_eq o ≡ false → o ≡ Equal → ⊥
    clash o unlike same = cc
rises_more (y ∷ (z ∷ ys)) x rise below other =
    let rest = rises_more (z ∷ ys) x rise.1 (λ k h. below k (inr h)) other in
    (subst (AllByRecursion after') (sym (map-append found_view (z ∷ ys) (x ∷ []))) (each_appended after' (map found_view (z ∷ ys)) (found_view x ∷ []) rise.0 (far rest, tt)), rest)
  where
    after' : PlainFound → Type 0
    after' g = by_binding (found_view y) g ≡ Less

    far : Rises by_binding (map found_view ((z ∷ ys) ++ x ∷ [])) → by_binding (found_view y) (found_view x) ≡ Less
    far rest = (lists_total value_cmp_total).trans (values_in_order y) (values_in_order z) (values_in_order x) rise.0.0
        (of_one_in (λ (g : PlainFound). by_binding (found_view z) g ≡ Less) (map found_view (ys ++ x ∷ [])) (found_view x) rest.0 (in_map found_view (ys ++ x ∷ []) x (in_append_right ys (x ∷ []) x (inl refl))))

once_rises : (ys xs : List EnabledElement) → Rises by_binding (map found_view ys) → ((y x : EnabledElement) → IsIn y ys → IsIn x xs → comes_before x y ≡ false) → AreOrdered xs → Rises by_binding (map found_view (once_of ys xs))
once_rises ys [] rise below ordered = rise
once_rises ys (x ∷ xs) rise below ordered = split (repeats ys x) refl (λ zs r b. once_rises zs xs r b ordered.1)
  where
    split : (test : Bool) → repeats ys x ≡ test
        → ((zs : List EnabledElement) → Rises by_binding (map found_view zs) → ((y k : EnabledElement) → IsIn y zs → IsIn k xs → comes_before k y ≡ false) → Rises by_binding (map found_view (once_of zs xs)))
        → Rises by_binding (map found_view (once_of (cond test ys (ys ++ x ∷ [])) xs))
    split true is rest = rest ys rise (λ y k h g. below y k h (inr g))
    split false is rest = rest (ys ++ x ∷ []) (rises_more ys x rise (λ y h. below y x h (inl refl)) is) (λ y k h g. of_both y k g (in_append_cases ys (x ∷ []) y h))
      where
        of_both : (y k : EnabledElement) → IsIn k xs → IsIn y ys ⊎ IsIn y (x ∷ []) → comes_before k y ≡ false
        of_both y k g (inl h) = below y k h (inr g)
        of_both y k g (inr (inl e)) = subst (λ (j : EnabledElement). comes_before k j ≡ false) e (of_one_in (λ (z : EnabledElement). comes_before z x ≡ false) xs k ordered.0 g)
        of_both y k g (inr (inr h)) = absurd h

-- what was found in order, each once, rises
pub sorted_once_rises : (fs : List EnabledElement) → IsSortedBy comes_before fs → Rises by_binding (map found_view (once_of [] fs))
sorted_once_rises fs sorted = once_rises [] fs tt (λ y x h g. absurd h) (ordered_from fs sorted)

-- ---- they are what was found

pub once_from : (ys xs : List EnabledElement) (f : PlainFound) → IsIn f (map found_view (once_of ys xs)) → IsIn f (map found_view ys) ⊎ IsIn f (map found_view xs)
once_from ys [] f h = inl h
once_from ys (x ∷ xs) f h = split (repeats ys x) (λ zs g. once_from zs xs f g) h
  where
    split : (test : Bool) → ((zs : List EnabledElement) → IsIn f (map found_view (once_of zs xs)) → IsIn f (map found_view zs) ⊎ IsIn f (map found_view xs))
        → IsIn f (map found_view (once_of (cond test ys (ys ++ x ∷ [])) xs)) → IsIn f (map found_view ys) ⊎ IsIn f (found_view x ∷ map found_view xs)
    split true rest g = ⊎_elim (λ k. inl k) (λ k. inr (inr k)) (rest ys g)
    split false rest g = ⊎_elim (λ k. of_more (in_append_cases (map found_view ys) (found_view x ∷ []) f (subst (IsIn f) (map-append found_view ys (x ∷ [])) k))) (λ k. inr (inr k)) (rest (ys ++ x ∷ []) g)
      where
        of_more : IsIn f (map found_view ys) ⊎ IsIn f (found_view x ∷ []) → IsIn f (map found_view ys) ⊎ IsIn f (found_view x ∷ map found_view xs)
        of_more (inl k) = inl k
        of_more (inr (inl e)) = inr (inl e)
        of_more (inr (inr k)) = absurd k

-- elements of one binding are found alike
abbrev pub AreAlike : List EnabledElement → Type 0
AreAlike fs = (x y : EnabledElement) → IsIn x fs → IsIn y fs → binding_cmp (binding_in x) (binding_in y) ≡ Equal → found_view x ≡ found_view y

pub once_to : (all ys xs : List EnabledElement) (f : PlainFound) → AreAlike all → ((y : EnabledElement) → IsIn y ys → IsIn y all) → ((x : EnabledElement) → IsIn x xs → IsIn x all) → IsIn f (map found_view ys) ⊎ IsIn f (map found_view xs) → IsIn f (map found_view (once_of ys xs))
once_to all ys [] f alike first second (inl h) = h
once_to all ys [] f alike first second (inr h) = absurd h
once_to all ys (x ∷ xs) f alike first second h = split (repeats ys x) refl (λ zs among. once_to all zs xs f alike among (λ k g. second k (inr g))) h
  where
    split : (test : Bool) → repeats ys x ≡ test
        → ((zs : List EnabledElement) → ((y : EnabledElement) → IsIn y zs → IsIn y all) → IsIn f (map found_view zs) ⊎ IsIn f (map found_view xs) → IsIn f (map found_view (once_of zs xs)))
        → IsIn f (map found_view ys) ⊎ IsIn f (found_view x ∷ map found_view xs) → IsIn f (map found_view (once_of (cond test ys (ys ++ x ∷ [])) xs))
    split true is rest (inl g) = rest ys first (inl g)
    split true is rest (inr (inl e)) =
        let one = repeated_is ys x is in
        rest ys first (inl (subst (λ k. IsIn k (map found_view ys)) (alike one.0 x (first one.0 one.1) (second x (inl refl)) one.2 ∙ e) (in_map found_view ys one.0 one.1)))
    split true is rest (inr (inr g)) = rest ys first (inr g)
    split false is rest g = rest (ys ++ x ∷ []) (λ y k. among y (in_append_cases ys (x ∷ []) y k)) (moved g)
      where
        among : (y : EnabledElement) → IsIn y ys ⊎ IsIn y (x ∷ []) → IsIn y all
        among y (inl k) = first y k
        among y (inr (inl e)) = second y (inl e)
        among y (inr (inr k)) = absurd k

        moved : IsIn f (map found_view ys) ⊎ IsIn f (found_view x ∷ map found_view xs) → IsIn f (map found_view (ys ++ x ∷ [])) ⊎ IsIn f (map found_view xs)
        moved (inl k) = inl (subst (IsIn f) (sym (map-append found_view ys (x ∷ []))) (in_append_left (map found_view ys) (found_view x ∷ []) f k))
        moved (inr (inl e)) = inl (subst (IsIn f) (sym (map-append found_view ys (x ∷ []))) (in_append_right (map found_view ys) (found_view x ∷ []) f (inl e)))
        moved (inr (inr k)) = inr k

-- what each of them has, each of the first of a binding has
pub once_each : (P : EnabledElement → Type 0) (ys xs : List EnabledElement) → AllByRecursion P ys → AllByRecursion P xs → AllByRecursion P (once_of ys xs)
once_each P ys [] before all = before
once_each P ys (x ∷ xs) before all = split (repeats ys x) (λ zs each. once_each P zs xs each all.1)
  where
    split : (test : Bool) → ((zs : List EnabledElement) → AllByRecursion P zs → AllByRecursion P (once_of zs xs)) → AllByRecursion P (once_of (cond test ys (ys ++ x ∷ [])) xs)
    split true rest = rest ys before
    split false rest = rest (ys ++ x ∷ []) (each_appended P ys (x ∷ []) before (all.0, tt))
