-- The order of bindings, pair by pair; and what is sorted by it rises, where no two are the same.
use Rattle.std.proofs.Common.{◌≡◌, ℕ, zero, suc, ◌+◌, ◌≤◌, min, Bool, true, false, List, [], ◌∷◌, map, drop, length, get_or, refl, sym, ap, ◌∙◌, subst, inl, inr, arith, Ordering, Less, Equal, Greater, is_lt, is_eq, nat_cmp, Contains, ◌↔◌, if◌then◌else◌}
use Rattle.std.specs.List.{fold, AllByRecursion, sum_by}
use Rattle.std.specs.Ordering.{ordering_reverse}
use Rattle.std.specs.List.Sorted.{IsSortedBy, IsPermutation}
use Rattle.std.proofs.lemmas.Bool.Decides.{nat_tests}
use Rattle.std.proofs.lemmas.Cmp.{lists_total, tied_itself}
use Rattle.std.proofs.lemmas.List.Sorted.{ranks_by, sorted_far, IsPermutation-map, IsPermutation-sym, Contains-permutation, sum_by-IsPermutation}
use Rattle.cpn_definitions.specs.Value.{PlainValue}
use Rattle.cpn_definitions.specs.ValueOrder.{value_cmp_total}
use Rattle.cpn_definitions.specs.Lists.{Rises}
use Rattle.cpn_definitions.specs.Marking.{Marking}
use Rattle.cpn_definitions.specs.Net.{PlainNet, transition_at}
use Rattle.cpn_definitions.specs.Meaning.{PlainBinding}
use Rattle.cpn_definitions.specs.Occurrence.{binds}
use Rattle.cpn_definitions.specs.Enabled.{PlainFound, binding_cmp, EnabledOf}
use Rattle.cpn_definitions.proofs.RisingLists.{IsIn, in_from_contains, contains_from_in, each_in, of_one_in, in_map}
use Rattle.cpn_definitions.proofs.KeyedEntries.{equal_from}
use Rattle.cpn_core.specs.declared.bindings.Pair.{Pair}
use Rattle.cpn_core.specs.declared.entries.EnabledElement.{EnabledElement}
use Rattle.cpn_core.specs.Pairs.{pairs_view}
use Rattle.cpn_stages.specs.Work.{AllDiffer}
use Rattle.cpn_search.specs.Found.{element_of, IsLeastTime}
use Rattle.cpn_search.specs.FoundViews.{found_view}
use Rattle.cpn_search.specs.Searches.{FoundAmong, AllFound}
use Rattle.cpn_search.proofs.FoundBindings.{same_binding, enabled_from_found}

-- ---- pair by pair

pub order_ends : (left right : List Pair) (i : ℕ) → i ≡ min (length left) (length right) → binding_cmp (pairs_view (drop i left)) (pairs_view (drop i right)) ≡ nat_cmp (length left) (length right)
order_ends [] [] i e = let z : i ≡ 0 = omega arith in rw z refl
order_ends [] (q ∷ right) i e = let z : i ≡ 0 = omega arith in rw z (grind (arith, nat_tests))
order_ends (p ∷ left) [] i e = let z : i ≡ 0 = omega arith in rw z (grind (arith, nat_tests))
order_ends (p ∷ left) (q ∷ right) zero e = let no' : ⊥ = omega arith in absurd no'
order_ends (p ∷ left) (q ∷ right) (suc i) e = order_ends left right i (omega arith) ∙ grind (arith, nat_tests)

-- ---- what is sorted rises

abbrev pub binding_in : EnabledElement → PlainBinding
binding_in x = (found_view x).binding

-- by their values, in declaration order
abbrev pub values_in_order : EnabledElement → List PlainValue
values_in_order f = map (λ (pair : ℕ × PlainValue). pair.1) (binding_in f)

abbrev pub comes_before : EnabledElement → EnabledElement → Bool
comes_before f g = is_lt (binding_cmp (binding_in f) (binding_in g))

pub not_after : (f g : EnabledElement) → comes_before g f ≡ false → (binding_cmp (binding_in f) (binding_in g) ≡ Equal → ⊥) → binding_cmp (binding_in f) (binding_in g) ≡ Less
not_after f g before differ = split (binding_cmp (binding_in f) (binding_in g)) refl
  where
    back : binding_cmp (binding_in g) (binding_in f) ≡ ordering_reverse (binding_cmp (binding_in f) (binding_in g))
    back = (lists_total value_cmp_total).antisymm (values_in_order g) (values_in_order f)

    split : (o : Ordering) → binding_cmp (binding_in f) (binding_in g) ≡ o → o ≡ Less
    split Less is = refl
    split Equal is = absurd (differ is)
    split Greater is = let greater : is_lt (binding_cmp (binding_in g) (binding_in f)) ≡ true = ap is_lt (back ∙ ap ordering_reverse is) in clash greater before
      where
        clash : is_lt (binding_cmp (binding_in g) (binding_in f)) ≡ true → is_lt (binding_cmp (binding_in g) (binding_in f)) ≡ false → Greater ≡ Less
        clash h g' = cc

pub sorted_rest : (f : EnabledElement) (fs : List EnabledElement) → IsSortedBy comes_before (f ∷ fs) → IsSortedBy comes_before fs
sorted_rest f fs sorted k d low lt =
    let next : suc k + 1 ≡ suc (k + 1) = omega arith in
    subst (λ (j : ℕ). comes_before (get_or (f ∷ fs) j d) (get_or fs k d) ≡ false) next (sorted (suc k) d (omega arith) (omega arith))

-- ---- how often a binding was found

-- one for each that has the binding
abbrev hits : PlainBinding → EnabledElement → ℕ
hits b f = if is_eq (binding_cmp b (binding_in f)) then 1 else 0

-- how many have it
abbrev counted : PlainBinding → List EnabledElement → ℕ
counted b [] = 0
counted b (f ∷ fs) = hits b f + counted b fs

summed_from : (b : PlainBinding) (k : ℕ) (fs : List EnabledElement) → fold (λ (a : ℕ) f. a + hits b f) k fs ≡ k + counted b fs
summed_from b k [] = omega arith
summed_from b k (f ∷ fs) = let rest = summed_from b (k + hits b f) fs in omega (arith, rest)

summed : (b : PlainBinding) (fs : List EnabledElement) → sum_by (hits b) fs ≡ counted b fs
summed b fs = let all = summed_from b 0 fs in omega (arith, all)

-- at most one has the binding
abbrev pub AtMostOne : PlainNet → List ℕ → List EnabledElement → Type 0
AtMostOne n xs fs = (b : PlainBinding) → binds n xs b ≡ true → counted b fs ≤ 1

no_hits : (n : PlainNet) (xs : List ℕ) (b : PlainBinding) (fs : List EnabledElement) → binds n xs b ≡ true → AllByRecursion (λ (f : EnabledElement). binds n xs (binding_in f) ≡ true) fs → (IsIn b (map (λ (f : PlainFound). f.binding) (map found_view fs)) → ⊥) → counted b fs ≡ 0
no_hits n xs b [] own bound other = refl
no_hits n xs b (f ∷ fs) own bound other = split (is_eq (binding_cmp b (binding_in f))) refl (no_hits n xs b fs own bound.1 (λ h. other (inr h)))
  where
    split : (test : Bool) → is_eq (binding_cmp b (binding_in f)) ≡ test → counted b fs ≡ 0 → (if test then 1 else 0) + counted b fs ≡ 0
    split true is rest = absurd (other (inl (sym (same_binding n xs b (binding_in f) own bound.0 (equal_from (binding_cmp b (binding_in f)) is)))))
    split false is rest = omega (arith, rest)

pub found_once : (n : PlainNet) (xs : List ℕ) (fs : List EnabledElement) → AllDiffer (map (λ (f : PlainFound). f.binding) (map found_view fs)) → AllByRecursion (λ (f : EnabledElement). binds n xs (binding_in f) ≡ true) fs → AtMostOne n xs fs
found_once n xs [] differ bound b own = omega arith
found_once n xs (f ∷ fs) differ bound b own = split (is_eq (binding_cmp b (binding_in f))) refl (found_once n xs fs differ.1 bound.1 b own)
  where
    split : (test : Bool) → is_eq (binding_cmp b (binding_in f)) ≡ test → counted b fs ≤ 1 → (if test then 1 else 0) + counted b fs ≤ 1
    split true is rest =
        let same : b ≡ (binding_in f) = same_binding n xs b (binding_in f) own bound.0 (equal_from (binding_cmp b (binding_in f)) is) in
        let others : counted b fs ≡ 0 = no_hits n xs b fs own bound.1 (λ h. differ.0 (contains_from_in (map (λ (k : PlainFound). k.binding) (map found_view fs)) (binding_in f) (subst (λ c. IsIn c (map (λ (k : PlainFound). k.binding) (map found_view fs))) same h))) in
        omega (arith, others)
    split false is rest = omega (arith, rest)

hit_among : (b : PlainBinding) (fs : List EnabledElement) (g : EnabledElement) → IsIn g fs → binding_cmp b (binding_in g) ≡ Equal → 1 ≤ counted b fs
hit_among b [] g h same = absurd h
hit_among b (f ∷ fs) g (inl e) same =
    let own : hits b f ≡ 1 = ap (λ (k : EnabledElement). hits b k) e ∙ ap (λ o. if is_eq o then 1 else 0) same in
    omega (arith, own)
hit_among b (f ∷ fs) g (inr h) same = let rest = hit_among b fs g h same in omega (arith, rest)

binding_itself : (b : PlainBinding) → binding_cmp b b ≡ Equal
binding_itself b = tied_itself (lists_total value_cmp_total) (map (λ (pair : ℕ × PlainValue). pair.1) b)

pub sorted_rises
    : (n : PlainNet) (xs : List ℕ) (fs : List EnabledElement) → IsSortedBy comes_before fs → AtMostOne n xs fs → AllByRecursion (λ (f : EnabledElement). binds n xs (binding_in f) ≡ true) fs
    → Rises (λ (f g : PlainFound). binding_cmp f.binding g.binding) (map found_view fs)
sorted_rises n xs [] sorted once bound = tt
sorted_rises n xs (f ∷ fs) sorted once bound = (later fs (λ g h. h), sorted_rises n xs fs (sorted_rest f fs sorted) (λ b own. let whole = once b own in omega (arith, whole)) bound.1)
  where
    twice : (g : EnabledElement) → IsIn g fs → binding_cmp (binding_in f) (binding_in g) ≡ Equal → ⊥
    twice g h same =
        let own : hits (binding_in f) f ≡ 1 = ap (λ o. if is_eq o then 1 else 0) (binding_itself (binding_in f)) in
        let other = hit_among (binding_in f) fs g h same in
        let most = once (binding_in f) bound.0 in
        omega (arith, own, other, most)

    first : (g : EnabledElement) → IsIn g fs → binding_cmp (binding_in f) (binding_in g) ≡ Less
    first g h =
        let at = contains_from_in fs g h in
        let far = sorted_far comes_before (ranks_by (lists_total value_cmp_total) values_in_order) (f ∷ fs) sorted 0 (suc at.0) g (omega arith) (let lt = at.1 in omega (arith, lt)) in
        not_after f g (subst (λ (k : EnabledElement). comes_before k f ≡ false) at.2 far) (twice g h)

    later : (gs : List EnabledElement) → ((g : EnabledElement) → IsIn g gs → IsIn g fs) → AllByRecursion (λ (g : PlainFound). binding_cmp (binding_in f) g.binding ≡ Less) (map found_view gs)
    later [] among = tt
    later (g ∷ gs) among = (first g (among g (inl refl)), later gs (λ k h. among k (inr h)))

-- ---- all that was found, in order

-- what is found, in another order
among_permuted : (n : PlainNet) (m : Marking) (t : ℕ) (bindings : List PlainBinding) (fs gs : List EnabledElement) → FoundAmong n m t bindings (map found_view fs) → IsPermutation fs gs
    → (x : PlainFound) → Contains (map found_view gs) x ↔ (Contains bindings x.binding × IsLeastTime n m (element_of t x.binding) x.earliest)
among_permuted n m t bindings fs gs among moved x =
    let views : IsPermutation (map found_view fs) (map found_view gs) = IsPermutation-map found_view fs gs moved in
    let back : IsPermutation (map found_view gs) (map found_view fs) = IsPermutation-sym (map found_view fs) (map found_view gs) views in
    (λ h. (among.exact x).0 (Contains-permutation (map found_view gs) (map found_view fs) x back h), λ is. Contains-permutation (map found_view fs) (map found_view gs) x views ((among.exact x).1 is))

pub sorted_is_enabled : (n : PlainNet) (m : Marking) (t : ℕ) (fs gs : List EnabledElement) → AllFound n m t (map found_view fs) → IsPermutation fs gs → IsSortedBy comes_before gs → EnabledOf n m t (map found_view gs)
sorted_is_enabled n m t fs gs all moved sorted =
    enabled_from_found n m t all.bindings (map found_view gs) (among_permuted n m t all.bindings fs gs all.among moved)
    (sorted_rises n (transition_at n t).vars gs sorted once (each_in (λ (f : EnabledElement). binds n (transition_at n t).vars (binding_in f) ≡ true) gs (λ f h. bound_of f (in_from_contains fs f (Contains-permutation gs fs f (IsPermutation-sym fs gs moved) (contains_from_in gs f h))))))
    (λ time b is. in_from_contains all.bindings b (all.complete time b is))
  where
    bound_of : (f : EnabledElement) → IsIn f fs → binds n (transition_at n t).vars (binding_in f) ≡ true
    bound_of f h =
        of_one_in (λ b. binds n (transition_at n t).vars b ≡ true) all.bindings (binding_in f) all.bound
        (in_from_contains all.bindings (binding_in f) ((all.among.exact (found_view f)).0 (contains_from_in (map found_view fs) (found_view f) (in_map found_view fs f h))).0)

    once : AtMostOne n (transition_at n t).vars gs
    once b own =
        let before = found_once n (transition_at n t).vars fs all.among.differ (each_in (λ (f : EnabledElement). binds n (transition_at n t).vars (binding_in f) ≡ true) fs bound_of) b own in
        let same : counted b gs ≡ counted b fs = sym (summed b gs) ∙ sum_by-IsPermutation (hits b) fs gs moved ∙ summed b fs in
        omega (arith, before, same)
