-- How a search with a value on a place goes on, and that what it finds, in order and each binding once, is what is enabled with the value.
use Rattle.std.proofs.Common.{◌≡◌, ◌↔◌, ℕ, ◌<◌, true, List, [], ◌∷◌, ◌++◌, map, length, refl, sym, ap, ap₂, ◌∙◌, subst, inl, inr, ⊎_elim, append_assoc, append-nil, Contains}
use Rattle.std.specs.List.{list_any, AllByRecursion}
use Rattle.std.specs.Ordering.{ordering_then}
use Rattle.std.specs.List.Sorted.{IsSortedBy, IsPermutation}
use Rattle.std.proofs.lemmas.Cmp.{tied_itself, nat_cmp_total}
use Rattle.std.proofs.lemmas.Grind.{flat_map-append}
use Rattle.std.proofs.lemmas.List.{map-append}
use Rattle.std.proofs.lemmas.List.Sorted.{IsPermutation-map, IsPermutation-sym, Contains-permutation}
use Rattle.cpn_definitions.specs.Value.{PlainValue}
use Rattle.cpn_definitions.specs.Order.{same_value}
use Rattle.cpn_definitions.specs.ValueOrder.{same_value_refl, same_value_true}
use Rattle.cpn_definitions.specs.Lists.{Rises}
use Rattle.cpn_definitions.specs.Marking.{PlainToken, Marking, tokens_at}
use Rattle.cpn_definitions.specs.Net.{PlainNet, transition_at}
use Rattle.cpn_definitions.specs.Meaning.{PlainBinding}
use Rattle.cpn_definitions.specs.Occurrence.{binds, covered}
use Rattle.cpn_definitions.specs.Enabled.{PlainEntry, PlainFound, binding_cmp, entry_cmp, entries_of, IsEarliest}
use Rattle.cpn_definitions.specs.Sound.{IsSound, IsMarking}
use Rattle.cpn_definitions.proofs.Markings.{held_at}
use Rattle.cpn_definitions.proofs.RisingLists.{IsIn, in_from_contains, contains_from_in, in_append_left, in_append_right, in_append_cases, in_map, in_map_from, of_one_in, each_appended, rises_mapped, some_passes, one_that_passes}
use Rattle.cpn_core.specs.declared.entries.EnabledElement.{EnabledElement}
use Rattle.cpn_core.specs.declared.nets.Net.{Net}
use Rattle.cpn_core.specs.Nets.{net_view}
use Rattle.cpn_stages.specs.Partial.{PlainPartial, unbound, bound_in, as_partial}
use Rattle.cpn_stages.specs.Reached.{StandsOn}
use Rattle.cpn_stages.specs.Trials.{Trial, ends, ends_of_each, tried_by_each}
use Rattle.cpn_stages.specs.Work.{IsPinned}
use Rattle.cpn_stages.specs.TermsWith.{HasTermWith, EnabledWith}
use Rattle.cpn_stages.proofs.CoveredBindings.{bound_again}
use Rattle.cpn_stages.proofs.PinnedStages.{with_stands}
use Rattle.cpn_stages.proofs.PinnedEnds.{each_end_with, with_is_end}
use Rattle.cpn_stages.proofs.CountedPinned.{pinned_is_tried, one_pinned}
use Rattle.cpn_search.specs.declared.plan.Plan.{Plan}
use Rattle.cpn_search.specs.Found.{element_of, IsLeastTime}
use Rattle.cpn_search.specs.FoundViews.{found_view, AreOf, once_of}
use Rattle.cpn_search.specs.PlannedNets.{IsPlan}
use Rattle.cpn_search.specs.Searches.{FoundAtEnds}
use Rattle.cpn_search.specs.HeldSearches.{bindings_of, IsFoundAmong, AddsFound, AreFoundSoFar}
use Rattle.cpn_search.specs.TriedStages.{held}
use Rattle.cpn_search.proofs.FoundBindings.{same_binding, entry_is, entry_of, found_entry}
use Rattle.cpn_search.proofs.BindingOrder.{binding_in, comes_before}
use Rattle.cpn_search.proofs.OnceFound.{AreAlike, by_binding, sorted_once_rises, once_from, once_to}
use Rattle.cpn_search.proofs.HeldTrials.{held_are_of}
use Rattle.cpn_search.proofs.TurnSteps.{vars_listed}

-- ---- one list of trials more

bindings_both : (n : PlainNet) (t : ℕ) (xs ys : List (List Trial)) → bindings_of n t (xs ++ ys) ≡ bindings_of n t xs ++ bindings_of n t ys
bindings_both n t xs ys =
    let u : PlainPartial = unbound (transition_at n t).vars in
    ap (map bound_in) (flat_map-append (λ (ts : List Trial). ends n ts u) xs ys) ∙ map-append bound_in (ends_of_each n xs u) (ends_of_each n ys u)

bindings_one : (n : PlainNet) (t : ℕ) (trials : List Trial) → bindings_of n t (trials ∷ []) ≡ map bound_in (ends n trials (unbound (transition_at n t).vars))
bindings_one n t trials = ap (map bound_in) (append-nil (ends n trials (unbound (transition_at n t).vars)))

pub adds_none : (n : PlainNet) (m : Marking) (t : ℕ) (lists : List (List Trial)) (old new : List PlainFound) → lists ≡ [] → new ≡ old → AddsFound n m t lists old new
adds_none n m t lists old new none_there same = subst (λ ls. AddsFound n m t ls old new) (sym none_there) (subst (AddsFound n m t [] old) (sym same) (record {
  bound = tt;
  exact = λ x. (λ h. inl h, λ h. ⊎_elim (λ g. g) (λ g. absurd (in_from_contains [] x.binding g.0)) h);
}))

pub adds_one : (n : PlainNet) (m : Marking) (t : ℕ) (trials : List Trial) (old new found : List PlainFound) → FoundAtEnds n m t trials found → new ≡ old ++ found → AddsFound n m t (trials ∷ []) old new
adds_one n m t trials old new found is are = record {
  bound = subst (AllByRecursion (λ b. binds n (transition_at n t).vars b ≡ true)) (sym (bindings_one n t trials)) is.bound;
  exact = λ x. (
    λ h. ⊎_elim (λ g. inl (contains_from_in old x g)) (λ g. inr (subst (λ bs. IsFoundAmong n m t bs x) (sym (bindings_one n t trials)) ((is.among.exact x).0 (contains_from_in found x g))))
        (in_append_cases old found x (in_from_contains (old ++ found) x (subst (λ fs. Contains fs x) are h))),
    λ h. subst (λ fs. Contains fs x) (sym are) (contains_from_in (old ++ found) x
        (⊎_elim (λ g. in_append_left old found x (in_from_contains old x g))
        (λ g. in_append_right old found x (in_from_contains found x ((is.among.exact x).1 (subst (λ bs. IsFoundAmong n m t bs x) (bindings_one n t trials) g)))) h)),
  );
}

-- the same of elements
pub adds_found : (n : PlainNet) (m : Marking) (t : ℕ) (trials : List Trial) (old new more : List EnabledElement) → FoundAtEnds n m t trials (map found_view more) → new ≡ old ++ more → AddsFound n m t (trials ∷ []) (map found_view old) (map found_view new)
adds_found n m t trials old new more is are = adds_one n m t trials (map found_view old) (map found_view new) (map found_view more) is (ap (map found_view) are ∙ map-append found_view old more)

pub elements_more : (n : PlainNet) (t : ℕ) (old new more : List EnabledElement) → AreOf n t more → new ≡ old ++ more → AreOf n t old → AreOf n t new
elements_more n t old new more own are before = subst (AreOf n t) (sym are) (each_appended _ old more before own)

pub none_so_far : (n : PlainNet) (m : Marking) (t : ℕ) (all : List (List Trial)) → AreFoundSoFar n m t all all []
none_so_far n m t all = record { done = []; all_are = refl; bound = tt; exact = λ x. (λ h. absurd (in_from_contains [] x h), λ h. absurd (in_from_contains [] x.binding h.0)) }

pub more_so_far
    : (n : PlainNet) (m : Marking) (t : ℕ) (all left lists later : List (List Trial)) (old new : List PlainFound)
    → AreFoundSoFar n m t all left old → left ≡ lists ++ later → AddsFound n m t lists old new → AreFoundSoFar n m t all later new
more_so_far n m t all left lists later old new so_far is adds = record {
  done = so_far.done ++ lists;
  all_are = so_far.all_are ∙ ap (λ ls. so_far.done ++ ls) is ∙ sym (append_assoc so_far.done lists later);
  bound = subst (AllByRecursion (λ b. binds n (transition_at n t).vars b ≡ true)) (sym both) (each_appended (λ b. binds n (transition_at n t).vars b ≡ true) (bindings_of n t so_far.done) (bindings_of n t lists) so_far.bound adds.bound);
  exact = λ x. (
    λ h. ⊎_elim (λ g. let own = (so_far.exact x).0 g in (left_of x.binding own.0, own.1)) (λ g. (right_of x.binding g.0, g.1)) ((adds.exact x).0 h),
    λ h. (adds.exact x).1 (⊎_elim (λ g. inl ((so_far.exact x).1 (contains_from_in (bindings_of n t so_far.done) x.binding g, h.1))) (λ g. inr (contains_from_in (bindings_of n t lists) x.binding g, h.1))
        (in_append_cases (bindings_of n t so_far.done) (bindings_of n t lists) x.binding (subst (IsIn x.binding) both (in_from_contains (bindings_of n t (so_far.done ++ lists)) x.binding h.0)))),
  );
}
  where
    both : bindings_of n t (so_far.done ++ lists) ≡ bindings_of n t so_far.done ++ bindings_of n t lists
    both = bindings_both n t so_far.done lists

    left_of : (b : PlainBinding) → Contains (bindings_of n t so_far.done) b → Contains (bindings_of n t (so_far.done ++ lists)) b
    left_of b h = contains_from_in (bindings_of n t (so_far.done ++ lists)) b (subst (IsIn b) (sym both) (in_append_left (bindings_of n t so_far.done) (bindings_of n t lists) b (in_from_contains (bindings_of n t so_far.done) b h)))

    right_of : (b : PlainBinding) → Contains (bindings_of n t lists) b → Contains (bindings_of n t (so_far.done ++ lists)) b
    right_of b h = contains_from_in (bindings_of n t (so_far.done ++ lists)) b (subst (IsIn b) (sym both) (in_append_right (bindings_of n t so_far.done) (bindings_of n t lists) b (in_from_contains (bindings_of n t lists) b h)))

-- ---- in order, and each once

-- elements that are found among bindings of the same variables are alike where their bindings are
found_alike : (n : PlainNet) (m : Marking) (t : ℕ) (bindings : List PlainBinding) (fs : List EnabledElement) → AllByRecursion (λ b. binds n (transition_at n t).vars b ≡ true) bindings
    → ((x : PlainFound) → Contains (map found_view fs) x → IsFoundAmong n m t bindings x) → AreAlike fs
found_alike n m t bindings fs bound exact x y first second same =
    let one = exact (found_view x) (contains_from_in (map found_view fs) (found_view x) (in_map found_view fs x first)) in
    let two = exact (found_view y) (contains_from_in (map found_view fs) (found_view y) (in_map found_view fs y second)) in
    let binding : binding_in x ≡ binding_in y = same_binding n (transition_at n t).vars (binding_in x) (binding_in y) (own (binding_in x) one.0) (own (binding_in y) two.0) same in
    let time : (found_view x).earliest ≡ (found_view y).earliest = entry_is n m t (found_view x).earliest (found_view y).earliest (binding_in x) one.1 (subst (λ c. IsLeastTime n m (element_of t c) (found_view y).earliest) (sym binding) two.1) in
    ap₂ (λ (b : PlainBinding) (k : ℕ). record { binding = b; earliest = k }) binding time
  where
    own : (b : PlainBinding) → Contains bindings b → binds n (transition_at n t).vars b ≡ true
    own b h = of_one_in (λ c. binds n (transition_at n t).vars c ≡ true) bindings b bound (in_from_contains bindings b h)

-- in another order, and each once, the same is found
once_exact : (n : PlainNet) (m : Marking) (t : ℕ) (bindings : List PlainBinding) (fs gs : List EnabledElement) → AllByRecursion (λ b. binds n (transition_at n t).vars b ≡ true) bindings
    → ((x : PlainFound) → Contains (map found_view fs) x ↔ IsFoundAmong n m t bindings x) → IsPermutation fs gs → (x : PlainFound) → Contains (map found_view (once_of [] gs)) x ↔ IsFoundAmong n m t bindings x
once_exact n m t bindings fs gs bound exact moved x = (
  λ h. sorted_exact x (contains_from_in (map found_view gs) x (⊎_elim (λ g. absurd g) (λ g. g) (once_from [] gs x (in_from_contains (map found_view (once_of [] gs)) x h)))),
  λ h. contains_from_in (map found_view (once_of [] gs)) x
      (once_to gs [] gs x (found_alike n m t bindings gs bound sorted_exact) (λ y g. absurd g) (λ y g. g) (inr (in_from_contains (map found_view gs) x (Contains-permutation (map found_view fs) (map found_view gs) x views ((exact x).1 h))))),
)
  where
    views : IsPermutation (map found_view fs) (map found_view gs)
    views = IsPermutation-map found_view fs gs moved

    sorted_exact : (y : PlainFound) → Contains (map found_view gs) y → IsFoundAmong n m t bindings y
    sorted_exact y h = (exact y).0 (Contains-permutation (map found_view gs) (map found_view fs) y (IsPermutation-sym (map found_view fs) (map found_view gs) views) h)

-- ---- it is what is enabled with the value

with_from_found
    : (n : PlainNet) (m : Marking) (t place : ℕ) (v : PlainValue) (bindings : List PlainBinding) (found : List PlainFound)
    → ((x : PlainFound) → Contains found x ↔ IsFoundAmong n m t bindings x) → Rises by_binding found
    → ((b : PlainBinding) → IsIn b bindings → HasTermWith (transition_at n t) place v b)
    → ((time : ℕ) (b : PlainBinding) → covered n m time (element_of t b) ≡ true → HasTermWith (transition_at n t) place v b → IsIn b bindings)
    → EnabledWith n m t place v found
with_from_found n m t place v bindings found exact rise have complete = record {
  rising = rises_mapped by_binding entry_cmp (entry_of t) found (λ f g h. ap (λ o. ordering_then o (binding_cmp f.binding g.binding)) (tied_itself nat_cmp_total t) ∙ h) rise;
  exact = λ x. (λ h. is_enabled x (in_map_from (entry_of t) found x (in_from_contains (entries_of t found) x h)), λ is. has x is.0 is.1 is.2);
}
  where
    is_enabled : (x : PlainEntry) → (f : PlainFound) × IsIn f found × (entry_of t f ≡ x) → (x.element.transition ≡ t) × IsEarliest n m 0 x × HasTermWith (transition_at n t) place v x.element.binding
    is_enabled x one =
        let among = (exact one.0).0 (contains_from_in found one.0 one.1) in (
          ap (λ (y : PlainEntry). y.element.transition) (sym one.2),
          subst (IsEarliest n m 0) one.2 among.1,
          subst (λ (y : PlainEntry). HasTermWith (transition_at n t) place v y.element.binding) one.2 (have one.0.binding (in_from_contains bindings one.0.binding among.0)),
        )

    has : (x : PlainEntry) → x.element.transition ≡ t → IsEarliest n m 0 x → HasTermWith (transition_at n t) place v x.element.binding → Contains (entries_of t found) x
    has x of_it least with_it =
        let same = found_entry t x of_it in
        let own : IsEarliest n m 0 (entry_of t (record { binding = x.element.binding; earliest = x.earliest })) = subst (IsEarliest n m 0) (sym same) least in
        let there = (exact (record { binding = x.element.binding; earliest = x.earliest })).1 (contains_from_in bindings x.element.binding (complete x.earliest x.element.binding own.is_covered with_it), own) in
        subst (Contains (entries_of t found)) same (contains_from_in (entries_of t found) _ (in_map (entry_of t) found _ (in_from_contains found _ there)))

module _ (n : Net) (m : Marking) (t place : ℕ) (v : PlainValue) (plan : Plan) (sound : IsSound (net_view n)) (marking : IsMarking (net_view n).places m) (lt : t < length n.transitions.items) (planned : IsPlan (net_view n) t plan) (stands : StandsOn m place v) where
  abbrev all : List (List Trial)
  all = held m place v [] plan.stages.items

  all_have : (b : PlainBinding) → IsIn b (bindings_of (net_view n) t all) → HasTermWith (transition_at (net_view n) t) place v b
  all_have b h =
      let one = in_map_from bound_in (ends_of_each (net_view n) all (unbound (transition_at (net_view n) t).vars)) b h in
      subst (HasTermWith (transition_at (net_view n) t) place v) one.2
      (each_end_with (net_view n) m (transition_at (net_view n) t) _ place v all sound.functions_closed (vars_listed n t sound lt) planned.stages
      (held_are_of (net_view n) m place v (λ p. (held_at (net_view n).places m marking p).0) stands plan.stages.items planned.values) one.0 one.1)

  all_complete : (time : ℕ) (b : PlainBinding) → covered (net_view n) m time (element_of t b) ≡ true → HasTermWith (transition_at (net_view n) t) place v b → IsIn b (bindings_of (net_view n) t all)
  all_complete time b covered_it with_it =
      subst (λ c. IsIn c (bindings_of (net_view n) t all)) (bound_again b)
      (in_map bound_in (ends_of_each (net_view n) all (unbound (transition_at (net_view n) t).vars)) (as_partial b)
      (with_is_end (net_view n) m time place v (element_of t b) _ all sound.functions_closed (vars_listed n t sound lt) planned.stages
      (held_are_of (net_view n) m place v (λ p. (held_at (net_view n).places m marking p).0) stands plan.stages.items planned.values) covered_it with_it))

  -- what all the trials find, in order and each once
  pub found_is_enabled : (fs gs hs : List EnabledElement) → AreFoundSoFar (net_view n) m t all [] (map found_view fs) → IsPermutation fs gs → IsSortedBy comes_before gs → hs ≡ once_of [] gs → EnabledWith (net_view n) m t place v (map found_view hs)
  found_is_enabled fs gs hs so_far moved sorted are =
      subst (λ (ks : List EnabledElement). EnabledWith (net_view n) m t place v (map found_view ks)) (sym are)
      (with_from_found (net_view n) m t place v (bindings_of (net_view n) t all) (map found_view (once_of [] gs))
      (once_exact (net_view n) m t (bindings_of (net_view n) t all) fs gs (subst (λ ls. AllByRecursion (λ b. binds (net_view n) (transition_at (net_view n) t).vars b ≡ true) (bindings_of (net_view n) t ls)) done_is so_far.bound)
      (λ x. subst (λ ls. Contains (map found_view fs) x ↔ IsFoundAmong (net_view n) m t (bindings_of (net_view n) t ls) x) done_is (so_far.exact x)) moved)
      (sorted_once_rises gs sorted) all_have all_complete)
    where
      done_is : so_far.done ≡ all
      done_is = sym (so_far.all_are ∙ append-nil so_far.done)

  -- and how many tries they make
  pub pinned_by : (k : ℕ) → IsPinned (net_view n) m t place v k → tried_by_each (net_view n) all (unbound (transition_at (net_view n) t).vars) ≡ k
  pinned_by k pinned =
      one_pinned (net_view n) m t place v (tried_by_each (net_view n) all (unbound (transition_at (net_view n) t).vars)) k
      (pinned_is_tried (net_view n) m t sound.functions_closed (vars_listed n t sound lt) _ planned.stages place v all
      (held_are_of (net_view n) m place v (λ p. (held_at (net_view n).places m marking p).0) stands plan.stages.items planned.values))
      pinned

-- ---- where the value does not stand on the place

pub stands_if_held : (m : Marking) (place : ℕ) (v : PlainValue) → list_any (λ token. same_value v token.value) (tokens_at m place) ≡ true → StandsOn m place v
stands_if_held m place v is =
    let one = one_that_passes (λ (token : PlainToken). same_value v token.value) (tokens_at m place) is in
    (one.0, contains_from_in (tokens_at m place) one.0 one.1, sym (same_value_true v one.0.value one.2))

pub held_if_stands : (m : Marking) (place : ℕ) (v : PlainValue) → StandsOn m place v → list_any (λ token. same_value v token.value) (tokens_at m place) ≡ true
held_if_stands m place v stands =
    some_passes (λ (token : PlainToken). same_value v token.value) (tokens_at m place) stands.0 (in_from_contains (tokens_at m place) stands.0 stands.1)
    (subst (λ (w : PlainValue). same_value v w ≡ true) (sym stands.2) (same_value_refl v))

pub none_with : (n : PlainNet) (m : Marking) (t place : ℕ) (v : PlainValue) (found : List PlainFound) → (StandsOn m place v → ⊥) → found ≡ [] → EnabledWith n m t place v found
none_with n m t place v found absent none_there = subst (EnabledWith n m t place v) (sym none_there) (record {
  rising = tt;
  exact = λ x. (
    λ h. absurd (in_from_contains [] x h),
    λ is. absurd (absent (with_stands n m x.earliest place v x.element is.1.is_covered (subst (λ (k : ℕ). HasTermWith (transition_at n k) place v x.element.binding) (sym is.0) is.2))),
  );
})
