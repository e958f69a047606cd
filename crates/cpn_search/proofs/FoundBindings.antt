-- What a search has found, binding by binding, and that, once it is in order, it is what is enabled.
use Rattle.std.proofs.Common.{◌≡◌, ◌⊎◌, ◌↔◌, ℕ, ◌==◌, true, ◌&&◌, List, [], ◌∷◌, ◌++◌, map, append-nil, refl, sym, ap, ap₂, subst, ◌∙◌, Option, Some, None, MatchOption, inl, inr, ⊎_elim, Contains, Equal, eqb-true}
use Rattle.std.specs.Ordering.{ordering_then}
use Rattle.std.proofs.lemmas.Bool.{and_parts}
use Rattle.std.proofs.lemmas.Cmp.{tied_itself, nat_cmp_total}
use Rattle.std.proofs.lemmas.List.{map-append}
use Rattle.cpn_definitions.specs.Value.{PlainValue}
use Rattle.cpn_definitions.specs.Order.{value_cmp}
use Rattle.cpn_definitions.specs.ValueOrder.{value_same, then_first, then_second}
use Rattle.cpn_definitions.specs.Colour.{admits}
use Rattle.cpn_definitions.specs.Lists.{Rises}
use Rattle.cpn_definitions.specs.Marking.{Marking}
use Rattle.cpn_definitions.specs.Net.{PlainNet, variable_at}
use Rattle.cpn_definitions.specs.Meaning.{PlainBinding}
use Rattle.cpn_definitions.specs.Occurrence.{binds, covered}
use Rattle.cpn_definitions.specs.Enabled.{PlainEntry, PlainFound, binding_cmp, entry_cmp, entries_of, IsEarliest, EnabledOf}
use Rattle.cpn_definitions.proofs.RisingLists.{IsIn, in_from_contains, contains_from_in, in_append_left, in_append_right, in_append_cases, in_map, in_map_from, rises_mapped}
use Rattle.cpn_stages.specs.Work.{AllDiffer}
use Rattle.cpn_search.specs.Found.{element_of, IsNeverCovered, IsLeastTime, found_of}
use Rattle.cpn_search.specs.Searches.{FoundAmong}
use Rattle.cpn_search.proofs.LeastTimes.{not_never, least_is_one}

-- ---- one binding more

pub among_none : (n : PlainNet) (m : Marking) (t : ℕ) → FoundAmong n m t [] []
among_none n m t = record { differ = tt; exact = λ x. (λ h. absurd (in_from_contains [] x h), λ h. absurd (in_from_contains [] x.binding h.0)) }

-- a list whose items differ, with one item more that differs from them
differ_more : {A : Type 0} (xs : List A) (y : A) → AllDiffer xs → (IsIn y xs → ⊥) → AllDiffer (xs ++ y ∷ [])
differ_more [] y differ other = (λ h. in_from_contains [] y h, tt)
differ_more (x ∷ xs) y differ other = (λ h. first (in_append_cases xs (y ∷ []) x (in_from_contains (xs ++ y ∷ []) x h)), differ_more xs y differ.1 (λ h. other (inr h)))
  where
    first : IsIn x xs ⊎ IsIn x (y ∷ []) → ⊥
    first (inl h) = differ.0 (contains_from_in xs x h)
    first (inr (inl e)) = other (inl (sym e))
    first (inr (inr h)) = h

abbrev binding_of : PlainFound → PlainBinding
binding_of f = f.binding

abbrev found_at : PlainBinding → ℕ → PlainFound
found_at b time = record { binding = b; earliest = time }

-- an entry of a found binding
pub entry_is : (n : PlainNet) (m : Marking) (t time other : ℕ) (b : PlainBinding) → IsLeastTime n m (element_of t b) time → IsLeastTime n m (element_of t b) other → time ≡ other
entry_is n m t time other b first second = least_is_one n m 0 other (record { earliest = time; element = element_of t b }) first second

module _ (n : PlainNet) (m : Marking) (t : ℕ) (bindings : List PlainBinding) (found : List PlainFound) (b : PlainBinding) (so_far : FoundAmong n m t bindings found) (new : IsIn b bindings → ⊥) where
  which : (c : PlainBinding) → Contains (bindings ++ b ∷ []) c → Contains bindings c ⊎ (c ≡ b)
  which c h = ⊎_elim (λ g. inl (contains_from_in bindings c g)) (λ g. inr (of_last g)) (in_append_cases bindings (b ∷ []) c (in_from_contains (bindings ++ b ∷ []) c h))
    where
      of_last : IsIn c (b ∷ []) → c ≡ b
      of_last (inl e) = sym e
      of_last (inr g) = absurd g

  -- one that is never covered adds nothing
  among_never : IsNeverCovered n m (element_of t b) → FoundAmong n m t (bindings ++ b ∷ []) found
  among_never never = record {
    differ = so_far.differ;
    exact = λ x. (
      λ h. let is = (so_far.exact x).0 h in (contains_from_in (bindings ++ b ∷ []) x.binding (in_append_left bindings (b ∷ []) x.binding (in_from_contains bindings x.binding is.0)), is.1),
      λ is. ⊎_elim (λ before. (so_far.exact x).1 (before, is.1))
          (λ here. absurd (not_never n m 0 (record { earliest = x.earliest; element = element_of t x.binding }) is.1 (subst (λ c. IsNeverCovered n m (element_of t c)) (sym here) never))) (which x.binding is.0),
    );
  }

  not_found : IsIn b (map binding_of found) → ⊥
  not_found h =
      let one = in_map_from binding_of found b h in
      new (subst (λ c. IsIn c bindings) one.2 (in_from_contains bindings one.0.binding ((so_far.exact one.0).0 (contains_from_in found one.0 one.1)).0))

  -- one that is covered adds itself with its least time
  among_covered : (time : ℕ) → IsLeastTime n m (element_of t b) time → FoundAmong n m t (bindings ++ b ∷ []) (found ++ found_at b time ∷ [])
  among_covered time least = record {
    differ = subst AllDiffer (sym (map-append binding_of found (found_at b time ∷ []))) (differ_more (map binding_of found) b so_far.differ not_found);
    exact = λ x. (λ h. is_one x (in_append_cases found (found_at b time ∷ []) x (in_from_contains (found ++ found_at b time ∷ []) x h)), λ is. has_one x is (which x.binding is.0));
  }
    where
      is_one : (x : PlainFound) → IsIn x found ⊎ IsIn x (found_at b time ∷ []) → Contains (bindings ++ b ∷ []) x.binding × IsLeastTime n m (element_of t x.binding) x.earliest
      is_one x (inl h) =
          let is = (so_far.exact x).0 (contains_from_in found x h) in
          (contains_from_in (bindings ++ b ∷ []) x.binding (in_append_left bindings (b ∷ []) x.binding (in_from_contains bindings x.binding is.0)), is.1)
      is_one x (inr (inl e)) = (
        contains_from_in (bindings ++ b ∷ []) x.binding (in_append_right bindings (b ∷ []) x.binding (inl (ap (λ (f : PlainFound). f.binding) e))),
        subst (λ (f : PlainFound). IsLeastTime n m (element_of t f.binding) f.earliest) e least,
      )
      is_one x (inr (inr h)) = absurd h

      has_one : (x : PlainFound) → Contains (bindings ++ b ∷ []) x.binding × IsLeastTime n m (element_of t x.binding) x.earliest → Contains bindings x.binding ⊎ (x.binding ≡ b) → Contains (found ++ found_at b time ∷ []) x
      has_one x is (inl before) = contains_from_in (found ++ found_at b time ∷ []) x (in_append_left found (found_at b time ∷ []) x (in_from_contains found x ((so_far.exact x).1 (before, is.1))))
      has_one x is (inr here) =
          let at : time ≡ x.earliest = entry_is n m t time x.earliest b least (subst (λ c. IsLeastTime n m (element_of t c) x.earliest) here is.1) in
          contains_from_in (found ++ found_at b time ∷ []) x (in_append_right found (found_at b time ∷ []) x (inl (ap₂ (λ c (k : ℕ). found_at c k) (sym here) at)))

-- one binding more, with its least time where there is one
pub among_more
    : (n : PlainNet) (m : Marking) (t : ℕ) (bindings : List PlainBinding) (found now : List PlainFound) (b : PlainBinding) (earliest : Option ℕ)
    → FoundAmong n m t bindings found → (IsIn b bindings → ⊥) → MatchOption earliest (IsNeverCovered n m (element_of t b)) (IsLeastTime n m (element_of t b)) → now ≡ found ++ found_of b earliest
    → FoundAmong n m t (bindings ++ b ∷ []) now
among_more n m t bindings found now b None so_far new never are = subst (FoundAmong n m t (bindings ++ b ∷ [])) (sym (are ∙ append-nil found)) (among_never n m t bindings found b so_far new never)
among_more n m t bindings found now b (Some time) so_far new least are = subst (FoundAmong n m t (bindings ++ b ∷ [])) (sym are) (among_covered n m t bindings found b so_far new time least)

-- ---- all bindings, in order

-- two bindings of the same variables that compare as equal are the same
pub same_binding : (n : PlainNet) (xs : List ℕ) (b c : PlainBinding) → binds n xs b ≡ true → binds n xs c ≡ true → binding_cmp b c ≡ Equal → b ≡ c
same_binding n [] [] [] first second is = refl
same_binding n [] [] (q ∷ c) first second is = cc
same_binding n [] (p ∷ b) c first second is = cc
same_binding n (x ∷ xs) [] c first second is = cc
same_binding n (x ∷ xs) (p ∷ b) [] first second is = cc
same_binding n (x ∷ xs) (p ∷ b) (q ∷ c) first second is =
    let one = and_parts ((x == p.0) && admits (variable_at n x).colour p.1) (binds n xs b) first in
    let two = and_parts ((x == q.0) && admits (variable_at n x).colour q.1) (binds n xs c) second in
    let px = eqb-true x p.0 (and_parts (x == p.0) (admits (variable_at n x).colour p.1) one.0).0 in
    let qx = eqb-true x q.0 (and_parts (x == q.0) (admits (variable_at n x).colour q.1) two.0).0 in
    let value : p.1 ≡ q.1 = value_same p.1 q.1 (then_first (value_cmp p.1 q.1) (binding_cmp b c) is) in
    let rest = same_binding n xs b c one.1 two.1 (then_second (value_cmp p.1 q.1) (binding_cmp b c) is) in
    ap₂ (λ (pair : ℕ × PlainValue) (others : PlainBinding). pair ∷ others) (ap₂ (λ (y : ℕ) (v : PlainValue). (y, v)) (sym px ∙ qx) value) rest

-- an entry is that of what was found
abbrev pub entry_of : ℕ → PlainFound → PlainEntry
entry_of t f = record { earliest = f.earliest; element = element_of t f.binding }

pub found_entry : (t : ℕ) (x : PlainEntry) → x.element.transition ≡ t → entry_of t (record { binding = x.element.binding; earliest = x.earliest }) ≡ x
found_entry t x is = ap (λ (k : ℕ). record { earliest = x.earliest; element = element_of k x.element.binding }) (sym is)

-- what was found among bindings that have all with which the transition is covered, in order, is what is enabled
pub enabled_from_found
    : (n : PlainNet) (m : Marking) (t : ℕ) (bindings : List PlainBinding) (found : List PlainFound)
    → ((x : PlainFound) → Contains found x ↔ (Contains bindings x.binding × IsLeastTime n m (element_of t x.binding) x.earliest)) → Rises (λ (f g : PlainFound). binding_cmp f.binding g.binding) found
    → ((time : ℕ) (b : PlainBinding) → covered n m time (element_of t b) ≡ true → IsIn b bindings)
    → EnabledOf n m t found
enabled_from_found n m t bindings found exact rise complete = record {
  rising = rises_mapped (λ (f g : PlainFound). binding_cmp f.binding g.binding) entry_cmp (entry_of t) found (λ f g h. ap (λ o. ordering_then o (binding_cmp f.binding g.binding)) (tied_itself nat_cmp_total t) ∙ h) rise;
  exact = λ x. (λ h. is_enabled x (in_map_from (entry_of t) found x (in_from_contains (entries_of t found) x h)), λ is. has x is.0 is.1);
}
  where
    is_enabled : (x : PlainEntry) → (f : PlainFound) × IsIn f found × (entry_of t f ≡ x) → (x.element.transition ≡ t) × IsEarliest n m 0 x
    is_enabled x one =
        let least = ((exact one.0).0 (contains_from_in found one.0 one.1)).1 in
        (ap (λ (y : PlainEntry). y.element.transition) (sym one.2), subst (IsEarliest n m 0) one.2 least)

    has : (x : PlainEntry) → x.element.transition ≡ t → IsEarliest n m 0 x → Contains (entries_of t found) x
    has x of_it least =
        let same = found_entry t x of_it in
        let own : IsEarliest n m 0 (entry_of t (record { binding = x.element.binding; earliest = x.earliest })) = subst (IsEarliest n m 0) (sym same) least in
        let there = (exact (record { binding = x.element.binding; earliest = x.earliest })).1 (contains_from_in bindings x.element.binding (complete x.earliest x.element.binding own.is_covered), own) in
        subst (Contains (entries_of t found)) same (contains_from_in (entries_of t found) _ (in_map (entry_of t) found _ (in_from_contains found _ there)))
