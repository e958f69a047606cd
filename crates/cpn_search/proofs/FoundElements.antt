-- What is found of a transition: its elements, each with what it needs, in whatever order; and as entries from a clock on.
use Rattle.std.proofs.Common.{◌≡◌, ℕ, List, [], ◌∷◌, ◌++◌, map, Option, Some, None, IfSome, MatchOption, option_map, refl, sym, ap, ap₂, ◌∙◌, subst, append-nil}
use Rattle.std.specs.List.{AllByRecursion}
use Rattle.std.specs.Option.{option_to_list}
use Rattle.std.specs.List.Sorted.{IsPermutation}
use Rattle.std.proofs.lemmas.List.{map-append}
use Rattle.std.proofs.lemmas.List.Sorted.{IsPermutation-sym, Contains-permutation}
use Rattle.cpn_definitions.specs.Enabled.{entries_of}
use Rattle.cpn_definitions.specs.Marking.{Marking}
use Rattle.cpn_definitions.specs.Meaning.{PlainBinding}
use Rattle.cpn_definitions.specs.Net.{PlainNet}
use Rattle.cpn_definitions.proofs.RisingLists.{in_from_contains, contains_from_in, each_in, of_one_in, each_appended}
use Rattle.cpn_core.specs.Elements.{enabled_view, HasItsNeeds}
use Rattle.cpn_core.specs.declared.entries.EnabledElement.{EnabledElement}
use Rattle.cpn_stages.specs.Partial.{PlainPartial, bound_in}
use Rattle.cpn_search.specs.Found.{element_of, IsNeverCovered, IsLeastTime, entries_at, not_before}
use Rattle.cpn_search.specs.FoundViews.{found_view, AreOf, from_clock}
use Rattle.cpn_search.specs.Searches.{AddsEnd}

-- ---- one end of a search

-- the element of a binding that is covered at some time adds the binding with its least time
pub end_added
    : (n : PlainNet) (m : Marking) (t : ℕ) (b : PlainPartial) (old now : List EnabledElement) (found : Option EnabledElement)
    → MatchOption (option_map (λ x. (enabled_view x).earliest) found) (IsNeverCovered n m (element_of t (bound_in b))) (IsLeastTime n m (element_of t (bound_in b)))
    → IfSome found (λ x. (enabled_view x).element ≡ element_of t (bound_in b))
    → now ≡ old ++ option_to_list found
    → AddsEnd n m t b (map found_view old) (map found_view now)
end_added n m t b old now None least is added = record { earliest = None; least = least; added = ap (map found_view) added ∙ map-append found_view old [] }
end_added n m t b old now (Some x) least is added = record {
  earliest = Some (enabled_view x).earliest;
  least = least;
  added = ap (map found_view) added ∙ map-append found_view old (x ∷ []) ∙ ap (λ (c : PlainBinding). map found_view old ++ record { binding = c; earliest = (enabled_view x).earliest } ∷ []) (ap (λ e. e.binding) is);
}

-- and it is one of the transition, with what it needs
pub elements_added
    : (n : PlainNet) (t : ℕ) (b : PlainBinding) (old now : List EnabledElement) (found : Option EnabledElement)
    → IfSome found (λ x. (enabled_view x).element ≡ element_of t b)
    → IfSome found (HasItsNeeds n)
    → now ≡ old ++ option_to_list found
    → AreOf n t old
    → AreOf n t now
elements_added n t b old now None is needs added all = subst (AreOf n t) (sym (added ∙ append-nil old)) all
elements_added n t b old now (Some x) is needs added all = subst (AreOf n t) (sym added) (each_appended (λ y. ((enabled_view y).element.transition ≡ t) × HasItsNeeds n y) old (x ∷ []) all ((ap (λ e. e.transition) is, needs), tt))

-- ---- in another order

pub elements_permuted : (n : PlainNet) (t : ℕ) (xs ys : List EnabledElement) → IsPermutation xs ys → AreOf n t xs → AreOf n t ys
elements_permuted n t xs ys moved all = each_in Is ys (λ x h. of_one_in Is xs x all (in_from_contains xs x (Contains-permutation ys xs x (IsPermutation-sym xs ys moved) (contains_from_in ys x h))))
  where
    Is : EnabledElement → Type 0
    Is x = ((enabled_view x).element.transition ≡ t) × HasItsNeeds n x

-- ---- as entries

entries_are : (n : PlainNet) (t : ℕ) (xs : List EnabledElement) → AreOf n t xs → map enabled_view xs ≡ entries_of t (map found_view xs)
entries_are n t [] all = refl
entries_are n t (x ∷ xs) all =
    ap₂ (λ (k : ℕ) others. record { earliest = (enabled_view x).earliest; element = record { transition = k; binding = (enabled_view x).element.binding } } ∷ others) all.0.0 (entries_are n t xs all.1)

-- the elements of a transition from a clock on: their entries are those of its bindings, and each has its needs
later_entries : (clock : ℕ) (xs : List EnabledElement) → map enabled_view (map (from_clock clock) xs) ≡ map (not_before clock) (map enabled_view xs)
later_entries clock [] = refl
later_entries clock (x ∷ xs) = ap (λ es. not_before clock (enabled_view x) ∷ es) (later_entries clock xs)

pub entries_from_clock
    : (n : PlainNet) (clock t : ℕ) (old new xs : List EnabledElement)
    → new ≡ old ++ map (from_clock clock) xs → AreOf n t xs
    → map enabled_view new ≡ map enabled_view old ++ entries_at clock t (map found_view xs)
entries_from_clock n clock t old new xs are all =
    ap (map enabled_view) are ∙ map-append enabled_view old (map (from_clock clock) xs)
    ∙ ap (λ es. map enabled_view old ++ es) (later_entries clock xs ∙ ap (map (not_before clock)) (entries_are n t xs all))

pub needs_from_clock
    : (n : PlainNet) (clock t : ℕ) (old new xs : List EnabledElement)
    → new ≡ old ++ map (from_clock clock) xs → AreOf n t xs
    → AllByRecursion (HasItsNeeds n) old → AllByRecursion (HasItsNeeds n) new
needs_from_clock n clock t old new xs are all before = subst (AllByRecursion (HasItsNeeds n)) (sym are) (each_appended (HasItsNeeds n) old (map (from_clock clock) xs) before (later xs all))
  where
    later : (ys : List EnabledElement) → AreOf n t ys → AllByRecursion (HasItsNeeds n) (map (from_clock clock) ys)
    later [] of = tt
    later (y ∷ ys) of = (of.0.1, later ys of.1)
