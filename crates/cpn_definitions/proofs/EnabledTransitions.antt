-- What is enabled of one transition is what is enabled from time 0 on, of this transition; and it has one list.
use Rattle.std.proofs.Common.{◌≡◌, ℕ, ◌==◌, Bool, true, false, cond, List, [], ◌∷◌, map, refl, sym, ap, ◌∙◌, subst, eqb-true, Ordering, Less}
use Rattle.std.specs.List.{filter}
use Rattle.cpn_definitions.specs.Lists.{Rises}
use Rattle.cpn_definitions.specs.Marking.{Marking}
use Rattle.cpn_definitions.specs.Net.{PlainNet}
use Rattle.cpn_definitions.specs.Enabled.{PlainEntry, entry_cmp, Enabled, PlainFound, entries_of, EnabledOf}
use Rattle.cpn_definitions.proofs.RisingLists.{IsIn, in_from_contains, contains_from_in, in_filter, in_filter_from, each_filtered}
use Rattle.cpn_definitions.proofs.OneEnabledList.{rising_is_unique, entry_cmp_total}
use Rattle.cpn_definitions.proofs.NumberTests.{equals_itself}

rises_filtered : {X : Type 0} (c : X → X → Ordering) (p : X → Bool) (xs : List X) → Rises c xs → Rises c (filter p xs)
rises_filtered c p [] rise = tt
rises_filtered c p (x ∷ xs) rise = split (p x) (rises_filtered c p xs rise.1)
  where
    split : (test : Bool) → Rises c (filter p xs) → Rises c (cond test (x ∷ filter p xs) (filter p xs))
    split true rest = (each_filtered (λ y. c x y ≡ Less) p xs rise.0, rest)
    split false rest = rest

-- those of the entries that are of the transition
abbrev of_transition : ℕ → PlainEntry → Bool
of_transition t x = x.element.transition == t

pub enabled_of_one : (n : PlainNet) (m : Marking) (t : ℕ) (found : List PlainFound) (entries : List PlainEntry) → EnabledOf n m t found → Enabled n m 0 entries → entries_of t found ≡ filter (of_transition t) entries
enabled_of_one n m t found entries here all = rising_is_unique entry_cmp entry_cmp_total (entries_of t found) (filter (of_transition t) entries) here.rising (rises_filtered entry_cmp (of_transition t) entries all.rising) to from
  where
    to : (x : PlainEntry) → IsIn x (entries_of t found) → IsIn x (filter (of_transition t) entries)
    to x h =
        let is = (here.exact x).0 (contains_from_in (entries_of t found) x h) in
        in_filter (of_transition t) entries x (in_from_contains entries x ((all.exact x).1 is.1)) (subst (λ k. (x.element.transition == k) ≡ true) is.0 (equals_itself x.element.transition))

    from : (x : PlainEntry) → IsIn x (filter (of_transition t) entries) → IsIn x (entries_of t found)
    from x h =
        let parts = in_filter_from (of_transition t) entries x h in
        in_from_contains (entries_of t found) x ((here.exact x).1 (eqb-true x.element.transition t parts.1, (all.exact x).0 (contains_from_in entries x parts.0)))

-- ---- one list

abbrev found_in : PlainEntry → PlainFound
found_in x = record { binding = x.element.binding; earliest = x.earliest }

found_again : (t : ℕ) (found : List PlainFound) → map found_in (entries_of t found) ≡ found
found_again t [] = refl
found_again t (f ∷ found) = ap (λ (fs : List PlainFound). f ∷ fs) (found_again t found)

pub one_found : (n : PlainNet) (m : Marking) (t : ℕ) (xs ys : List PlainFound) → EnabledOf n m t xs → EnabledOf n m t ys → xs ≡ ys
one_found n m t xs ys first second =
    sym (found_again t xs) ∙ ap (λ entries. map found_in entries) same ∙ found_again t ys
  where
    same : entries_of t xs ≡ entries_of t ys
    same =
        rising_is_unique entry_cmp entry_cmp_total (entries_of t xs) (entries_of t ys) first.rising second.rising
        (λ x h. in_from_contains (entries_of t ys) x ((second.exact x).1 ((first.exact x).0 (contains_from_in (entries_of t xs) x h))))
        (λ x h. in_from_contains (entries_of t xs) x ((first.exact x).1 ((second.exact x).0 (contains_from_in (entries_of t ys) x h))))
