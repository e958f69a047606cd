-- What a search finds transition by transition, and that it has all enabled elements once it has been through all
-- transitions.
use Rattle.std.proofs.Common.{◌≡◌, ℕ, ◌+◌, ◌<◌, List, ◌++◌, length, sym, ap, ◌∙◌, subst, ⊎_elim, arith, Less, ltb-true}
use Rattle.std.specs.Ordering.{ordering_then}
use Rattle.std.specs.List.{AllByRecursion}
use Rattle.std.proofs.lemmas.Bool.{cases_lt}
use Rattle.cpn_definitions.specs.Lists.{Rises}
use Rattle.cpn_definitions.specs.Marking.{Marking}
use Rattle.cpn_definitions.specs.Net.{PlainNet}
use Rattle.cpn_definitions.specs.Enabled.{PlainEntry, PlainFound, binding_cmp, entry_cmp, IsEarliest, Enabled, entries_of, EnabledOf}
use Rattle.cpn_definitions.proofs.RisingLists.{IsIn, in_from_contains, contains_from_in, in_append_left, in_append_right, in_append_cases, in_map, in_map_from, each_in, rises_mapped, rises_appended}
use Rattle.cpn_definitions.proofs.NumberTests.{compared_less}
use Rattle.cpn_search.specs.Found.{not_before, entries_at, EnabledBelow}
use Rattle.cpn_stages.proofs.CoveredBindings.{covered_parts}
use Rattle.cpn_search.proofs.LeastTimes.{from_clock, from_start}

-- an entry of a lower transition comes first
lower_before : (x y : PlainEntry) → x.element.transition < y.element.transition → entry_cmp x y ≡ Less
lower_before x y lt = ap (λ o. ordering_then o (binding_cmp x.element.binding y.element.binding)) (compared_less x.element.transition y.element.transition lt)

-- ---- one transition more

module _ (n : PlainNet) (m : Marking) (clock t : ℕ) (entries : List PlainEntry) (found : List PlainFound) (below : EnabledBelow n m clock t entries) (here : EnabledOf n m t found) where
  abbrev new : List PlainEntry
  new = entries_at clock t found

  of_old : (x : PlainEntry) → IsIn x entries → (x.element.transition < t) × IsEarliest n m clock x
  of_old x h = (below.exact x).0 (contains_from_in entries x h)

  of_new : (x : PlainEntry) → IsIn x new → (x.element.transition ≡ t) × IsEarliest n m clock x
  of_new x h =
      let y = in_map_from (not_before clock) (entries_of t found) x h in
      let is = (here.exact y.0).0 (contains_from_in (entries_of t found) y.0 y.1) in
      (sym (ap (λ (z : PlainEntry). z.element.transition) y.2) ∙ is.0, subst (IsEarliest n m clock) y.2 (from_clock n m clock y.0 is.1))

  new_last : Rises entry_cmp (entries ++ new)
  new_last =
      rises_appended entry_cmp entries new below.rising (rises_mapped entry_cmp entry_cmp (not_before clock) (entries_of t found) (λ x y h. h) here.rising)
      (each_in (λ x. AllByRecursion (λ y. entry_cmp x y ≡ Less) new) entries
      (λ x h. each_in (λ y. entry_cmp x y ≡ Less) new (λ y g. lower_before x y (omega (arith, (of_old x h).0, (of_new y g).0)))))

  there : (x : PlainEntry) → x.element.transition < t + 1 → IsEarliest n m clock x → IsIn x (entries ++ new)
  there x lt is =
      ⊎_elim (λ before. in_append_left entries new x (in_from_contains entries x ((below.exact x).1 (before, is))))
      (λ upto. let least = from_start n m clock x is in
      let y : PlainEntry = record { earliest = least.0; element = x.element } in
      let at : not_before clock y ≡ x = ap (λ (time : ℕ). record { earliest = time; element = x.element }) least.2 in
      let found_it = in_from_contains (entries_of t found) y ((here.exact y).1 (omega (arith, upto, lt), least.1)) in
      in_append_right entries new x (subst (λ z. IsIn z new) at (in_map (not_before clock) (entries_of t found) y found_it)))
      (cases_lt x.element.transition t)

  -- the enabled bindings of one transition more
  pub enabled_more : EnabledBelow n m clock (t + 1) (entries ++ new)
  enabled_more = record {
    rising = new_last;
    exact = λ x. (
      λ h. ⊎_elim (λ old. (omega (arith, (of_old x old).0), (of_old x old).1)) (λ of. (omega (arith, (of_new x of).0), (of_new x of).1)) (in_append_cases entries new x (in_from_contains (entries ++ new) x h)),
      λ h. contains_from_in (entries ++ new) x (there x h.0 h.1),
    );
  }

-- ---- all transitions

-- those of all transitions are all
pub enabled_all : (n : PlainNet) (m : Marking) (clock : ℕ) (entries : List PlainEntry) → EnabledBelow n m clock (length n.transitions) entries → Enabled n m clock entries
enabled_all n m clock entries below = record {
  rising = below.rising;
  exact = λ x. (λ h. ((below.exact x).0 h).1, λ is. (below.exact x).1 (ltb-true x.element.transition (length n.transitions) (covered_parts n m x.earliest x.element is.is_covered).in_range, is));
}
