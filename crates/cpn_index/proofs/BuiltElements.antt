-- What is enabled in a marking, put into an empty list.
use Rattle.std.proofs.Common.{◌≡◌, ◌<◌, true, List, [], map, length, Contains, subst, ⊎_elim}
use Rattle.std.specs.List.{AllByRecursion}
use Rattle.cpn_definitions.specs.Lists.{Rises}
use Rattle.cpn_definitions.specs.Marking.{Marking}
use Rattle.cpn_definitions.specs.Net.{PlainNet}
use Rattle.cpn_definitions.specs.Sound.{IsSound}
use Rattle.cpn_definitions.specs.Enabled.{PlainEntry, IsEarliest, Enabled}
use Rattle.cpn_definitions.proofs.RisingLists.{IsIn, in_from_contains, contains_from_in, in_map, in_map_from, of_one_in, each_in}
use Rattle.cpn_core.specs.declared.entries.EnabledElement.{EnabledElement}
use Rattle.cpn_core.specs.Elements.{enabled_view, HasItsNeeds}
use Rattle.cpn_due.specs.Due.{PlainEnabled, plain_enabled, entries_in, enabled_cmp, is_kept}
use Rattle.cpn_index.specs.Retimed.{IsOfNet, AreOfNet}
use Rattle.cpn_index.specs.Added.{AreAdded}
use Rattle.cpn_index.proofs.KeptLists.{covered_may}
use Rattle.cpn_index.proofs.TouchedElements.{of_the_net}
use Rattle.cpn_index.proofs.AddedElements.{needs_in_range}
use Rattle.cpn_index.proofs.UpdatedElements.{enabled_from}

module _ (n : PlainNet) (m : Marking) (found : List EnabledElement) (enabled : Enabled n m 0 (map enabled_view found)) (own : AllByRecursion (HasItsNeeds n) found) where
  least : (x : EnabledElement) → IsIn x found → IsEarliest n m 0 (enabled_view x)
  least x h = (enabled.exact (enabled_view x)).0 (contains_from_in (map enabled_view found) (enabled_view x) (in_map enabled_view found x h))

  -- their needs are on places of the net
  pub enabled_in_range : IsSound n → AllByRecursion (λ (x : EnabledElement). AllByRecursion (λ need. need.place < length n.places) x.needs) found
  enabled_in_range sound =
      each_in (λ (x : EnabledElement). AllByRecursion (λ need. need.place < length n.places) x.needs) found
      (λ x h. needs_in_range n (enabled_view x).element x.needs sound (of_the_net n m (enabled_view x).earliest (enabled_view x).element (least x h).is_covered) (of_one_in (HasItsNeeds n) found x own h))

  module _ (kept : List PlainEnabled) (added : AreAdded [] (map plain_enabled found) kept) where
    of_kept : (x : PlainEnabled) → Contains kept x → (y : EnabledElement) × IsIn y found × (plain_enabled y ≡ x)
    of_kept x h = in_map_from plain_enabled found x (⊎_elim (λ none. absurd (in_from_contains [] x none)) (λ more. in_from_contains (map plain_enabled found) x more) (added.come x h))

    all_kept : (y : PlainEntry) → IsEarliest n m 0 y → is_kept y.element kept ≡ true
    all_kept y is =
        let x = in_map_from enabled_view found y (in_from_contains (map enabled_view found) y ((enabled.exact y).1 is)) in
        subst (λ (y : PlainEntry). is_kept y.element kept ≡ true) x.2 (added.listed (plain_enabled x.0) (contains_from_in (map plain_enabled found) (plain_enabled x.0) (in_map plain_enabled found x.0 x.1)))

    pub built_enabled : Rises enabled_cmp kept → Enabled n m 0 (entries_in kept)
    built_enabled rising =
        enabled_from n m kept rising (λ x h. let y = of_kept x h in subst (λ (x : PlainEnabled). IsEarliest n m 0 x.entry) y.2 (least y.0 y.1)) all_kept

    pub built_own : AreOfNet n kept
    built_own =
        each_in (IsOfNet n) kept
        (λ x h. let y = of_kept x (contains_from_in kept x h) in subst (IsOfNet n) y.2 (record { may = covered_may n m (enabled_view y.0).earliest (enabled_view y.0).element (least y.0 y.1).is_covered; needs = of_one_in (HasItsNeeds n) found y.0 own y.1 }))
