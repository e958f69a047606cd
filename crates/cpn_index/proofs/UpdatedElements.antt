-- After an update what is kept is what is enabled in the new marking.
use Rattle.std.proofs.Common.{◌≡◌, ℕ, ◌<◌, true, false, List, length, refl, sym, ap, ◌∙◌, subst, ⊎_elim, Contains}
use Rattle.std.proofs.lemmas.Bool.{cases_Bool}
use Rattle.cpn_definitions.specs.Value.{PlainValue}
use Rattle.cpn_definitions.specs.Lists.{Rises}
use Rattle.cpn_definitions.specs.Marking.{Marking}
use Rattle.cpn_definitions.specs.Net.{PlainNet, transition_at}
use Rattle.cpn_definitions.specs.Outcome.{Outcome, gives_and}
use Rattle.cpn_definitions.specs.Occurrence.{Needed, covered}
use Rattle.cpn_definitions.specs.Enabled.{PlainEntry, entry_cmp, IsEarliest, Enabled}
use Rattle.cpn_definitions.proofs.RisingLists.{IsIn, in_from_contains, contains_from_in, in_map, in_map_from, rises_mapped}
use Rattle.cpn_tmset.specs.Changed.{PlainChange, is_told, OthersStay}
use Rattle.cpn_due.specs.Due.{PlainEnabled, entries_in, enabled_cmp, is_kept}
use Rattle.cpn_index.specs.Touched.{touches, is_touched, ReadsToldOtherwise}
use Rattle.cpn_index.specs.Retimed.{IsOfNet, AreRetimed}
use Rattle.cpn_index.specs.Added.{HaveMore, HaveAll, IsOfTransition, HasTermAt}
use Rattle.cpn_index.proofs.KeptLists.{kept_entry, kept_from}
use Rattle.cpn_index.proofs.UntouchedElements.{earliest_untouched, earliest_before}
use Rattle.cpn_index.proofs.TouchedElements.{touched_is_found, of_the_net}

-- what is enabled is kept, and what is kept is enabled
pub enabled_from : (n : PlainNet) (m : Marking) (xs : List PlainEnabled) → Rises enabled_cmp xs → ((x : PlainEnabled) → Contains xs x → IsEarliest n m 0 x.entry)
    → ((y : PlainEntry) → IsEarliest n m 0 y → is_kept y.element xs ≡ true) → Enabled n m 0 (entries_in xs)
enabled_from n m xs rising each all = record {
  rising = rises_mapped enabled_cmp entry_cmp (λ (x : PlainEnabled). x.entry) xs (λ x y less. less) rising;
  exact = λ y. (
    λ h. let x = in_map_from (λ (x : PlainEnabled). x.entry) xs y (in_from_contains (entries_in xs) y h) in subst (IsEarliest n m 0) x.2 (each x.0 (contains_from_in xs x.0 x.1)),
    λ is. let x = kept_entry n m xs y (λ x h. each x (contains_from_in xs x h)) is (all y is) in
        contains_from_in (entries_in xs) y (subst (λ (z : PlainEntry). IsIn z (entries_in xs)) x.2 (in_map (λ (x : PlainEnabled). x.entry) xs x.0 x.1)),
  );
}

module _ (n : PlainNet) (told : List PlainChange) (old new : Marking) (before retimed after : List PlainEnabled) (stay : OthersStay told old new) (enabled : Enabled n old 0 (entries_in before)) (own : (x : PlainEnabled) → Contains before x → IsOfNet n x) (anew : AreRetimed n new told before retimed) where
  was_enabled : (x : PlainEnabled) → Contains before x → IsEarliest n old 0 x.entry
  was_enabled x h = (enabled.exact x.entry).0 (contains_from_in (entries_in before) x.entry (in_map (λ (y : PlainEnabled). y.entry) before x (in_from_contains before x h)))

  not_touched : (x : PlainEnabled) → IsOfNet n x → touches told x.needs ≡ false → is_touched n told x.entry.element ≡ false
  not_touched x its none = ap (λ (o : Outcome (List Needed)). gives_and o (touches told)) its.needs ∙ none

  -- what is taken anew has its least time
  pub retimed_least : (x : PlainEnabled) → Contains retimed x → IsEarliest n new 0 x.entry
  retimed_least x h =
      ⊎_elim (λ touched. anew.anew x h touched)
      (λ none. ⊎_elim (λ was. earliest_untouched told old new stay n 0 x.entry (not_touched x (own x was) none) (was_enabled x was)) (λ earliest. earliest) (anew.timed x h))
      (cases_Bool (touches told x.needs))

  -- and what is enabled and not touched is there
  untouched_there : (y : PlainEntry) → is_touched n told y.element ≡ false → IsEarliest n new 0 y → (x : PlainEnabled) × Contains retimed x × (x.entry.element ≡ y.element)
  untouched_there y none is =
      let was = in_map_from (λ (x : PlainEnabled). x.entry) before y (in_from_contains (entries_in before) y ((enabled.exact y).1 (earliest_before told old new stay n 0 y none is))) in
      let x = anew.none_missing was.0 y.earliest (contains_from_in before was.0 was.1) (subst (λ (z : PlainEntry). covered n new y.earliest z.element ≡ true) (sym was.2) is.is_covered) in
      (x.0, x.1, x.2 ∙ ap (λ (z : PlainEntry). z.element) was.2)

  pub updated_is_enabled : HaveMore n new retimed after → Rises enabled_cmp after
      → ((p : ℕ) (v : PlainValue) → is_told p v told ≡ true → HaveAll n new (HasTermAt n p v) after)
      → ((t : ℕ) → t < length n.transitions → ReadsToldOtherwise (transition_at n t) told → HaveAll n new (IsOfTransition t) after)
      → Enabled n new 0 (entries_in after)
  updated_is_enabled more rising with_values wholes =
      enabled_from n new after rising (λ x h. ⊎_elim (λ was. retimed_least x was) (λ comes. comes.0) (more.come x h))
      (λ y is. ⊎_elim (λ touched. ⊎_elim (λ reads. wholes y.element.transition (of_the_net n new y.earliest y.element is.is_covered) reads y is refl) (λ has. with_values has.place has.value has.is_told_there y is has.has) (touched_is_found n told y.element touched))
      (λ none. let x = untouched_there y none is in kept_from y.element after x.0 (in_from_contains after x.0 (more.stay x.0 x.1)) x.2) (cases_Bool (is_touched n told y.element)))
