-- What is kept after another guard of a transition: the elements of the others, and what is enabled of it.
use Rattle.std.proofs.Common.{◌≡◌, ◌≢◌, ℕ, ◌==◌, not, true, false, List, sym, ap, subst, ⊎_elim, Contains, eqb-true, eq-eqb}
use Rattle.std.proofs.lemmas.Bool.{cases_Bool}
use Rattle.cpn_definitions.specs.Inscription.{PlainExpr}
use Rattle.cpn_definitions.specs.Lists.{Rises}
use Rattle.cpn_definitions.specs.Marking.{Marking}
use Rattle.cpn_definitions.specs.Net.{PlainNet}
use Rattle.cpn_definitions.specs.Enabled.{PlainEntry, IsEarliest, Enabled}
use Rattle.cpn_definitions.proofs.RisingLists.{IsIn, in_from_contains, contains_from_in, in_map, in_map_from, in_filter, in_filter_from, of_one_in, each_in}
use Rattle.cpn_definitions.proofs.TruthValues.{not_both}
use Rattle.cpn_due.specs.Due.{PlainEnabled, entries_in, enabled_cmp, is_kept}
use Rattle.cpn_index.specs.Added.{HaveMore, HaveAll, IsOfTransition}
use Rattle.cpn_index.specs.Index.{with_guard_at}
use Rattle.cpn_index.specs.Retimed.{IsOfNet, AreOfNet}
use Rattle.cpn_index.specs.WatchedElements.{of_others}
use Rattle.cpn_index.proofs.KeptLists.{kept_from, not_true, not_false}
use Rattle.cpn_index.proofs.UpdatedElements.{enabled_from}
use Rattle.cpn_index.proofs.OtherGuards.{other_of_net, other_earliest, earliest_other}

module _ (old : PlainNet) (t : ℕ) (guard : List PlainExpr) (vars : List ℕ) (m : Marking) (before after : List PlainEnabled) (enabled : Enabled old m 0 (entries_in before)) (own : AreOfNet old before) where
  abbrev new : PlainNet
  new = with_guard_at old t guard vars

  is_other : (x : PlainEnabled) → Contains (of_others t before) x → IsIn x before × (x.entry.element.transition ≢ t)
  is_other x h =
      let parts = in_filter_from (λ (y : PlainEnabled). not (y.entry.element.transition == t)) before x (in_from_contains (of_others t before) x h) in
      (parts.0, λ same. not_both (x.entry.element.transition == t) (eq-eqb x.entry.element.transition t same) (not_true (x.entry.element.transition == t) parts.1))

  other_is : (x : PlainEnabled) → IsIn x before → (x.entry.element.transition == t) ≡ false → Contains (of_others t before) x
  other_is x h other = contains_from_in (of_others t before) x (in_filter (λ (y : PlainEnabled). not (y.entry.element.transition == t)) before x h (not_false (x.entry.element.transition == t) other))

  module _ (more : HaveMore new m (of_others t before) after) where
    each_least : (x : PlainEnabled) → Contains after x → IsEarliest new m 0 x.entry
    each_least x h =
        ⊎_elim
        (λ was. let other = is_other x was in
        other_earliest old t guard vars m x.entry other.1 ((enabled.exact x.entry).0 (contains_from_in (entries_in before) x.entry (in_map (λ (y : PlainEnabled). y.entry) before x other.0))))
        (λ comes. comes.0) (more.come x h)

    -- what is enabled of another transition is still there
    other_kept : (y : PlainEntry) → (y.element.transition == t) ≡ false → IsEarliest new m 0 y → is_kept y.element after ≡ true
    other_kept y other is =
        let apart : y.element.transition ≢ t = λ same. not_both (y.element.transition == t) (eq-eqb y.element.transition t same) other in
        let was = in_map_from (λ (x : PlainEnabled). x.entry) before y (in_from_contains (entries_in before) y ((enabled.exact y).1 (earliest_other old t guard vars m y apart is))) in
        let there = other_is was.0 was.1 (subst (λ (z : PlainEntry). (z.element.transition == t) ≡ false) (sym was.2) other) in
        kept_from y.element after was.0 (in_from_contains after was.0 (more.stay was.0 there)) (ap (λ (z : PlainEntry). z.element) was.2)

    pub guarded_enabled : HaveAll new m (IsOfTransition t) after → Rises enabled_cmp after → Enabled new m 0 (entries_in after)
    guarded_enabled all rising =
        enabled_from new m after rising each_least (λ y is. ⊎_elim (λ of_it. all y is (eqb-true y.element.transition t of_it)) (λ other. other_kept y other is) (cases_Bool (y.element.transition == t)))

    pub guarded_own : AreOfNet new after
    guarded_own =
        each_in (IsOfNet new) after
        (λ x h. ⊎_elim (λ was. let other = is_other x was in other_of_net old t guard vars x other.1 (of_one_in (IsOfNet old) before x own other.0)) (λ comes. comes.1) (more.come x (contains_from_in after x h)))
