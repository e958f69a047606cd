-- The stamps of the value lose the latest, and the entry goes with the last.
use Rattle.std.proofs.Common.{◌≡◌, ℕ, ◌<◌, List, [], length, refl, sym, ap, subst, ◌∙◌, arith, nat_cmp, cond}
use Rattle.std.specs.List.Sorted.{IsStrictlySortedBy}
use Rattle.std.specs.Option.{unwrap_or}
use Rattle.std.specs.Map.{keys_of, remove_entry}
use Rattle.std.specs.BTreeMap.{BTreeMap, is_at}
use Rattle.std.proofs.lemmas.List.{nil_from_length}
use Rattle.cpn_definitions.specs.Lists.{IsInOrder}
use Rattle.cpn_definitions.specs.Order.{same_value}
use Rattle.cpn_definitions.specs.Marking.{without_latest}
use Rattle.cpn_core.specs.declared.values.Value.{Value}
use Rattle.cpn_core.specs.Same.{value_order}
use Rattle.cpn_core.specs.Views.{value_view}
use Rattle.cpn_tmset.specs.Stamps.{latest_of}
use Rattle.cpn_tmset.specs.TMSets.{stamps_in}
use Rattle.cpn_tmset.specs.Views.{entries_view}
use Rattle.cpn_tmset.proofs.EntryStamps.{changed, unchanged, held, held_in_order, held_some, in_entries, written, written_kept, removed, removed_kept, removed_written, without_in_order, none_without}
use Rattle.cpn_tmset.proofs.tmsets.take_stamp.Goals as goal

-- ---- the value has no entry

pub returns-in_err-stamps-clause-stamp : goal.returns-in_err-stamps-clause-stamp
returns-in_err-stamps-clause-stamp c =
    let none : stamps_in (value_view c.args.value.now) (entries_view c.args.entries.now.entries) ≡ [] = in_entries (value_view c.args.value.now) c.args.entries.now.entries ∙ ap (λ o. unwrap_or o []) (sym c.in_err-stamps.ensures.value) in
    c.from_residual.ensures ∙ sym (ap (latest_of c.args.latest) none)

pub returns-in_err-stamps-clause-taken : goal.returns-in_err-stamps-clause-taken
returns-in_err-stamps-clause-taken c = λ v.
    let old = c.args.entries.now.entries in
    let same : c.get_mut.follows.lender-at-none.entries ≡ old = ap (λ (m : BTreeMap Value (List ℕ)). m.entries) c.get_mut.follows.holds-at-none in
    let none : stamps_in (value_view c.args.value.now) (entries_view old) ≡ [] = in_entries (value_view c.args.value.now) old ∙ ap (λ o. unwrap_or o []) (sym c.in_err-stamps.ensures.value) in
    ap (λ (es : List (Value × List ℕ)). stamps_in v (entries_view es)) same
    ∙ unchanged (without_latest c.args.latest) v (value_view c.args.value.now) [] (entries_view old) none refl

-- ---- no stamp is taken

pub returns-in_err-stamp-clause-stamp : goal.returns-in_err-stamp-clause-stamp
returns-in_err-stamp-clause-stamp c =
    let is = held c.args.value.now c.args.entries.now.entries c.in_ok-stamps.stamps.now (sym c.in_ok-stamps.ensures.value) in
    c.from_residual-in_err-stamp.ensures ∙ c.in_err-stamp.ensures.stamp ∙ sym (ap (latest_of c.args.latest) is)

pub returns-in_err-stamp-clause-taken : goal.returns-in_err-stamp-clause-taken
returns-in_err-stamp-clause-taken c = λ v.
    let found = sym c.in_ok-stamps.ensures.value in
    let old = c.args.entries.now.entries in
    let left : c.take_latest.new.self ≡ without_latest c.args.latest c.in_ok-stamps.stamps.now = c.take_latest.ensures.taken in
    rw (c.get_mut.follows.holds c.take_latest.new.self).0
    (written c.args.value.now old c.in_ok-stamps.stamps.now found c.take_latest.new.self v
    ∙ ap (λ (ss : List ℕ). cond (same_value v (value_view c.args.value.now)) ss (stamps_in v (entries_view old))) left
    ∙ changed (without_latest c.args.latest) v (value_view c.args.value.now) c.in_ok-stamps.stamps.now (entries_view old) (held c.args.value.now old c.in_ok-stamps.stamps.now found))

pub returns-in_err-stamp-clause-kept : goal.returns-in_err-stamp-clause-kept
returns-in_err-stamp-clause-kept c =
    let found = sym c.in_ok-stamps.ensures.value in
    let old = c.args.entries.now.entries in
    let written = c.get_mut.follows.holds c.take_latest.new.self in
    let left : c.take_latest.new.self ≡ c.in_ok-stamps.stamps.now = c.take_latest.ensures.taken ∙ none_without c.args.latest c.in_ok-stamps.stamps.now (sym c.in_err-stamp.ensures.stamp) in
    rw written.0
    (written_kept c.args.value.now old c.take_latest.new.self (subst (IsInOrder nat_cmp) (sym left) (held_in_order c.args.value.now old c.in_ok-stamps.stamps.now found c.requires.kept))
    (subst (λ (ss : List ℕ). 0 < length ss) (sym left) (held_some c.args.value.now old c.in_ok-stamps.stamps.now found c.requires.kept))
    (subst (λ (es : List (Value × List ℕ)). IsStrictlySortedBy value_order (keys_of es)) written.0 written.4) c.requires.kept)

-- ---- the last stamp is taken

pub returns-then-number-eq0-clause-stamp : goal.returns-then-number-eq0-clause-stamp
returns-then-number-eq0-clause-stamp c =
    let is = held c.args.value.now c.args.entries.now.entries c.in_ok-stamps.stamps.now (sym c.in_ok-stamps.ensures.value) in
    c.in_ok-stamp.ensures.stamp ∙ sym (ap (latest_of c.args.latest) is)

pub returns-then-number-eq0-clause-kept : goal.returns-then-number-eq0-clause-kept
returns-then-number-eq0-clause-kept c =
    let old = c.args.entries.now.entries in
    let left : c.remove.new.self.entries ≡ remove_entry (is_at (value_order c.args.value.now)) old =
    c.remove.ensures.entries ∙ ap (remove_entry (is_at (value_order c.args.value.now))) (c.get_mut.follows.holds c.take_latest.new.self).0 ∙ removed_written c.args.value.now old c.take_latest.new.self in
    rw left (removed_kept c.args.value.now old (subst (λ (es : List (Value × List ℕ)). IsStrictlySortedBy value_order (keys_of es)) left c.remove.ensures.ordered) c.requires.kept)

pub returns-then-number-eq0-clause-taken : goal.returns-then-number-eq0-clause-taken
returns-then-number-eq0-clause-taken c = λ v.
    let found = sym c.in_ok-stamps.ensures.value in
    let old = c.args.entries.now.entries in
    let gone : c.remove.new.self.entries ≡ remove_entry (is_at (value_order c.args.value.now)) old =
    c.remove.ensures.entries ∙ ap (remove_entry (is_at (value_order c.args.value.now))) (c.get_mut.follows.holds c.take_latest.new.self).0 ∙ removed_written c.args.value.now old c.take_latest.new.self in
    let left : [] ≡ without_latest c.args.latest c.in_ok-stamps.stamps.now = sym (nil_from_length c.take_latest.new.self (sym c.number.ensures.number ∙ c.if-number-eq0.true)) ∙ c.take_latest.ensures.taken in
    rw gone
    (removed c.args.value.now old c.requires.kept v
    ∙ ap (λ (ss : List ℕ). cond (same_value v (value_view c.args.value.now)) ss (stamps_in v (entries_view old))) left
    ∙ changed (without_latest c.args.latest) v (value_view c.args.value.now) c.in_ok-stamps.stamps.now (entries_view old) (held c.args.value.now old c.in_ok-stamps.stamps.now found))

-- ---- another stamp is left

pub returns-else-number-eq0-clause-stamp : goal.returns-else-number-eq0-clause-stamp
returns-else-number-eq0-clause-stamp c =
    let is = held c.args.value.now c.args.entries.now.entries c.in_ok-stamps.stamps.now (sym c.in_ok-stamps.ensures.value) in
    c.in_ok-stamp.ensures.stamp ∙ sym (ap (latest_of c.args.latest) is)

pub returns-else-number-eq0-clause-kept : goal.returns-else-number-eq0-clause-kept
returns-else-number-eq0-clause-kept c =
    let found = sym c.in_ok-stamps.ensures.value in
    let old = c.args.entries.now.entries in
    let written = c.get_mut.follows.holds c.take_latest.new.self in
    let left : c.take_latest.new.self ≡ without_latest c.args.latest c.in_ok-stamps.stamps.now = c.take_latest.ensures.taken in
    let number = c.number.ensures.number in
    let other = c.if-number-eq0.false in
    rw written.0
    (written_kept c.args.value.now old c.take_latest.new.self
    (subst (IsInOrder nat_cmp) (sym left) (without_in_order c.args.latest c.in_ok-stamps.stamps.now (held_in_order c.args.value.now old c.in_ok-stamps.stamps.now found c.requires.kept)))
    (omega arith)
    (subst (λ (es : List (Value × List ℕ)). IsStrictlySortedBy value_order (keys_of es)) written.0 written.4) c.requires.kept)

pub returns-else-number-eq0-clause-taken : goal.returns-else-number-eq0-clause-taken
returns-else-number-eq0-clause-taken c = λ v.
    let found = sym c.in_ok-stamps.ensures.value in
    let old = c.args.entries.now.entries in
    let left : c.take_latest.new.self ≡ without_latest c.args.latest c.in_ok-stamps.stamps.now = c.take_latest.ensures.taken in
    rw (c.get_mut.follows.holds c.take_latest.new.self).0
    (written c.args.value.now old c.in_ok-stamps.stamps.now found c.take_latest.new.self v
    ∙ ap (λ (ss : List ℕ). cond (same_value v (value_view c.args.value.now)) ss (stamps_in v (entries_view old))) left
    ∙ changed (without_latest c.args.latest) v (value_view c.args.value.now) c.in_ok-stamps.stamps.now (entries_view old) (held c.args.value.now old c.in_ok-stamps.stamps.now found))
