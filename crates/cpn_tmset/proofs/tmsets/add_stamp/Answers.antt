-- The stamps of the value get one more, where it has an entry and where it has none.
use Rattle.std.proofs.Common.{◌≡◌, ℕ, ◌<◌, List, [], ◌∷◌, length, sym, ap, ap₂, subst, ◌∙◌, arith, nat_cmp, cond}
use Rattle.std.specs.List.Sorted.{IsStrictlySortedBy}
use Rattle.std.specs.Option.{unwrap_or}
use Rattle.std.specs.Map.{keys_of, set_value}
use Rattle.std.specs.BTreeMap.{BTreeMap, is_at}
use Rattle.std.proofs.lemmas.Cmp.{nat_cmp_total}
use Rattle.std.proofs.lemmas.Map.Steps.{set_value_same}
use Rattle.cpn_definitions.specs.Lists.{with_item, IsInOrder}
use Rattle.cpn_definitions.specs.Order.{same_value}
use Rattle.cpn_definitions.proofs.OrderedLists.{with_item_in_order}
use Rattle.cpn_core.specs.declared.values.Value.{Value}
use Rattle.cpn_core.specs.Same.{value_order}
use Rattle.cpn_core.specs.Views.{value_view}
use Rattle.cpn_tmset.specs.TMSets.{stamps_in, AreKept}
use Rattle.cpn_tmset.specs.Views.{entries_view}
use Rattle.cpn_tmset.proofs.RepeatedStamps.{length-with_item}
use Rattle.cpn_tmset.proofs.EntryStamps.{changed, held, held_in_order, in_entries, written, written_kept, inserted, inserted_kept}
use Rattle.cpn_tmset.proofs.Errors.{on_err}
use Rattle.cpn_tmset.proofs.tmsets.add_stamp.Goals as goal

pub add-requires : goal.add-requires
add-requires c = record { room = subst (λ (ss : List ℕ). length ss < 281474976710655) (held c.args.value c.args.entries.now.entries c.in-Some.stamps.now (sym c.in-Some.ensures.value)) c.requires.room }

pub returns-in_err-add-clause-unchanged : goal.returns-in_err-add-clause-unchanged
returns-in_err-add-clause-unchanged c =
    let written = c.get_mut.follows.holds c.add.new.self in
    let same : (c.get_mut.follows.lender c.add.new.self).entries ≡ c.args.entries.now.entries =
    written.0 ∙ ap (λ (x : List ℕ). set_value (is_at (value_order c.args.value)) c.args.entries.now.entries x) c.in_err-add.ensures.unchanged
    ∙ set_value_same (is_at (value_order c.args.value)) c.args.entries.now.entries c.in-Some.stamps.now (sym c.in-Some.ensures.value) in
    on_err c.from_residual.result _ same

pub returns-in-Some-clause-kept : goal.returns-in-Some-clause-kept
returns-in-Some-clause-kept c =
    let written = c.get_mut.follows.holds c.add.new.self in
    let added : c.add.new.self ≡ with_item nat_cmp c.args.stamp c.in-Some.stamps.now = c.in_ok-add.ensures.added in
    let more = length-with_item c.args.stamp c.in-Some.stamps.now in
    rw written.0
    (written_kept c.args.value c.args.entries.now.entries c.add.new.self
    (subst (IsInOrder nat_cmp) (sym added) (with_item_in_order nat_cmp nat_cmp_total c.args.stamp c.in-Some.stamps.now (held_in_order c.args.value c.args.entries.now.entries c.in-Some.stamps.now (sym c.in-Some.ensures.value) c.requires.kept)))
    (subst (λ (ss : List ℕ). 0 < length ss) (sym added) (omega (arith, more)))
    (subst (λ (es : List (Value × List ℕ)). IsStrictlySortedBy value_order (keys_of es)) written.0 written.4) c.requires.kept)

pub returns-in-Some-clause-added : goal.returns-in-Some-clause-added
returns-in-Some-clause-added c = λ v.
    let found = sym c.in-Some.ensures.value in
    let added : c.add.new.self ≡ with_item nat_cmp c.args.stamp c.in-Some.stamps.now = c.in_ok-add.ensures.added in
    rw (c.get_mut.follows.holds c.add.new.self).0
    (written c.args.value c.args.entries.now.entries c.in-Some.stamps.now found c.add.new.self v
    ∙ ap (λ (ss : List ℕ). cond (same_value v (value_view c.args.value)) ss (stamps_in v (entries_view c.args.entries.now.entries))) added
    ∙ changed (with_item nat_cmp c.args.stamp) v (value_view c.args.value) c.in-Some.stamps.now (entries_view c.args.entries.now.entries) (held c.args.value c.args.entries.now.entries c.in-Some.stamps.now found))

pub returns-clause-kept : goal.returns-clause-kept
returns-clause-kept c =
    let same : c.get_mut.follows.lender-at-none.entries ≡ c.args.entries.now.entries = ap (λ (m : BTreeMap Value (List ℕ)). m.entries) c.get_mut.follows.holds-at-none in
    let added : c.add-2.new.self ≡ c.args.stamp ∷ [] = c.in_ok-add-2.ensures.added ∙ ap (with_item nat_cmp c.args.stamp) c.new-stamps.ensures.empty in
    rw c.in_ok-insert.ensures.entries
    (inserted_kept c.args.value c.get_mut.follows.lender-at-none.entries c.add-2.new.self (subst (IsInOrder nat_cmp) (sym added) (tt, tt)) (subst (λ (ss : List ℕ). 0 < length ss) (sym added) (omega arith))
    (subst (λ (es : List (Value × List ℕ)). IsStrictlySortedBy value_order (keys_of es)) c.in_ok-insert.ensures.entries c.in_ok-insert.ensures.ordered)
    (subst (λ (es : List (Value × List ℕ)). AreKept (entries_view es)) (sym same) c.requires.kept))

pub returns-clause-added : goal.returns-clause-added
returns-clause-added c = λ v.
    let old = c.args.entries.now.entries in
    let same : c.get_mut.follows.lender-at-none.entries ≡ old = ap (λ (m : BTreeMap Value (List ℕ)). m.entries) c.get_mut.follows.holds-at-none in
    let added : c.add-2.new.self ≡ with_item nat_cmp c.args.stamp [] = c.in_ok-add-2.ensures.added ∙ ap (with_item nat_cmp c.args.stamp) c.new-stamps.ensures.empty in
    let none : stamps_in (value_view c.args.value) (entries_view old) ≡ [] = in_entries (value_view c.args.value) old ∙ ap (λ o. unwrap_or o []) (sym c.in_default.ensures.value) in
    rw c.in_ok-insert.ensures.entries
    (inserted c.args.value c.get_mut.follows.lender-at-none.entries c.add-2.new.self v
    ∙ ap₂ (λ (ss : List ℕ) (es : List (Value × List ℕ)). cond (same_value v (value_view c.args.value)) ss (stamps_in v (entries_view es))) added same
    ∙ changed (with_item nat_cmp c.args.stamp) v (value_view c.args.value) [] (entries_view old) none)
