-- The value has one watcher fewer, and its set goes with the last one.
use Rattle.std.proofs.Common.{◌≡◌, ◌<◌, [], length, sym, ap, subst, ◌∙◌}
use Rattle.std.specs.Map.{remove_entry}
use Rattle.std.specs.BTreeMap.{BTreeMap, is_at}
use Rattle.std.specs.BTreeSet.{BTreeSet}
use Rattle.std.proofs.lemmas.List.{nil_from_length}
use Rattle.cpn_core.specs.declared.values.Value.{Value}
use Rattle.cpn_core.specs.Same.{value_order}
use Rattle.cpn_index.specs.Waiting.{Sets, waiting_for, has_watcher, EachIsAwaited}
use Rattle.cpn_index.specs.declared.waiting.Watcher.{Watcher}
use Rattle.cpn_index.proofs.WaitingElements.{take_none, take_one, take_last, removed_changed, awaited_changed, awaited_left, some_left}
use Rattle.cpn_index.proofs.waiting.Waiting.remove.Goals as goal

pub returns-in_default : goal.returns-in_default
returns-in_default c = record {
  removed = λ v e.
      let same : c.get_mut.follows.lender-at-none.entries ≡ c.args.self.now.sets.entries = ap (λ (m : BTreeMap Value (BTreeSet Watcher)). m.entries) c.get_mut.follows.holds-at-none in
      ap (λ (es : Sets). has_watcher e (waiting_for v es)) same
      ∙ take_none c.args.value.now c.args.self.now.sets.entries v e c.args.watcher.now (sym c.in_default.ensures.value);
}

pub returns-then-is_empty : goal.returns-then-is_empty
returns-then-is_empty c = record {
  removed = λ v e.
      let old = c.args.self.now.sets.entries in
      let set = c.remove.new.self in
      let empty : set.keys ≡ [] = nil_from_length set.keys (c.is_empty.ensures.0 c.if-is_empty.true) in
      let gone : c.remove-then-is_empty.new.self.entries ≡ remove_entry (is_at (value_order c.args.value.now)) old =
      c.remove-then-is_empty.ensures.entries ∙ ap (remove_entry (is_at (value_order c.args.value.now))) (c.get_mut.follows.holds set).0 ∙ removed_changed c.args.value.now old set in
      ap (λ (es : Sets). has_watcher e (waiting_for v es)) gone
      ∙ take_last c.args.value.now old v e c.args.watcher.now set c.in-Some.watchers.now c.get_mut.ensures.ordered (sym c.in-Some.ensures.value) c.remove.ensures.updates empty;
}

pub returns-else-is_empty : goal.returns-else-is_empty
returns-else-is_empty c = record {
  removed = λ v e.
      ap (λ (es : Sets). has_watcher e (waiting_for v es)) (c.get_mut.follows.holds c.remove.new.self).0
      ∙ take_one c.args.value.now c.args.self.now.sets.entries v e c.args.watcher.now c.remove.new.self c.in-Some.watchers.now (sym c.in-Some.ensures.value) c.remove.ensures.updates;
}

-- ---- no set is empty

pub invariant_of-self-then-is_empty : goal.invariant_of-self-then-is_empty
invariant_of-self-then-is_empty c =
    let old = c.args.self.now.sets.entries in
    let set = c.remove.new.self in
    let gone : c.remove-then-is_empty.new.self.entries ≡ remove_entry (is_at (value_order c.args.value.now)) old =
    c.remove-then-is_empty.ensures.entries ∙ ap (remove_entry (is_at (value_order c.args.value.now))) (c.get_mut.follows.holds set).0 ∙ removed_changed c.args.value.now old set in
    record { no_empty_set = subst EachIsAwaited (sym gone) (awaited_left c.args.value.now old c.args.self.now.no_empty_set c.get_mut.ensures.ordered) }

pub invariant_of-self-else-is_empty : goal.invariant_of-self-else-is_empty
invariant_of-self-else-is_empty c =
    let old = c.args.self.now.sets.entries in
    let set = c.remove.new.self in
    let some : 0 < length set.keys = some_left (length set.keys) (λ none. let yes = c.is_empty.ensures.1 none in let no = c.if-is_empty.false in cc) in
    record { no_empty_set = subst EachIsAwaited (sym (c.get_mut.follows.holds set).0) (awaited_changed c.args.value.now old c.args.self.now.no_empty_set set c.in-Some.watchers.now (sym c.in-Some.ensures.value) some) }
