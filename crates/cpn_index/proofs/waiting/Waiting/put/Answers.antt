-- The value has one watcher more, where it has a set and where it has none; and no set is empty.
use Rattle.std.proofs.Common.{◌≡◌, ◌<◌, List, length, sym, ap, subst, ◌∙◌}
use Rattle.std.specs.BTreeMap.{BTreeMap, insert_entry}
use Rattle.std.specs.BTreeSet.{BTreeSet, insert_key}
use Rattle.cpn_core.specs.declared.values.Value.{Value}
use Rattle.cpn_core.specs.Same.{value_order}
use Rattle.cpn_core.specs.Views.{value_view}
use Rattle.cpn_index.specs.WatcherOrder.{watcher_order}
use Rattle.cpn_index.specs.Waiting.{Sets, waiting_for, has_watcher, EachIsAwaited}
use Rattle.cpn_index.specs.declared.waiting.Watcher.{Watcher}
use Rattle.cpn_index.proofs.WaitingElements.{put_first, put_more, awaited_put, awaited_changed, awaited_there, some_with, by_result}
use Rattle.cpn_index.proofs.waiting.Waiting.put.Goals as goal

pub returns-in-Some : goal.returns-in-Some
returns-in-Some c = record {
  put = λ v e.
      ap (λ (es : Sets). has_watcher e (waiting_for v es)) (c.get_mut.follows.holds c.insert.new.self).0
      ∙ put_more c.args.value.now c.args.self.now.sets.entries v e c.args.watcher c.insert.new.self c.in-Some.watchers.now (sym c.in-Some.ensures.value) c.in_ok-insert.ensures.updates;
}

pub returns : goal.returns
returns c = record {
  put = λ v e.
      let old = c.args.self.now.sets.entries in
      let set = c.insert-2.new.self in
      let copied = c.in_ok-copy.field-0 in
      let same : c.get_mut.follows.lender-at-none.entries ≡ old = ap (λ (m : BTreeMap Value (BTreeSet Watcher)). m.entries) c.get_mut.follows.holds-at-none in
      let new : c.insert-3.new.self.entries ≡ insert_entry value_order old copied set = c.in_ok-insert-3.ensures.entries ∙ ap (λ (es : Sets). insert_entry value_order es copied set) same in
      ap (λ (es : Sets). has_watcher e (waiting_for v es)) new
      ∙ put_first copied old v e c.args.watcher (value_view c.args.value.now) set c.new-watchers.result c.in_ok-copy.ensures.same (sym c.in_default.ensures.value) c.new-watchers.ensures.empty c.in_ok-insert-2.ensures.updates;
}

-- ---- no set is empty

pub invariant_of-self : goal.invariant_of-self
invariant_of-self c =
    let old = c.args.self.now.sets.entries in
    let set = c.insert.new.self in
    let before = c.in-Some.watchers.now in
    let found = sym c.in-Some.ensures.value in
    let some : 0 < length set.keys =
    by_result c.insert.result (set.keys ≡ insert_key watcher_order before.keys c.args.watcher) (set.keys ≡ before.keys) (0 < length set.keys) c.insert.ensures.keys c.insert.ensures.err
    (λ is. subst (λ (ws : List Watcher). 0 < length ws) (sym is) (some_with c.args.watcher before.keys))
    (λ is. subst (λ (ws : List Watcher). 0 < length ws) (sym is) (awaited_there c.args.value.now old c.args.self.now.no_empty_set before found)) in
    record { no_empty_set = subst EachIsAwaited (sym (c.get_mut.follows.holds set).0) (awaited_changed c.args.value.now old c.args.self.now.no_empty_set set before found some) }

pub invariant_of-self-2 : goal.invariant_of-self-2
invariant_of-self-2 c =
    let old = c.args.self.now.sets.entries in
    let set = c.insert-2.new.self in
    let copied = c.in_ok-copy.field-0 in
    let lent = c.get_mut.follows.lender-at-none.entries in
    let new = c.insert-3.new.self.entries in
    let same : lent ≡ old = ap (λ (m : BTreeMap Value (BTreeSet Watcher)). m.entries) c.get_mut.follows.holds-at-none in
    let some : 0 < length set.keys = subst (λ (ws : List Watcher). 0 < length ws) (sym c.in_ok-insert-2.ensures.keys) (some_with c.args.watcher c.new-watchers.result.keys) in
    record {
      no_empty_set =
          by_result c.insert-3.result (new ≡ insert_entry value_order lent copied set) (new ≡ lent) (EachIsAwaited new) c.insert-3.ensures.entries c.insert-3.ensures.err
          (λ is. subst EachIsAwaited (sym (is ∙ ap (λ (es : Sets). insert_entry value_order es copied set) same)) (awaited_put copied old c.args.self.now.no_empty_set set some))
          (λ is. subst EachIsAwaited (sym (is ∙ same)) c.args.self.now.no_empty_set);
    }
