-- Without what is left of the needs the element waits for nothing that it needs.
use Rattle.std.proofs.Common.{◌≡◌, ℕ, not, ◌&&◌, drop}
use Rattle.cpn_definitions.specs.Value.{PlainValue}
use Rattle.cpn_definitions.specs.Occurrence.{PlainElement}
use Rattle.cpn_core.specs.NeedsViews.{needed_views}
use Rattle.cpn_index.specs.WatcherOrder.{watching}
use Rattle.cpn_index.specs.Waiting.{same_element}
use Rattle.cpn_index.specs.Watchers.{is_needed, is_watched, places_of}
use Rattle.cpn_index.proofs.watchers.Watchers.unwatch.Given as goal

abbrev pub invariant-loop-need : goal.invariant-loop-need
invariant-loop-need l = record {
  unwatched : (p : ℕ) (v : PlainValue) (e : PlainElement) → (not (same_element e (watching l.watcher) && is_needed p v (needed_views (drop l.need-index l.need-items))) && is_watched l.self p v e) ≡ (not (same_element e (watching l.watcher) && is_needed p v (needed_views l.need-items)) && is_watched l.initial.self p v e);
  places : places_of l.self ≡ places_of l.initial.self;
}
