-- With what is left of the needs the element waits for all that it needs.
use Rattle.std.proofs.Common.{◌≡◌, ℕ, ◌<◌, ◌&&◌, ◌||◌, drop}
use Rattle.std.specs.List.{AllByRecursion}
use Rattle.cpn_definitions.specs.Value.{PlainValue}
use Rattle.cpn_definitions.specs.Occurrence.{PlainElement}
use Rattle.cpn_core.specs.Elements.{element_view}
use Rattle.cpn_core.specs.NeedsViews.{needed_views}
use Rattle.cpn_index.specs.Waiting.{same_element}
use Rattle.cpn_index.specs.Watchers.{is_needed, is_watched, places_of}
use Rattle.cpn_index.proofs.watchers.Watchers.watch.Given as goal

abbrev pub invariant-loop-need : goal.invariant-loop-need
invariant-loop-need l = record {
  in_range : AllByRecursion (λ need. need.place < places_of l.self) (needed_views (drop l.need-index l.need-items));
  watched : (p : ℕ) (v : PlainValue) (e : PlainElement) → ((same_element e (element_view l.element.value) && is_needed p v (needed_views (drop l.need-index l.need-items))) || is_watched l.self p v e) ≡ ((same_element e (element_view l.element.value) && is_needed p v (needed_views l.need-items)) || is_watched l.initial.self p v e);
  places : places_of l.self ≡ places_of l.initial.self;
}
