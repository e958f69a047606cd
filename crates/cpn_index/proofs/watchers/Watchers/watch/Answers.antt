-- The element waits for one need more.
use Rattle.std.proofs.Common.{ℕ, ◌+◌, ◌<◌, drop, sym, subst, ◌∙◌}
use Rattle.std.specs.List.{AllByRecursion}
use Rattle.cpn_definitions.specs.Occurrence as plain
use Rattle.cpn_core.specs.Elements.{element_view}
use Rattle.cpn_core.specs.NeedsViews.{needed_views}
use Rattle.cpn_index.specs.Waiting.{same_element}
use Rattle.cpn_index.specs.Watchers.{is_watched, places_of}
use Rattle.cpn_index.proofs.WatchedPlaces.{needs_next, put_step}
use Rattle.cpn_index.proofs.watchers.Watchers.watch.Goals as goal

pub loop-need-preserved : goal.loop-need-preserved
loop-need-preserved c =
    let needs = c.tokens-need-items.result.now in
    let i = c.loop-need.need-index in
    let need = c.need-item.result in
    let left = subst (AllByRecursion (λ (n : plain.Needed). n.place < places_of c.loop-need.self)) (needs_next needs i need c.loop-need-test.true c.need-item.is) c.loop-need.invariant.in_range in
    record {
      in_range = subst (λ (count : ℕ). AllByRecursion (λ (n : plain.Needed). n.place < count) (needed_views (drop (i + 1) needs))) (sym c.watch_one.ensures.places) left.1;
      watched = λ p v e.
          put_step needs i need c.loop-need-test.true c.need-item.is p v (same_element e (element_view c.args.element.now.value)) _ (is_watched c.loop-need.self p v e) (is_watched c.watch_one.new.self p v e)
          (c.in_ok-watch_one.ensures.watched p v e) (c.loop-need.invariant.watched p v e);
      places = c.watch_one.ensures.places ∙ c.loop-need.invariant.places;
    }
