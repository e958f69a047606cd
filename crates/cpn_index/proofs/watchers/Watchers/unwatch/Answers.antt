-- The element waits for one need fewer.
use Rattle.std.proofs.Common.{◌∙◌}
use Rattle.cpn_core.specs.Elements.{element_view}
use Rattle.cpn_index.specs.Waiting.{same_element}
use Rattle.cpn_index.specs.Watchers.{is_watched}
use Rattle.cpn_index.proofs.WatchedPlaces.{taken_step}
use Rattle.cpn_index.proofs.watchers.Watchers.unwatch.Goals as goal

pub loop-need-preserved : goal.loop-need-preserved
loop-need-preserved c =
    let needs = c.tokens-need-items.result.now in
    let i = c.loop-need.need-index in
    let need = c.need-item.result in
    record {
      unwatched = λ p v e.
          taken_step needs i need c.loop-need-test.true c.need-item.is p v (same_element e (element_view c.args.element.value)) _ (is_watched c.loop-need.self p v e) (is_watched c.unwatch_one.new.self p v e)
          (c.unwatch_one.ensures.unwatched p v e) (c.loop-need.invariant.unwatched p v e);
      places = c.unwatch_one.ensures.places ∙ c.loop-need.invariant.places;
    }
