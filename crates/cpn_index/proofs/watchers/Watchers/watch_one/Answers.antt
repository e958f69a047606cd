-- What waits on the place of the need has changed.
use Rattle.std.proofs.Common.{◌≡◌, ◌&&◌, ◌||◌, ap, ◌∙◌}
use Rattle.cpn_definitions.specs.Order.{same_value}
use Rattle.cpn_core.specs.declared.bindings.Element.{Element}
use Rattle.cpn_core.specs.Elements.{element_view}
use Rattle.cpn_core.specs.Views.{value_view}
use Rattle.cpn_index.specs.Waiting.{same_element, has_watcher, waiting_for}
use Rattle.cpn_index.proofs.WatchedPlaces.{put_on}
use Rattle.cpn_index.proofs.watchers.Watchers.watch_one.Goals as goal

pub returns-clause-watched : goal.returns-clause-watched
returns-clause-watched c = λ p v e.
    let old = c.index_mut-waiting.result.now in
    let value = value_view c.args.need.now.value in
    let shared : c.in_ok-clone.field-0.value ≡ c.args.element.now.value = c.in_ok-clone.ensures.cases in
    put_on c.args.self.now.places.items c.args.need.now.place old c.put.new.self c.requires.in_range c.index_mut-waiting.ensures.value v value e (same_element e (element_view c.args.element.now.value)) p
    (c.in_ok-put.ensures.put v e ∙ ap (λ (x : Element). (same_element e (element_view x) && same_value v value) || has_watcher e (waiting_for v old.sets.entries)) shared)
