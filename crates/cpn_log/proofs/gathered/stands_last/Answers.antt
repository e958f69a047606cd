-- The last item is compared by its place and its value.
use Rattle.std.proofs.Common.{sym, ◌∙◌}
use Rattle.cpn_definitions.specs.Order.{same_value}
use Rattle.cpn_core.specs.Views.{value_view}
use Rattle.cpn_tmset.specs.Changed.{PlainChange}
use Rattle.cpn_tmset.specs.ChangedViews.{change_view}
use Rattle.cpn_log.proofs.ToldItems.{last_is, same_on_place, none_on_place}
use Rattle.cpn_log.proofs.gathered.stands_last.Goals as goal

pub returns-then-place-last : goal.returns-then-place-last
returns-then-place-last c =
    let last = c.in-Some.last.now in
    let change : PlainChange = record { place = c.args.place; value = value_view c.args.value.now } in
    c.eq.ensures ∙ sym (last_is change_view c.args.items.now last change c.in-Some.ensures.value ∙ same_on_place c.args.place last.place (same_value (value_view c.args.value.now) (value_view last.value)) c.if-place-last.true)

pub returns-else-place-last : goal.returns-else-place-last
returns-else-place-last c =
    let last = c.in-Some.last.now in
    let change : PlainChange = record { place = c.args.place; value = value_view c.args.value.now } in
    none_on_place c.args.place last.place (same_value (value_view c.args.value.now) (value_view last.value)) c.if-place-last.false ∙ sym (last_is change_view c.args.items.now last change c.in-Some.ensures.value)
