-- One token more is on its place.
use Rattle.std.proofs.Common.{◌≡◌, ◌<◌, List, length, suc, sym, ap, subst, ◌∙◌, arith}
use Rattle.std.specs.List.{AllByRecursion}
use Rattle.cpn_definitions.specs.Occurrence.{Made, made_cmp}
use Rattle.cpn_definitions.proofs.OrderedLists.{all_with_item}
use Rattle.cpn_definitions.proofs.PlaceCounts.{length-with_item}
use Rattle.cpn_test_calls.proofs.logs.add_on.Goals as goal

pub returns-in_ok-add-clause-in_range : goal.returns-in_ok-add-clause-in_range
returns-in_ok-add-clause-in_range c =
    let on_places = λ (made : Made). made.place < c.args.places in
    subst (AllByRecursion on_places) (sym c.in_ok-add.ensures.added) (all_with_item made_cmp on_places _ c.args.outputs.now c.if-place-places.true c.requires.in_range)

pub returns-in_ok-add-clause-few : goal.returns-in_ok-add-clause-few
returns-in_ok-add-clause-few c =
    let long : length c.add.new.self ≡ suc (length c.args.outputs.now) = ap (λ (xs : List Made). length xs) c.in_ok-add.ensures.added ∙ length-with_item made_cmp _ c.args.outputs.now in
    omega (arith, long)
