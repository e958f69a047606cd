-- More than 256 are counted where the colour set is not small, and else the list has all its values.
use Rattle.std.proofs.Common.{length, sym, ap, subst, arith}
use Rattle.std.proofs.lemmas.List.{length-map}
use Rattle.cpn_definitions.specs.Bindable.{AreAll}
use Rattle.cpn_core.specs.Views.{value_view}
use Rattle.cpn_core.specs.Colours.{shape_view, colour_view}
use Rattle.cpn_core.proofs.ShapeCounts.{values_counted}
use Rattle.cpn_core.proofs.SmallSets.{are_all, not_small}
use Rattle.cpn_core.proofs.colours.Colour.small.Goals as goal

pub returns-then-count-gt256-clause-large : goal.returns-then-count-gt256-clause-large
returns-then-count-gt256-clause-large c = not_small (colour_view c.args.self.now) (omega arith)

pub returns-clause-all : goal.returns-clause-all
returns-clause-all c = subst (λ vs. AreAll (colour_view c.args.self.now) vs) (sym c.in_ok-values.ensures) (are_all (colour_view c.args.self.now) (omega arith))

pub returns-clause-few : goal.returns-clause-few
returns-clause-few c =
    omega (arith, ap length c.in_ok-values.ensures, length-map c.in_ok-values.values.items value_view, values_counted (shape_view c.args.self.now.shape))
