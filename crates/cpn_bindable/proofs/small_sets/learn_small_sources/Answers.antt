-- The sources of one more equation are looked at.
use Rattle.std.proofs.Common.{map, subst}
use Rattle.cpn_core.specs.Nets.{variable_view}
use Rattle.cpn_bindable.specs.Known.{AddsSmall}
use Rattle.cpn_bindable.proofs.SmallAdded.{adds_sources}
use Rattle.cpn_bindable.proofs.small_sets.learn_small_sources.Goals as goal

pub loop-equation-preserved : goal.loop-equation-preserved
loop-equation-preserved c =
    adds_sources (map variable_view c.args.variables.now) c.args.equations.now c.loop-equation.equation-index c.equation-item.result c.args.known.now.items c.loop-equation.known.items c.learn_small.new.known.items
    c.loop-equation-test.true
    c.equation-item.is
    c.loop-equation.invariant
    (subst (λ xs. AddsSmall (map variable_view c.args.variables.now) xs c.loop-equation.known.items c.learn_small.new.known.items) c.deref.ensures.value c.in_ok-learn_small.ensures.small)
