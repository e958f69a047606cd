-- Each turn is a step of what is found.
use Rattle.std.proofs.Common.{◌∙◌}
use Rattle.cpn_bindable.proofs.FoundSteps.{found_on, found_off}
use Rattle.cpn_bindable.proofs.closure.all_found.Goals as goal

pub loop-index-preserved : goal.loop-index-preserved
loop-index-preserved c x =
    found_on c.deref-in-loop-index.result.now c.loop-index.known.items c.learn.new.known.items c.deref.result.now c.loop-index.equations.items c.remove-equation.new.self.items c.in-Some.index c.remove-equation.result
    c.deref-in-loop-index.ensures.value
    c.deref.ensures.value
    c.in-Some.ensures.index
    c.remove-equation.ensures.value
    c.remove-equation.ensures.items
    c.in_ok-learn.ensures.known
    x
    ∙ c.loop-index.invariant x

pub returns : goal.returns
returns c = record {
  found = λ x. found_off c.deref-in-loop-index.result.now c.loop-index.known.items c.deref.result.now c.loop-index.equations.items
      c.deref-in-loop-index.ensures.value
      c.deref.ensures.value
      c.in_default.ensures.index
      x
      ∙ c.loop-index.invariant x;
}
