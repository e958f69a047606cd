-- What is found part by part is what stands in the whole.
use Rattle.std.proofs.Common.{refl}
use Rattle.cpn_definitions.specs.Bindable.{pattern_variables, patterns_variables}
use Rattle.cpn_core.specs.Inscriptions.{pattern_view, patterns_view}
use Rattle.cpn_bindable.proofs.FoundVariables.{of_two, one_more, all_parts, in_cons}
use Rattle.cpn_bindable.proofs.variables.+pattern_variables.Goals as goal

pub push_pattern_variables-returns-in_ok-push_pattern_variables-in-Cons : goal.push_pattern_variables-returns-in_ok-push_pattern_variables-in-Cons
push_pattern_variables-returns-in_ok-push_pattern_variables-in-Cons t c = record {
  all = of_two c.push_pattern_variables-in-Cons.result _ _ _ _ _ _ (in_cons _ _ _ c.in-Cons.first c.in-Cons.rest c.in-Cons.is c.deref.ensures c.deref-in-Cons.ensures)
      c.in_ok-push_pattern_variables-in-Cons.ensures.all c.push_pattern_variables-in-Cons.ensures.all;
}

pub push_of_patterns-loop-pattern-preserved : goal.push_of_patterns-loop-pattern-preserved
push_of_patterns-loop-pattern-preserved t c =
    one_more (λ ps. patterns_variables (patterns_view ps)) (pattern_variables (pattern_view c.pattern-item.result)) c.deref-pattern-items.result.now c.args.patterns.now.items c.loop-pattern.pattern-index c.pattern-item.result _ _ _
    c.deref-pattern-items.ensures.value c.loop-pattern-test.true c.pattern-item.is (λ rest. refl) c.in_ok-push_pattern_variables.ensures.all c.loop-pattern.invariant

pub push_of_patterns-returns : goal.push_of_patterns-returns
push_of_patterns-returns t c = record {
  all = all_parts (λ ps. patterns_variables (patterns_view ps)) c.deref-pattern-items.result.now c.args.patterns.now.items c.loop-pattern.pattern-index _ _
      c.deref-pattern-items.ensures.value c.loop-pattern-test.false refl c.loop-pattern.invariant;
}
