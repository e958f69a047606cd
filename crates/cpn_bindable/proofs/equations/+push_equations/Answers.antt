-- The equations of two conjuncts are those of the first and then those of the second.
use Rattle.std.proofs.lemmas.Result.{IfOk-weaker}
use Rattle.cpn_typing.specs.Closure.{equations_of_part}
use Rattle.cpn_stages.specs.Stages.{equations_at}
use Rattle.cpn_bindable.proofs.ConjunctEquations.{of_both}
use Rattle.cpn_bindable.proofs.FoundVariables.{of_two}
use Rattle.cpn_bindable.proofs.equations.+push_equations.Goals as goal

pub returns-in_ok-push_equations-in-And : goal.returns-in_ok-push_equations-in-And
returns-in_ok-push_equations-in-And t c = record {
  added = of_two c.push_equations-in-And.result _ _ _ _ _ _ (of_both equations_of_part _ _ _ c.in-And.first c.in-And.second c.in-And.is c.deref.ensures c.deref-in-And.ensures)
      c.in_ok-push_equations-in-And.ensures.added c.push_equations-in-And.ensures.added;
  equations = of_two c.push_equations-in-And.result _ _ _ _ _ _ (of_both equations_at _ _ _ c.in-And.first c.in-And.second c.in-And.is c.deref.ensures c.deref-in-And.ensures)
      c.in_ok-push_equations-in-And.ensures.equations c.push_equations-in-And.ensures.equations;
  sources = IfOk-weaker c.push_equations-in-And.result _ _ (λ _ h before. h (c.in_ok-push_equations-in-And.ensures.sources before)) c.push_equations-in-And.ensures.sources;
}
