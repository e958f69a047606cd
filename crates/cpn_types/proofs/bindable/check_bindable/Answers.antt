-- The answer is the definition's: too many variables, or the first that is not bindable, or that all are.
use Rattle.std.proofs.Common.{◌∙◌, sym, ap, subst, Some, None, slice_index_or, arith}
use Rattle.cpn_definitions.specs.Net.{nothing}
use Rattle.cpn_core.specs.Nets.{transition_view}
use Rattle.cpn_typing.specs.Names.{refused, not_bindable}
use Rattle.cpn_typing.specs.BindableRule.{FirstIs, IsBindableAnswer, too_many_are_there}
use Rattle.cpn_typing.proofs.BindableAnswers.{answer_is}
use Rattle.cpn_types.proofs.bindable.check_bindable.Goals as goal

pub returns-then-len-gt-MOST_VARIABLES : goal.returns-then-len-gt-MOST_VARIABLES
returns-then-len-gt-MOST_VARIABLES c = record { exact = λ n own. too_many_are_there (omega (arith, c.args.transition.now.vars.ok.0)) }

pub returns-in-None : goal.returns-in-None
returns-in-None c =
    let t = transition_view c.args.transition.now in
    record {
      exact = λ n own. answer_is n t None (omega (arith, c.args.transition.now.vars.ok.0))
          (subst (FirstIs n t t.vars) c.in-None.is (c.in_ok-first_unbindable.ensures.exact n (own ∙ sym c.variables-variables.ensures.exact)));
    }

pub returns-in_ok-name_of-in-Some : goal.returns-in_ok-name_of-in-Some
returns-in_ok-name_of-in-Some c =
    let t = transition_view c.args.transition.now in
    record {
      exact = λ n own. subst (λ name. IsBindableAnswer n t (refused (not_bindable name)))
          (ap (λ vs. (slice_index_or vs c.in-Some.number nothing).name) (own ∙ sym c.variables-variables.ensures.exact) ∙ sym c.in_ok-name_of-in-Some.ensures.exact)
          (answer_is n t (Some c.in-Some.number) (omega (arith, c.args.transition.now.vars.ok.0))
          (subst (FirstIs n t t.vars) c.in-Some.is (c.in_ok-first_unbindable.ensures.exact n (own ∙ sym c.variables-variables.ensures.exact))));
    }
