-- The first equation that gives one of the variables that are left a value is the next stage.
use Rattle.std.proofs.Common.{subst}
use Rattle.cpn_bindable.specs.declared.equations.Equation.{Equation}
use Rattle.cpn_core.specs.Nets.{net_view, transition_view}
use Rattle.cpn_stages.specs.Stages.{by_equation}
use Rattle.cpn_search.specs.Plans.{IsNext}
use Rattle.cpn_search.specs.SharedViews.{equation_inscription}
use Rattle.cpn_search.proofs.SolvingEquations.{number_within, numbered_is_next}
use Rattle.cpn_search.proofs.plan.next_stage.Goals as goal

pub of-requires : goal.of-requires
of-requires c = record { in_range = number_within (transition_view c.args.transition.now) c.args.equations.now c.in-Some.number c.requires.equations c.in-Some.ensures.within }

pub returns-in_ok-equation-in-Some-clause-next : goal.returns-in_ok-equation-in-Some-clause-next
returns-in_ok-equation-in-Some-clause-next c =
    subst (λ (q : Equation). IsNext (net_view c.args.net.now) (transition_view c.args.transition.now) c.args.left.now q.variable (by_equation q.variable (equation_inscription c.in_ok-equation-in-Some.equation))) c.index-equations-number.is
    (numbered_is_next (net_view c.args.net.now) (transition_view c.args.transition.now) c.args.left.now c.args.equations.now c.in-Some.number c.index-equations-number.result (equation_inscription c.in_ok-equation-in-Some.equation)
    c.requires.equations c.in-Some.ensures.within c.index-equations-number.is c.in-Some.ensures.first c.in_ok-equation-in-Some.ensures.inscription)
