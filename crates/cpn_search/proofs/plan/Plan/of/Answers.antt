-- The binding terms, and the further stages for the variables that stand in none of them, are the stages of the transition.
use Rattle.std.proofs.Common.{ap, ◌∙◌}
use Rattle.std.specs.List.{flat_map}
use Rattle.cpn_core.specs.Nets.{arcs_view, net_view, transition_view}
use Rattle.cpn_search.specs.StageViews.{carried_stages, stages_view}
use Rattle.cpn_search.proofs.PlanSteps.{sound_at, left_at_first, stages_of, stages_at, carried_have_all}
use Rattle.cpn_search.proofs.plan.Plan.of.Goals as goal

pub push_further-requires-clause-sound : goal.push_further-requires-clause-sound
push_further-requires-clause-sound c = sound_at c.args.net.now c.args.t c.index-transition.result.now c.requires.sound c.requires.in_range c.index-transition.ensures

pub push_further-requires-clause-left : goal.push_further-requires-clause-left
push_further-requires-clause-left c =
    left_at_first (net_view c.args.net.now) (transition_view c.index-transition.result.now) c.in_ok-left.left.items
    (sound_at c.args.net.now c.args.t c.index-transition.result.now c.requires.sound c.requires.in_range c.index-transition.ensures) c.in_ok-left.ensures.exact

pub returns-clause-stages : goal.returns-clause-stages
returns-clause-stages c =
    stages_at c.args.net.now c.args.t c.index-transition.result.now (stages_view c.push_further.new.stages.items) c.requires.in_range c.index-transition.ensures
    (stages_of (net_view c.args.net.now) (transition_view c.index-transition.result.now) c.in_ok-left.left.items (stages_view c.in_ok-stages.stages.items) (stages_view c.push_further.new.stages.items)
    (sound_at c.args.net.now c.args.t c.index-transition.result.now c.requires.sound c.requires.in_range c.index-transition.ensures)
    (c.in_ok-stages.ensures.terms ∙ ap (λ arcs. flat_map carried_stages (arcs_view arcs)) c.deref.ensures.value)
    c.in_ok-left.ensures.exact c.in_ok-push_further.ensures.further)

pub returns-clause-values : goal.returns-clause-values
returns-clause-values c = c.in_ok-push_further.ensures.values (carried_have_all (net_view c.args.net.now) (arcs_view c.deref.result.now) c.in_ok-stages.stages.items c.in_ok-stages.ensures.terms)
