-- Where the stage is such a term, what its trials find is added; and else nothing is.
use Rattle.std.proofs.Common.{◌≡◌, ◌+◌, ◌≤◌, map, option_map, sym, ap, ◌∙◌, subst, arith, refl}
use Rattle.cpn_definitions.specs.Net.{transition_at}
use Rattle.cpn_definitions.proofs.Markings.{held_at}
use Rattle.cpn_core.specs.Views.{value_view}
use Rattle.cpn_core.specs.Inscriptions.{pattern_view}
use Rattle.cpn_core.specs.Nets.{net_view}
use Rattle.cpn_stages.specs.Partial.{unbound}
use Rattle.cpn_stages.specs.Trials.{tried_by_each}
use Rattle.cpn_search.specs.FoundViews.{found_view}
use Rattle.cpn_search.specs.HeldSearches.{AddsFound}
use Rattle.cpn_search.specs.TrialViews.{trials_view}
use Rattle.cpn_search.proofs.PlannedTrials.{plan_of}
use Rattle.cpn_search.proofs.HeldTrials.{held_trials, held_lists, held_is_none}
use Rattle.cpn_search.proofs.FoundWith.{adds_none}
use Rattle.cpn_search.proofs.with.push_held.Goals as goal

pub trials_with-requires-clause-placed : goal.trials_with-requires-clause-placed
trials_with-requires-clause-placed g c = plan_of c.args.net.now c.args.marking.now c.args.t c.args.plan.now c.requires.sound c.requires.marking c.requires.in_range c.requires.planned

pub push_found_by-requires-clause-trials : goal.push_found_by-requires-clause-trials
push_found_by-requires-clause-trials g c =
    held_trials (net_view c.args.net.now) c.args.marking.now c.args.t c.args.place (value_view c.args.value.now) c.args.plan.now.stages.items c.args.number c.index.result.now (pattern_view c.in-Some.pattern.now) (trials_view c.deref_mut.result.now)
    (λ p. (held_at (net_view c.args.net.now).places c.args.marking.now c.requires.marking p).0) c.requires.planned.values c.requires.planned.stages c.requires.stands c.requires.within c.index.ensures
    (sym c.pattern_on.ensures.exact ∙ ap (option_map (λ p. pattern_view p.now)) c.in-Some.is) (ap trials_view c.deref_mut.ensures.value ∙ c.in_ok-trials-in-Some.ensures.tried)

pub returns-in_ok-push_found_by-in-Some-clause-added : goal.returns-in_ok-push_found_by-in-Some-clause-added
returns-in_ok-push_found_by-in-Some-clause-added g c =
    subst (λ ls. AddsFound (net_view c.args.net.now) c.args.marking.now c.args.t ls (map found_view c.args.found.now.items) (map found_view c.push_found_by.new.found.items))
    (held_lists c.args.marking.now c.args.place (value_view c.args.value.now) c.args.plan.now.stages.items c.args.number c.index.result.now (pattern_view c.in-Some.pattern.now) (trials_view c.deref_mut.result.now) c.requires.within c.index.ensures
    (sym c.pattern_on.ensures.exact ∙ ap (option_map (λ p. pattern_view p.now)) c.in-Some.is) (ap trials_view c.deref_mut.ensures.value ∙ c.in_ok-trials-in-Some.ensures.tried))
    c.in_ok-push_found_by-in-Some.ensures.added

pub returns-in_ok-push_found_by-in-Some-clause-counted : goal.returns-in_ok-push_found_by-in-Some-clause-counted
returns-in_ok-push_found_by-in-Some-clause-counted g c =
    subst (λ ls. c.push_found_by.new.steps ≡ c.args.steps.now + tried_by_each (net_view c.args.net.now) ls (unbound (transition_at (net_view c.args.net.now) c.args.t).vars))
    (held_lists c.args.marking.now c.args.place (value_view c.args.value.now) c.args.plan.now.stages.items c.args.number c.index.result.now (pattern_view c.in-Some.pattern.now) (trials_view c.deref_mut.result.now) c.requires.within c.index.ensures
    (sym c.pattern_on.ensures.exact ∙ ap (option_map (λ p. pattern_view p.now)) c.in-Some.is) (ap trials_view c.deref_mut.ensures.value ∙ c.in_ok-trials-in-Some.ensures.tried))
    c.in_ok-push_found_by-in-Some.ensures.counted

pub returns-in_ok-push_found_by-in-Some-clause-steps : goal.returns-in_ok-push_found_by-in-Some-clause-steps
returns-in_ok-push_found_by-in-Some-clause-steps g c =
    subst (λ ls. c.push_found_by.new.steps ≤ c.args.steps.now + tried_by_each (net_view c.args.net.now) ls (unbound (transition_at (net_view c.args.net.now) c.args.t).vars))
    (held_lists c.args.marking.now c.args.place (value_view c.args.value.now) c.args.plan.now.stages.items c.args.number c.index.result.now (pattern_view c.in-Some.pattern.now) (trials_view c.deref_mut.result.now) c.requires.within c.index.ensures
    (sym c.pattern_on.ensures.exact ∙ ap (option_map (λ p. pattern_view p.now)) c.in-Some.is) (ap trials_view c.deref_mut.ensures.value ∙ c.in_ok-trials-in-Some.ensures.tried))
    c.push_found_by.ensures.steps

pub returns-in_err-push_found_by-in-Some-clause-steps : goal.returns-in_err-push_found_by-in-Some-clause-steps
returns-in_err-push_found_by-in-Some-clause-steps g c =
    subst (λ ls. c.push_found_by.new.steps ≤ c.args.steps.now + tried_by_each (net_view c.args.net.now) ls (unbound (transition_at (net_view c.args.net.now) c.args.t).vars))
    (held_lists c.args.marking.now c.args.place (value_view c.args.value.now) c.args.plan.now.stages.items c.args.number c.index.result.now (pattern_view c.in-Some.pattern.now) (trials_view c.deref_mut.result.now) c.requires.within c.index.ensures
    (sym c.pattern_on.ensures.exact ∙ ap (option_map (λ p. pattern_view p.now)) c.in-Some.is) (ap trials_view c.deref_mut.ensures.value ∙ c.in_ok-trials-in-Some.ensures.tried))
    c.push_found_by.ensures.steps

pub returns-in-None-clause-added : goal.returns-in-None-clause-added
returns-in-None-clause-added g c =
    adds_none (net_view c.args.net.now) c.args.marking.now c.args.t _ (map found_view c.args.found.now.items) _
    (held_is_none c.args.marking.now c.args.place (value_view c.args.value.now) c.args.plan.now.stages.items c.args.number c.index.result.now c.requires.within c.index.ensures
    (sym c.pattern_on.ensures.exact ∙ ap (option_map (λ p. pattern_view p.now)) c.in-None.is)) refl

pub returns-in-None-clause-counted : goal.returns-in-None-clause-counted
returns-in-None-clause-counted g c =
    let none_there = ap (λ ls. tried_by_each (net_view c.args.net.now) ls (unbound (transition_at (net_view c.args.net.now) c.args.t).vars))
    (held_is_none c.args.marking.now c.args.place (value_view c.args.value.now) c.args.plan.now.stages.items c.args.number c.index.result.now c.requires.within c.index.ensures
    (sym c.pattern_on.ensures.exact ∙ ap (option_map (λ p. pattern_view p.now)) c.in-None.is)) in
    omega (arith, none_there)
