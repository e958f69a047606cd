-- What the trials of the plan find, in order, is what is enabled; and their tries are all that a search makes.
use Rattle.std.proofs.Common.{ℕ, ◌+◌, ◌≤◌, map, ap, ◌∙◌, subst}
use Rattle.cpn_core.specs.Nets.{net_view}
use Rattle.cpn_search.specs.FoundViews.{found_view}
use Rattle.cpn_search.specs.TrialViews.{trials_view}
use Rattle.cpn_search.proofs.PlannedTrials.{plan_trials, plan_of, all_found_by, full_by}
use Rattle.cpn_search.proofs.BindingOrder.{sorted_is_enabled}
use Rattle.cpn_search.proofs.FoundElements.{elements_permuted}
use Rattle.cpn_search.proofs.searching.search_counted.Goals as goal

pub trials_of-requires : goal.trials_of-requires
trials_of-requires g c = record { placed = plan_of c.args.net.now c.args.marking.now c.args.t c.args.plan.now c.requires.sound c.requires.marking c.requires.in_range c.requires.planned }

pub all_found-requires-clause-trials : goal.all_found-requires-clause-trials
all_found-requires-clause-trials g c =
    plan_trials (net_view c.args.net.now) c.args.marking.now c.args.t c.args.plan.now (trials_view c.deref_mut.result.now) c.requires.marking c.requires.planned (ap trials_view c.deref_mut.ensures.value ∙ c.in_ok-trials.ensures.tried)

pub returns-clause-enabled : goal.returns-clause-enabled
returns-clause-enabled g c =
    sorted_is_enabled (net_view c.args.net.now) c.args.marking.now c.args.t c.in_ok-searched.searched.found.items c.in_ok-found.found.items
    (all_found_by c.args.net.now c.args.marking.now c.args.t c.args.plan.now (trials_view c.deref_mut.result.now) (map found_view c.in_ok-searched.searched.found.items) c.requires.sound c.requires.marking c.requires.in_range c.requires.planned
    (ap trials_view c.deref_mut.ensures.value ∙ c.in_ok-trials.ensures.tried) c.in_ok-searched.ensures.found)
    c.in_ok-found.ensures.same c.in_ok-found.ensures.rises

pub returns-clause-elements : goal.returns-clause-elements
returns-clause-elements g c = elements_permuted (net_view c.args.net.now) c.args.t c.in_ok-searched.searched.found.items c.in_ok-found.found.items c.in_ok-found.ensures.same c.in_ok-searched.ensures.elements

pub returns-in_err-searched-clause-steps : goal.returns-in_err-searched-clause-steps
returns-in_err-searched-clause-steps g c = λ k full. subst (λ (j : ℕ). c.all_found.new.steps ≤ c.args.steps.now + j) (full_by c.args.net.now c.args.marking.now c.args.t c.args.plan.now (trials_view c.deref_mut.result.now) c.requires.sound c.requires.marking c.requires.in_range c.requires.planned (ap trials_view c.deref_mut.ensures.value ∙ c.in_ok-trials.ensures.tried) k full) c.all_found.ensures.steps

pub returns-in_err-found-clause-steps : goal.returns-in_err-found-clause-steps
returns-in_err-found-clause-steps g c = λ k full. subst (λ (j : ℕ). c.all_found.new.steps ≤ c.args.steps.now + j) (full_by c.args.net.now c.args.marking.now c.args.t c.args.plan.now (trials_view c.deref_mut.result.now) c.requires.sound c.requires.marking c.requires.in_range c.requires.planned (ap trials_view c.deref_mut.ensures.value ∙ c.in_ok-trials.ensures.tried) k full) c.all_found.ensures.steps

pub returns-clause-steps : goal.returns-clause-steps
returns-clause-steps g c = λ k full. subst (λ (j : ℕ). c.all_found.new.steps ≤ c.args.steps.now + j) (full_by c.args.net.now c.args.marking.now c.args.t c.args.plan.now (trials_view c.deref_mut.result.now) c.requires.sound c.requires.marking c.requires.in_range c.requires.planned (ap trials_view c.deref_mut.ensures.value ∙ c.in_ok-trials.ensures.tried) k full) c.all_found.ensures.steps

pub returns-clause-counted : goal.returns-clause-counted
returns-clause-counted g c = λ k full. c.in_ok-searched.ensures.counted ∙ ap (λ (j : ℕ). c.args.steps.now + j) (full_by c.args.net.now c.args.marking.now c.args.t c.args.plan.now (trials_view c.deref_mut.result.now) c.requires.sound c.requires.marking c.requires.in_range c.requires.planned (ap trials_view c.deref_mut.ensures.value ∙ c.in_ok-trials.ensures.tried) k full)
