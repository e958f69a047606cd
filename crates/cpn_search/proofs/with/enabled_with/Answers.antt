-- What is found, in order and each once, is what is enabled with the value; where the value does not stand on the place nothing is.
use Rattle.std.proofs.Common.{ℕ, ◌+◌, ◌≤◌, [], map, sym, ap, ◌∙◌, subst, true≢false}
use Rattle.cpn_core.specs.Views.{value_view}
use Rattle.cpn_core.specs.Nets.{net_view}
use Rattle.cpn_search.specs.FoundViews.{found_view, AreOf}
use Rattle.cpn_search.proofs.FoundElements.{elements_permuted}
use Rattle.cpn_search.proofs.OnceFound.{once_each}
use Rattle.cpn_search.proofs.FoundWith.{found_is_enabled, pinned_by, stands_if_held, held_if_stands, none_with}
use Rattle.cpn_search.proofs.with.enabled_with.Goals as goal

pub returns-then-not-holds-clause-enabled : goal.returns-then-not-holds-clause-enabled
returns-then-not-holds-clause-enabled g c = none_with (net_view c.args.net.now) c.args.marking.now c.args.t c.args.place (value_view c.args.value.now) (map found_view c.new-none.result.items) (λ stands. true≢false (sym (held_if_stands c.args.marking.now c.args.place (value_view c.args.value.now) stands) ∙ sym c.holds.ensures.held ∙ c.if-not-holds.true)) (ap (map found_view) c.new-none.ensures.items)

pub returns-then-not-holds-clause-counted : goal.returns-then-not-holds-clause-counted
returns-then-not-holds-clause-counted g c = λ there k pinned. absurd (true≢false (sym (held_if_stands c.args.marking.now c.args.place (value_view c.args.value.now) there) ∙ sym c.holds.ensures.held ∙ c.if-not-holds.true))

pub found_with-requires-clause-stands : goal.found_with-requires-clause-stands
found_with-requires-clause-stands g c = (stands_if_held c.args.marking.now c.args.place (value_view c.args.value.now) (sym c.holds.ensures.held ∙ c.if-not-holds.false))

pub returns-clause-enabled : goal.returns-clause-enabled
returns-clause-enabled g c =
    found_is_enabled c.args.net.now c.args.marking.now c.args.t c.args.place (value_view c.args.value.now) c.args.plan.now c.requires.sound c.requires.marking c.requires.in_range c.requires.planned
    (stands_if_held c.args.marking.now c.args.place (value_view c.args.value.now) (sym c.holds.ensures.held ∙ c.if-not-holds.false))
    c.in_ok-found.found.items c.in_ok-sorted.sorted.items c.in_ok-once.once.items c.in_ok-found.ensures.found c.in_ok-sorted.ensures.same c.in_ok-sorted.ensures.rises c.in_ok-once.ensures.once

pub returns-clause-elements : goal.returns-clause-elements
returns-clause-elements g c =
    subst (AreOf (net_view c.args.net.now) c.args.t) (sym c.in_ok-once.ensures.once)
    (once_each _ [] c.in_ok-sorted.sorted.items tt (elements_permuted (net_view c.args.net.now) c.args.t c.in_ok-found.found.items c.in_ok-sorted.sorted.items c.in_ok-sorted.ensures.same c.in_ok-found.ensures.elements))

pub returns-clause-counted : goal.returns-clause-counted
returns-clause-counted g c = λ there k pinned. c.in_ok-found.ensures.counted ∙ ap (λ (j : ℕ). c.args.steps.now + j) (pinned_by c.args.net.now c.args.marking.now c.args.t c.args.place (value_view c.args.value.now) c.args.plan.now c.requires.sound c.requires.marking c.requires.in_range c.requires.planned (stands_if_held c.args.marking.now c.args.place (value_view c.args.value.now) (sym c.holds.ensures.held ∙ c.if-not-holds.false)) k pinned)

pub returns-in_err-found-clause-steps : goal.returns-in_err-found-clause-steps
returns-in_err-found-clause-steps g c = λ k pinned. subst (λ (j : ℕ). c.found_with.new.steps ≤ c.args.steps.now + j) (pinned_by c.args.net.now c.args.marking.now c.args.t c.args.place (value_view c.args.value.now) c.args.plan.now c.requires.sound c.requires.marking c.requires.in_range c.requires.planned (stands_if_held c.args.marking.now c.args.place (value_view c.args.value.now) (sym c.holds.ensures.held ∙ c.if-not-holds.false)) k pinned) c.found_with.ensures.steps

pub returns-in_err-sorted-clause-steps : goal.returns-in_err-sorted-clause-steps
returns-in_err-sorted-clause-steps g c = λ k pinned. subst (λ (j : ℕ). c.found_with.new.steps ≤ c.args.steps.now + j) (pinned_by c.args.net.now c.args.marking.now c.args.t c.args.place (value_view c.args.value.now) c.args.plan.now c.requires.sound c.requires.marking c.requires.in_range c.requires.planned (stands_if_held c.args.marking.now c.args.place (value_view c.args.value.now) (sym c.holds.ensures.held ∙ c.if-not-holds.false)) k pinned) c.found_with.ensures.steps

pub returns-in_err-once-clause-steps : goal.returns-in_err-once-clause-steps
returns-in_err-once-clause-steps g c = λ k pinned. subst (λ (j : ℕ). c.found_with.new.steps ≤ c.args.steps.now + j) (pinned_by c.args.net.now c.args.marking.now c.args.t c.args.place (value_view c.args.value.now) c.args.plan.now c.requires.sound c.requires.marking c.requires.in_range c.requires.planned (stands_if_held c.args.marking.now c.args.place (value_view c.args.value.now) (sym c.holds.ensures.held ∙ c.if-not-holds.false)) k pinned) c.found_with.ensures.steps

pub returns-clause-steps : goal.returns-clause-steps
returns-clause-steps g c = λ k pinned. subst (λ (j : ℕ). c.found_with.new.steps ≤ c.args.steps.now + j) (pinned_by c.args.net.now c.args.marking.now c.args.t c.args.place (value_view c.args.value.now) c.args.plan.now c.requires.sound c.requires.marking c.requires.in_range c.requires.planned (stands_if_held c.args.marking.now c.args.place (value_view c.args.value.now) (sym c.holds.ensures.held ∙ c.if-not-holds.false)) k pinned) c.found_with.ensures.steps
