-- One number more.
use Rattle.std.proofs.Common.{◌+◌, [], List, map, take, drop, sym, ap, ◌∙◌, subst, arith}
use Rattle.cpn_definitions.specs.Net.{transition_at}
use Rattle.cpn_core.specs.Views.{value_view}
use Rattle.cpn_core.specs.Nets.{net_view}
use Rattle.cpn_stages.specs.Partial.{unbound}
use Rattle.cpn_stages.specs.Trials.{Trial, tried_by_each}
use Rattle.cpn_search.specs.FoundViews.{found_view, AreOf}
use Rattle.cpn_search.specs.HeldSearches.{AreFoundSoFar}
use Rattle.cpn_search.specs.TriedStages.{held, held_number}
use Rattle.cpn_search.proofs.HeldTrials.{held_split, held_start, tries_of_both}
use Rattle.cpn_search.proofs.FoundWith.{none_so_far, more_so_far}
use Rattle.cpn_search.proofs.with.found_with.Goals as goal

pub loop-number-init : goal.loop-number-init
loop-number-init g c =
    let all : List (List Trial) = held c.args.marking.now c.args.place (value_view c.args.value.now) [] c.args.plan.now.stages.items in
    let start = held_start c.args.marking.now c.args.place (value_view c.args.value.now) c.args.plan.now.stages.items in (
      subst (λ ls. AreFoundSoFar (net_view c.args.net.now) c.args.marking.now c.args.t all ls (map found_view c.new-found.result.items)) (sym start)
          (subst (λ fs. AreFoundSoFar (net_view c.args.net.now) c.args.marking.now c.args.t all all (map found_view fs)) (sym c.new-found.ensures.items) (none_so_far (net_view c.args.net.now) c.args.marking.now c.args.t all)),
      subst (AreOf (net_view c.args.net.now) c.args.t) (sym c.new-found.ensures.items) tt,
      ap (λ ls. c.args.steps.now + tried_by_each (net_view c.args.net.now) ls (unbound (transition_at (net_view c.args.net.now) c.args.t).vars)) start,
    )

pub loop-number-preserved : goal.loop-number-preserved
loop-number-preserved g c =
    let n = net_view c.args.net.now in
    let m = c.args.marking.now in
    let v = value_view c.args.value.now in
    let ss = c.args.plan.now.stages.items in
    let i = c.loop-number.number in
    let split = held_split m c.args.place v ss i (omega arith) in
    let before = c.loop-number.invariant.2 in
    let counted = c.in_ok-push_held.ensures.counted in
    let tries = ap (λ ls. tried_by_each n ls (unbound (transition_at n c.args.t).vars)) split ∙ tries_of_both n (held_number m c.args.place v ss i) (held m c.args.place v (take (i + 1) ss) (drop (i + 1) ss)) (unbound (transition_at n c.args.t).vars) in (
      more_so_far n m c.args.t _ _ _ (held m c.args.place v (take (i + 1) ss) (drop (i + 1) ss)) (map found_view c.loop-number.found.items) (map found_view c.push_held.new.found.items) c.loop-number.invariant.0 split c.in_ok-push_held.ensures.added,
      c.in_ok-push_held.ensures.elements c.loop-number.invariant.1,
      omega (arith, before, counted, tries),
    )

pub returns-in_err-push_held-clause-steps : goal.returns-in_err-push_held-clause-steps
returns-in_err-push_held-clause-steps g c =
    let n = net_view c.args.net.now in
    let m = c.args.marking.now in
    let v = value_view c.args.value.now in
    let ss = c.args.plan.now.stages.items in
    let i = c.loop-number.number in
    let before = c.loop-number.invariant.2 in
    let within = c.push_held.ensures.steps in
    let tries = ap (λ ls. tried_by_each n ls (unbound (transition_at n c.args.t).vars)) (held_split m c.args.place v ss i (omega arith)) ∙ tries_of_both n (held_number m c.args.place v ss i) (held m c.args.place v (take (i + 1) ss) (drop (i + 1) ss)) (unbound (transition_at n c.args.t).vars) in
    omega (arith, before, within, tries)
