-- The state begins, each turn keeps it, and at its end all is found.
use Rattle.std.proofs.Common.{◌≡◌, ℕ, ◌+◌, ◌<◌, ◌∷◌, [], ◌++◌, arith, map, drop, sym, ap, ◌∙◌, subst, refl}
use Rattle.cpn_core.specs.Nets.{net_view}
use Rattle.cpn_search.specs.FoundViews.{found_view, AreOf}
use Rattle.cpn_search.specs.ListedTrials.{listed_in}
use Rattle.cpn_search.specs.TrialViews.{trials_view, under_way_view, all_under_way}
use Rattle.cpn_search.specs.Searches.{SearchState, still_made, still_tried, tries_at}
use Rattle.cpn_search.proofs.SearchStates.{tries_within}
use Rattle.cpn_search.proofs.TurnSteps.{vars_listed, last_taken, none_taken, begun, begun_tries}
use Rattle.cpn_search.proofs.TurnedSearches.{state_turned, fewer_turned, tries_turned, state_ends}
use Rattle.cpn_search.proofs.turns.all_found.Goals as goal

pub loop-next-init : goal.loop-next-init
loop-next-init g c = (
  begun c.args.net.now c.args.marking.now c.args.t (trials_view c.args.trials.now) c.index-transition.result.now c.deref.result.now c.in_ok-partial.partial c.in_ok-ahead.ahead.items c.new-found.result.items c.requires.trials c.requires.in_range c.index-transition.ensures c.deref.ensures.value c.in_ok-partial.ensures.unbound c.in_ok-ahead.ensures.items c.new-found.ensures.items,
  subst (AreOf (net_view c.args.net.now) c.args.t) (sym c.new-found.ensures.items) tt,
  ap (λ (k : ℕ). c.args.steps.now + k) (begun_tries c.args.net.now c.args.t (trials_view c.args.trials.now) c.index-transition.result.now c.deref.result.now c.in_ok-partial.partial c.in_ok-ahead.ahead.items c.requires.in_range c.index-transition.ensures c.deref.ensures.value c.in_ok-partial.ensures.unbound c.in_ok-ahead.ensures.items),
  refl,
  omega arith,
)

pub turn-requires-clause-state : goal.turn-requires-clause-state
turn-requires-clause-state g c =
    subst (λ ts. SearchState (net_view c.args.net.now) c.args.marking.now c.args.t ts (all_under_way c.pop.new.self.items ++ under_way_view c.in-Some.next ∷ []) (map found_view c.loop-next.found.items)) (sym (c.list_next.ensures.same ∙ c.loop-next.invariant.3))
    (subst (λ xs. SearchState (net_view c.args.net.now) c.args.marking.now c.args.t (trials_view c.args.trials.now) xs (map found_view c.loop-next.found.items))
    (last_taken c.loop-next.ahead.items c.pop.new.self.items c.in-Some.next c.pop.result c.pop.ensures.items c.in-Some.is) c.loop-next.invariant.0)

pub loop-next-preserved : goal.loop-next-preserved
loop-next-preserved g c = (
  state_turned (net_view c.args.net.now) c.args.marking.now c.args.t (trials_view c.args.trials.now) (all_under_way c.pop.new.self.items) (under_way_view c.in-Some.next) (map found_view c.loop-next.found.items)
      (subst (λ xs. SearchState (net_view c.args.net.now) c.args.marking.now c.args.t (trials_view c.args.trials.now) xs (map found_view c.loop-next.found.items))
      (last_taken c.loop-next.ahead.items c.pop.new.self.items c.in-Some.next c.pop.result c.pop.ensures.items c.in-Some.is) c.loop-next.invariant.0)
      (vars_listed c.args.net.now c.args.t c.requires.sound c.requires.in_range) (drop c.in-Some.next.tried (trials_view c.list_next.new.trials)) (ap (drop c.in-Some.next.tried) (sym (c.list_next.ensures.same ∙ c.loop-next.invariant.3))) (all_under_way c.turn.new.ahead.items) (map found_view c.turn.new.found.items) c.in_ok-turn.ensures.turned,
  c.in_ok-turn.ensures.elements c.loop-next.invariant.1,
  (let before = c.loop-next.invariant.2 in
      let same = ap (still_tried (net_view c.args.net.now) (trials_view c.args.trials.now)) (last_taken c.loop-next.ahead.items c.pop.new.self.items c.in-Some.next c.pop.result c.pop.ensures.items c.in-Some.is) in
      let turned = tries_turned (net_view c.args.net.now) c.args.marking.now c.args.t (trials_view c.args.trials.now) (all_under_way c.pop.new.self.items) (under_way_view c.in-Some.next) (map found_view c.loop-next.found.items)
      (subst (λ xs. SearchState (net_view c.args.net.now) c.args.marking.now c.args.t (trials_view c.args.trials.now) xs (map found_view c.loop-next.found.items)) (last_taken c.loop-next.ahead.items c.pop.new.self.items c.in-Some.next c.pop.result c.pop.ensures.items c.in-Some.is) c.loop-next.invariant.0)
      (drop c.in-Some.next.tried (trials_view c.list_next.new.trials)) (ap (drop c.in-Some.next.tried) (sym (c.list_next.ensures.same ∙ c.loop-next.invariant.3))) (all_under_way c.turn.new.ahead.items) (map found_view c.turn.new.found.items) c.in_ok-turn.ensures.turned in
      let added = c.add.ensures.added in
      let more = c.tries_of-more.ensures.exact in
      omega (arith, before, same, turned, added, more)),
  c.list_next.ensures.same ∙ c.loop-next.invariant.3,
  (let before = c.loop-next.invariant.4 in
      let lists = c.list_next.ensures.work in
      let same = ap (λ ts. tries_at (drop c.in-Some.next.tried ts)) c.list_next.ensures.same in
      let added = c.add.ensures.added in
      let more = c.tries_of-more.ensures.exact in
      omega (arith, before, lists, same, added, more)),
)

pub loop-next-smaller : goal.loop-next-smaller
loop-next-smaller g c =
    subst (λ xs. still_made (net_view c.args.net.now) (trials_view c.args.trials.now) (all_under_way c.turn.new.ahead.items) < still_made (net_view c.args.net.now) (trials_view c.args.trials.now) xs)
    (sym (last_taken c.loop-next.ahead.items c.pop.new.self.items c.in-Some.next c.pop.result c.pop.ensures.items c.in-Some.is))
    (fewer_turned (net_view c.args.net.now) c.args.marking.now c.args.t (trials_view c.args.trials.now) (all_under_way c.pop.new.self.items) (under_way_view c.in-Some.next) (map found_view c.loop-next.found.items)
    (subst (λ xs. SearchState (net_view c.args.net.now) c.args.marking.now c.args.t (trials_view c.args.trials.now) xs (map found_view c.loop-next.found.items))
    (last_taken c.loop-next.ahead.items c.pop.new.self.items c.in-Some.next c.pop.result c.pop.ensures.items c.in-Some.is) c.loop-next.invariant.0)
    (drop c.in-Some.next.tried (trials_view c.list_next.new.trials)) (ap (drop c.in-Some.next.tried) (sym (c.list_next.ensures.same ∙ c.loop-next.invariant.3))) (all_under_way c.turn.new.ahead.items) (map found_view c.turn.new.found.items) c.in_ok-turn.ensures.turned)

pub returns-clause-found : goal.returns-clause-found
returns-clause-found g c =
    state_ends (net_view c.args.net.now) c.args.marking.now c.args.t (trials_view c.args.trials.now) (map found_view c.loop-next.found.items) (vars_listed c.args.net.now c.args.t c.requires.sound c.requires.in_range)
    (subst (λ xs. SearchState (net_view c.args.net.now) c.args.marking.now c.args.t (trials_view c.args.trials.now) xs (map found_view c.loop-next.found.items)) (none_taken c.loop-next.ahead.items (omega (arith, c.in_default.ensures.cases.0))) c.loop-next.invariant.0)

pub returns-in_err-turn-clause-steps : goal.returns-in_err-turn-clause-steps
returns-in_err-turn-clause-steps g c =
    let before = c.loop-next.invariant.2 in
    let same = ap (still_tried (net_view c.args.net.now) (trials_view c.args.trials.now)) (last_taken c.loop-next.ahead.items c.pop.new.self.items c.in-Some.next c.pop.result c.pop.ensures.items c.in-Some.is) in
    let within = tries_within (net_view c.args.net.now) (trials_view c.args.trials.now) (all_under_way c.pop.new.self.items) (under_way_view c.in-Some.next) in
    let next = ap (λ ts. tries_at (drop c.in-Some.next.tried ts)) (c.list_next.ensures.same ∙ c.loop-next.invariant.3) in
    let added = c.add.ensures.added in
    let more = c.tries_of-more.ensures.exact in
    omega (arith, before, same, within, next, added, more)

pub returns-clause-counted : goal.returns-clause-counted
returns-clause-counted g c =
    let before = c.loop-next.invariant.2 in
    let none_left : still_tried (net_view c.args.net.now) (trials_view c.args.trials.now) (all_under_way c.loop-next.ahead.items) ≡ 0 =
    ap (still_tried (net_view c.args.net.now) (trials_view c.args.trials.now)) (none_taken c.loop-next.ahead.items (omega (arith, c.in_default.ensures.cases.0))) in
    omega (arith, before, none_left)

pub returns-in_err-list_next-clause-steps : goal.returns-in_err-list_next-clause-steps
returns-in_err-list_next-clause-steps g c = let before = c.loop-next.invariant.2 in omega (arith, before)

pub returns-clause-steps : goal.returns-clause-steps
returns-clause-steps g c = let before = c.loop-next.invariant.2 in omega (arith, before)

-- ---- what is listed

pub returns-in_err-list_next-clause-work : goal.returns-in_err-list_next-clause-work
returns-in_err-list_next-clause-work g c =
    let before = c.loop-next.invariant.4 in
    let kept = ap listed_in c.in_err-list_next.ensures.kept in
    omega (arith, before, kept)

pub returns-in_err-turn-clause-work : goal.returns-in_err-turn-clause-work
returns-in_err-turn-clause-work g c =
    let before = c.loop-next.invariant.4 in
    let lists = c.list_next.ensures.work in
    let same = ap (λ ts. tries_at (drop c.in-Some.next.tried ts)) c.list_next.ensures.same in
    let added = c.add.ensures.added in
    let more = c.tries_of-more.ensures.exact in
    omega (arith, before, lists, same, added, more)

pub returns-clause-work : goal.returns-clause-work
returns-clause-work g c = let before = c.loop-next.invariant.4 in omega (arith, before)
