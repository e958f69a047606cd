-- Where no trial is left it is an end; else the next trial evaluates what has a meaning.
use Rattle.std.proofs.Common.{arith, map, drop, refl}
use Rattle.cpn_core.specs.Nets.{net_view}
use Rattle.cpn_search.specs.FoundViews.{found_view}
use Rattle.cpn_search.specs.TrialViews.{trial_view, trials_view, under_way_view, all_under_way}
use Rattle.cpn_search.proofs.TurnSteps.{trials_over, trials_go_on, vars_listed, solvable_at, declared_at, turn_goes_on}
use Rattle.cpn_search.proofs.TurnedSearches.{own_state, next_means, end_binds}
use Rattle.cpn_search.proofs.ListedValues.{listed_there}
use Rattle.cpn_search.proofs.turns.turn.Goals as goal

pub push_end-requires-clause-bound : goal.push_end-requires-clause-bound
push_end-requires-clause-bound c =
    end_binds (net_view c.args.net.now) c.args.marking.now c.args.t (trials_view c.args.trials.now) (all_under_way c.args.ahead.now.items) (under_way_view c.args.next.now) (map found_view c.args.found.now.items) c.requires.state
    (vars_listed c.args.net.now c.args.t c.requires.sound c.requires.in_range) (trials_over c.args.trials.now c.args.next.now.tried (omega arith))

pub push_next-requires-clause-declared : goal.push_next-requires-clause-declared
push_next-requires-clause-declared c =
    declared_at c.args.net.now c.args.t c.args.next.now.partial c.requires.sound c.requires.in_range
    (own_state (net_view c.args.net.now) c.args.marking.now c.args.t (trials_view c.args.trials.now) (all_under_way c.args.ahead.now.items) (under_way_view c.args.next.now) (map found_view c.args.found.now.items) c.requires.state).of_them

pub push_next-requires-clause-meaning : goal.push_next-requires-clause-meaning
push_next-requires-clause-meaning c =
    next_means (net_view c.args.net.now) c.args.marking.now c.args.t (trials_view c.args.trials.now) (all_under_way c.args.ahead.now.items) (under_way_view c.args.next.now) (map found_view c.args.found.now.items) c.requires.state
    (solvable_at c.args.net.now c.args.t c.requires.sound c.requires.in_range) (trial_view c.index-trials-next.result) _ (trials_go_on c.args.trials.now c.args.next.now.tried c.index-trials-next.result (omega arith) c.index-trials-next.is)

pub push_next-requires-clause-listed : goal.push_next-requires-clause-listed
push_next-requires-clause-listed c = listed_there c.args.trials.now c.args.next.now.tried c.index-trials-next.result (omega arith) c.index-trials-next.is c.requires.listed

pub returns-clause-turned : goal.returns-clause-turned
returns-clause-turned c =
    turn_goes_on (net_view c.args.net.now) c.args.marking.now c.args.t (drop c.args.next.now.tried (trials_view c.args.trials.now)) _ (trial_view c.index-trials-next.result) (under_way_view c.args.next.now) (all_under_way c.args.ahead.now.items) (all_under_way c.push_next.new.ahead.items) (map found_view c.args.found.now.items) _
    (trials_go_on c.args.trials.now c.args.next.now.tried c.index-trials-next.result (omega arith) c.index-trials-next.is) c.in_ok-push_next.ensures.appended refl
