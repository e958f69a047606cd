-- The trial that is listed tries what it tried.
use Rattle.std.proofs.Common.{arith}
use Rattle.cpn_search.proofs.ListedValues.{set_tries_same, set_is_listed, set_lists, none_to_list}
use Rattle.cpn_search.proofs.turns.list_next.Goals as goal

pub returns-in_ok-list-clause-same : goal.returns-in_ok-list-clause-same
returns-in_ok-list-clause-same c = set_tries_same c.args.trials.now c.args.tried c.list.new.self _ c.list.ensures.same

pub returns-in_ok-list-clause-listed : goal.returns-in_ok-list-clause-listed
returns-in_ok-list-clause-listed c = set_is_listed c.args.trials.now c.args.tried c.list.new.self c.in_ok-list.ensures.listed

pub returns-in_ok-list-clause-work : goal.returns-in_ok-list-clause-work
returns-in_ok-list-clause-work c = set_lists c.args.trials.now c.args.tried c.list.new.self _ (omega arith) c.list.ensures.work

pub returns-else-tried-trials-clause-listed : goal.returns-else-tried-trials-clause-listed
returns-else-tried-trials-clause-listed c = none_to_list c.args.trials.now c.args.tried (omega arith)
