-- The next of the trials that are left is the one at that place.
use Rattle.std.proofs.Common.{sym, ap, ◌∙◌, arith}
use Rattle.cpn_search.specs.Searches.{tries_at}
use Rattle.cpn_search.proofs.TurnSteps.{trials_go_on}
use Rattle.cpn_search.proofs.ListedValues.{listed_there}
use Rattle.cpn_search.proofs.turns.tries_of.Goals as goal

pub returns : goal.returns
returns c = record { exact = c.tries.ensures.tries ∙ sym (ap tries_at (trials_go_on c.args.trials.now c.args.tried c.index-trials-tried.result (omega arith) c.index-trials-tried.is)) }

pub tries-requires : goal.tries-requires
tries-requires c = record { listed = listed_there c.args.trials.now c.args.tried c.index-trials-tried.result (omega arith) c.index-trials-tried.is c.requires.listed }
