-- What is no variable counts as one of the unit colour set, which is small.
use Rattle.cpn_bindable.proofs.SmallAdded.{past_is_small}
use Rattle.cpn_bindable.proofs.small_sets.is_small.Goals as goal

pub returns-then-index-variables-clause-small : goal.returns-then-index-variables-clause-small
returns-then-index-variables-clause-small c = λ is. past_is_small c.args.variables.now c.args.number c.if-index-variables.true
