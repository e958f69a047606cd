-- The empty set has no numbers.
use Rattle.cpn_module.proofs.NumbersInSets.{no_numbers}
use Rattle.cpn_module.proofs.number_sets.NumberSet.new.Goals as goal

pub invariant_of-result : goal.invariant_of-result
invariant_of-result c = rw c.new.ensures.items (no_numbers c.new-2.result c.new-2.ensures.empty)
