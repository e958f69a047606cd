-- The set has the new number too.
use Rattle.cpn_module.proofs.NumbersInSets.{number_added}
use Rattle.cpn_module.proofs.number_sets.NumberSet.add.Goals as goal

pub invariant_of-self-in-Ok-true : goal.invariant_of-self-in-Ok-true
invariant_of-self-in-Ok-true c =
    rw c.in_ok-push.ensures.items (number_added c.self.inside.numbers.items c.self.inside.set c.self.invariant c.args.number c.insert.new.self c.in-Ok-true.field-0 c.in-Ok-true.ensures.added c.in-Ok-true.field-0-test c.in-Ok-true.ensures.updates)
