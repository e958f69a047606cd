-- The set has the new name too.
use Rattle.cpn_document.proofs.NameLists.{set_more}
use Rattle.cpn_document.proofs.names.Names.add.Goals as goal

pub invariant_of-self-in-Ok-true : goal.invariant_of-self-in-Ok-true
invariant_of-self-in-Ok-true c =
    rw c.in_ok-push.ensures.items (set_more c.self.inside.names.items c.args.name c.self.inside.set c.insert.new.self c.self.invariant c.in-Ok-true.ensures.updates)
