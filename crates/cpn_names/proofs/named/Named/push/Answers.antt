-- The map has the number of the new name too.
use Rattle.std.proofs.Common.{rules}
use Rattle.cpn_names.proofs.KeptNumbers.{pushed}
use Rattle.cpn_names.proofs.named.Named.push.Goals as goal

pub invariant_of-self-in-Ok : goal.invariant_of-self-in-Ok
invariant_of-self-in-Ok g c =
    pushed c.self.inside.entries.items c.push.new.self.items c.in_ok-text.text c.args.value c.self.inside.numbers c.insert.new.self c.args.name.now c.in_ok-key.key c.unwrap_or-first.result
    c.in_ok-text.ensures.ok c.in_ok-key.ensures.ok c.in_ok-push.ensures.items c.self.invariant (search rules) c.in-Ok.ensures.updates
