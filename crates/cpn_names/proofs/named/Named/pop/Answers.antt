-- The map has the numbers of the names that are left.
use Rattle.std.proofs.Common.{rules}
use Rattle.cpn_names.proofs.KeptNumbers.{popped, popped_again}
use Rattle.cpn_names.proofs.named.Named.pop.Goals as goal

pub invariant_of-self : goal.invariant_of-self
invariant_of-self g c =
    popped c.self.inside.entries.items c.pop.new.self.items c.in-Some.name c.in-Some.field-0-1 c.self.inside.numbers c.remove.new.self c.in-Some.ensures.items c.self.invariant c.as_str-name.result.now c.as_str-name.ensures.value c.copied.result (search rules) c.len.result (search rules) (search rules) (search rules)

pub invariant_of-self-else-eq : goal.invariant_of-self-else-eq
invariant_of-self-else-eq g c =
    popped_again c.self.inside.entries.items c.pop.new.self.items c.in-Some.name c.in-Some.field-0-1 c.self.inside.numbers c.self.inside.numbers c.in-Some.ensures.items c.self.invariant c.as_str-name.result.now c.as_str-name.ensures.value c.copied.result (search rules) c.len.result (search rules) (search rules)
