-- The map has the number of each name that is there.
use Rattle.std.proofs.Common.{rules}
use Rattle.cpn_names.proofs.NameNumbers.{number_found}
use Rattle.cpn_names.proofs.names.Names.number.Goals as goal

pub returns : goal.returns
returns c = record {
  number = rw (← c.self.view_is) (number_found c.args.name.now c.self.inside.names.items c.self.inside.numbers c.copied.result c.self.invariant (search rules));
}
