-- The colour set of the name is found.
use Rattle.cpn_declared.proofs.Entries.{colour_found}
use Rattle.cpn_declared.proofs.decls.Decls.colour.Goals as goal

pub returns : goal.returns
returns c = record { exact = colour_found c.args.name.now c.args.self.now.colours c.get.result c.get.ensures.value }
