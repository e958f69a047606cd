-- What the name means is found.
use Rattle.cpn_declared.proofs.Entries.{meaning_found}
use Rattle.cpn_declared.proofs.decls.Decls.meaning.Goals as goal

pub returns : goal.returns
returns c = record { exact = meaning_found c.args.name.now c.args.self.now.names c.get.result c.get.ensures.value }
