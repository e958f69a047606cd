-- A name has a number where something stands under it.
use Rattle.std.proofs.Common.{rules}
use Rattle.cpn_names.proofs.FoundThings.{told}
use Rattle.cpn_names.proofs.named.Named.has.Goals as goal

pub returns : goal.returns
returns g c = search (rules, told)
