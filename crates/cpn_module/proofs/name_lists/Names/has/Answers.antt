-- A name is there where it has a number.
use Rattle.std.proofs.Common.{rules}
use Rattle.cpn_module.proofs.NameNumbers.{told}
use Rattle.cpn_module.proofs.name_lists.Names.has.Goals as goal

pub returns : goal.returns
returns c = search (rules, told)
