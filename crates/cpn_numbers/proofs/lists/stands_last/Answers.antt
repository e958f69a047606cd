-- The last number is what the list ends with.
use Rattle.std.proofs.Common.{sym}
use Rattle.cpn_numbers.proofs.ListedNumbers.{last_is}
use Rattle.cpn_numbers.proofs.lists.stands_last.Goals as goal

pub returns-in-Some : goal.returns-in-Some
returns-in-Some c = record { exact = sym (last_is c.args.numbers.now c.in-Some.last.now c.args.number c.in-Some.ensures.value) }
