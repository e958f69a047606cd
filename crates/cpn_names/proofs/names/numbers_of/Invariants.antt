-- The names that were seen have their numbers.
use Rattle.std.proofs.Common.{take}
use Rattle.cpn_names.specs.Names.{texts_of, Numbers}
use Rattle.cpn_names.proofs.names.numbers_of.Given as goal

abbrev pub invariant-loop-number : goal.invariant-loop-number
invariant-loop-number l = Numbers (texts_of (take l.number l.names)) l.numbers
