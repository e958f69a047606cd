-- The sum and the numbers of the integers with one more.
use Rattle.std.proofs.Common.{arith}
use Rattle.std.proofs.lemmas.Int.{ints, to_z-of_z}
use Rattle.cpn_monitor.proofs.values.Integers.with_integer.Goals as goal

pub returns : goal.returns
returns c = record { with = grind (arith, ints, to_z-of_z) }
