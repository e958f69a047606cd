-- There are no more classes than items.
use Rattle.std.proofs.Common.{arith}
use Rattle.cpn_classes.specs.ClassCounts.{no_more_classes}
use Rattle.cpn_classes.proofs.classes.Classes.classes.Goals as goal

pub overflow_cast-result : goal.overflow_cast-result
overflow_cast-result c = omega (arith, no_more_classes (record { numbers = c.self.inside.numbers.items; firsts = c.self.inside.firsts.items }) c.self.invariant.0, c.self.invariant.1, c.len.ensures)
