-- The operation means what it gives for the value of the first operand and that of the second.
use Rattle.std.proofs.Common.{arith}
use Rattle.cpn_core.specs.Inscriptions.{op_view}
use Rattle.cpn_core.specs.Views.{value_view}
use Rattle.cpn_eval.proofs.LeafOperands.{second_read}
use Rattle.cpn_eval.proofs.leaves.beside.Goals as goal

pub returns-else-makes : goal.returns-else-makes
returns-else-makes c = record {
  value = λ n ls. second_read c.args.world.now n ls (op_view c.args.op) c.args.parts.now c.first-item.result c.right-item.result (value_view c.in-Some.left.now) (omega (arith, c.in-len2.len_at_least, c.in-len2.len_below)) c.first-item.is c.right-item.is (c.in-Some.ensures.value n ls);
}
