-- An operation of one operand, and of two, gives what it gives for their values.
use Rattle.std.proofs.Common.{arith}
use Rattle.cpn_core.specs.Inscriptions.{op_view}
use Rattle.cpn_eval.proofs.LeafOperands.{one_read, two_read}
use Rattle.cpn_eval.proofs.frames.Machine.read.Goals as goal

pub returns-in-len1 : goal.returns-in-len1
returns-in-len1 c = record { value = one_read c.read_operand.result c.args.world.now c.args.self.now (op_view c.args.op) c.args.parts.now c.operand-item.result (omega (arith, c.in-len1.len_at_least, c.in-len1.len_below)) c.operand-item.is c.read_operand.ensures.value }

pub returns-in-len2 : goal.returns-in-len2
returns-in-len2 c = record { value = two_read c.read_operands.result c.args.world.now c.args.self.now (op_view c.args.op) c.args.parts.now c.left-item.result c.right-item.result (omega (arith, c.in-len2.len_at_least, c.in-len2.len_below)) c.left-item.is c.right-item.is c.read_operands.ensures.value }
