-- An operation means what it gives for its operands.
use Rattle.cpn_core.specs.Inscriptions.{op_view}
use Rattle.cpn_core.specs.Views.{value_view}
use Rattle.cpn_eval.specs.Held.{held_view}
use Rattle.cpn_eval.proofs.LeafOperands.{beside_given}
use Rattle.cpn_eval.proofs.frames.Machine.with_left.Goals as goal

pub returns : goal.returns
returns c =
    beside_given c.args.world.now c.args.self.now (op_view c.args.op) (value_view c.args.left.now) (value_view c.into_value-right.result) (held_view c.args.value) (value_view c.in_ok-read_two.field-0) c.into_value-right.ensures.same c.in_ok-read_two.ensures.value
