-- An operation means what it gives for its parts.
use Rattle.cpn_definitions.specs.Inscription.{operation, apply}
use Rattle.cpn_core.specs.Inscriptions.{op_view, expr_view, exprs_view}
use Rattle.cpn_core.specs.Views.{value_view}
use Rattle.cpn_eval.specs.Frames.{meant_at, locals_of}
use Rattle.cpn_eval.proofs.LeafOperands.{beside_goes, local_goes}
use Rattle.cpn_eval.proofs.Turns.{goes_same}
use Rattle.cpn_eval.proofs.frames.Machine.operands.Goals as goal

pub returns-in-Some : goal.returns-in-Some
returns-in-Some c =
    goes_same c.args.world.now c.wait.new.self c.wait.result _ _
    (beside_goes c.args.world.now c.args.self.now (op_view c.args.op) (meant_at c.args.world.now c.args.self.now.visible (locals_of c.args.self.now) (apply (operation (op_view c.args.op)) (exprs_view c.args.parts.now))) (value_view c.in-Some.both.left.now) (expr_view c.in-Some.both.right.now)
    (c.in-Some.ensures.value c.args.self.now.visible (locals_of c.args.self.now)))
    c.wait.ensures

pub returns-in-Some-beside_local : goal.returns-in-Some-beside_local
returns-in-Some-beside_local c =
    goes_same c.args.world.now c.wait-in-Some-beside_local.new.self c.wait-in-Some-beside_local.result _ _
    (local_goes c.args.world.now c.args.self.now (op_view c.args.op) (meant_at c.args.world.now c.args.self.now.visible (locals_of c.args.self.now) (apply (operation (op_view c.args.op)) (exprs_view c.args.parts.now))) c.in-Some-beside_local.both.left (expr_view c.in-Some-beside_local.both.right.now)
    c.in-Some-beside_local.ensures.value)
    c.wait-in-Some-beside_local.ensures
