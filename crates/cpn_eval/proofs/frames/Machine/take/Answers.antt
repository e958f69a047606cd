-- An arm goes on with what its pattern binds as more locals, which it forgets.
use Rattle.std.proofs.Common.{refl, rules}
use Rattle.cpn_core.specs.Inscriptions.{expr_view}
use Rattle.cpn_eval.proofs.Turns.{arm_goes}
use Rattle.cpn_eval.proofs.frames.Machine.take.Goals as goal

pub returns : goal.returns
returns c =
    arm_goes c.args.world.now c.args.self.now (record c.args.self.now { locals = c.hold_all.new.held; frames = c.push.new.self }) (expr_view c.args.choice.body.now) c.args.choice.bound.items c.len.result refl c.in_ok-hold_all.ensures.all c.in_ok-push.ensures.items (search rules)
