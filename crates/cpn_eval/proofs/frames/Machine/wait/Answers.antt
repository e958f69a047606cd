-- A frame more waits for the value of the inscription.
use Rattle.std.proofs.Common.{refl}
use Rattle.cpn_core.specs.Inscriptions.{expr_view}
use Rattle.cpn_eval.specs.Frames.{locals_of, meant_at}
use Rattle.cpn_eval.proofs.Turns.{wait_goes}
use Rattle.cpn_eval.proofs.frames.Machine.wait.Goals as goal

pub returns : goal.returns
returns c =
    wait_goes c.args.world.now c.args.self.now (record c.args.self.now { frames = c.push.new.self }) c.args.frame (meant_at c.args.world.now c.args.self.now.visible (locals_of c.args.self.now) (expr_view c.args.expr.now)) refl refl c.in_ok-push.ensures.items
