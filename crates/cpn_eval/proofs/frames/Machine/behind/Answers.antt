-- A part whose value is known stands behind those that are done.
use Rattle.cpn_core.specs.Inscriptions.{exprs_view}
use Rattle.cpn_eval.specs.Frames.{head_view}
use Rattle.cpn_eval.proofs.Turns.{goes_same, part_goes}
use Rattle.cpn_eval.proofs.frames.Machine.behind.Goals as goal

pub returns : goal.returns
returns c =
    goes_same c.args.world.now c.parts.new.self c.parts.result _ _ (part_goes c.args.world.now c.args.self.now (head_view c.args.head) c.args.done.items c.push.new.self.items c.args.value (exprs_view c.args.rest.now) c.in_ok-push-in-None.ensures.items) c.parts.ensures
