-- A condition that stands somewhere means its truth value, which the frame tests.
use Rattle.std.proofs.Common.{ap, sym, ◌∙◌}
use Rattle.cpn_eval.specs.Frames.{after_frame, after_waiting, frame_view}
use Rattle.cpn_eval.proofs.ValueLists.{view_boolean}
use Rattle.cpn_eval.proofs.Turns.{goes_same}
use Rattle.cpn_eval.proofs.frames.Machine.test.Goals as goal

pub returns-in-Some : goal.returns-in-Some
returns-in-Some c =
    goes_same c.args.world.now c.go_on.new.self c.go_on.result _ _
    (ap (after_frame c.args.world.now c.args.self.now (frame_view c.args.frame)) (view_boolean c.in-Some.truth)
    ∙ ap (after_waiting c.args.world.now c.args.self.now (frame_view c.args.frame)) (sym c.in-Some.ensures.truth))
    c.go_on.ensures
