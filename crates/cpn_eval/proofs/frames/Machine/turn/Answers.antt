-- A turn keeps what comes of the evaluation in the end.
use Rattle.std.proofs.Common.{refl, sym, ap, ◌∙◌}
use Rattle.cpn_eval.specs.Held.{held_view}
use Rattle.cpn_eval.specs.Frames.{ahead, after_frame, frame_view}
use Rattle.cpn_eval.proofs.Turns.{pop_goes, stops_same}
use Rattle.cpn_eval.proofs.frames.Machine.turn.Goals as goal

pub returns-in-Ok : goal.returns-in-Ok
returns-in-Ok c =
    c.in-Ok.ensures
    ∙ sym (pop_goes c.args.world.now c.args.self.now (record c.args.self.now { frames = c.pop.new.self }) c.in-Some.frame (held_view c.in-Given.value) refl refl c.in-Some.ensures.items)
    ∙ ap (ahead c.args.world.now c.args.self.now) (sym c.in-Given.is)

pub returns-in-Err : goal.returns-in-Err
returns-in-Err c =
    stops_same c.in-Err.reason
    (after_frame c.args.world.now (record c.args.self.now { frames = c.pop.new.self }) (frame_view c.in-Some.frame) (held_view c.in-Given.value))
    (ahead c.args.world.now c.args.self.now c.args.now)
    (sym (pop_goes c.args.world.now c.args.self.now (record c.args.self.now { frames = c.pop.new.self }) c.in-Some.frame (held_view c.in-Given.value) refl refl c.in-Some.ensures.items)
    ∙ ap (ahead c.args.world.now c.args.self.now) (sym c.in-Given.is))
    c.in-Err.ensures
