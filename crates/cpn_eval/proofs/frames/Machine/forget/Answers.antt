-- The locals that are left are those ahead of the count.
use Rattle.std.proofs.Common.{refl}
use Rattle.cpn_eval.specs.Held.{held_view}
use Rattle.cpn_eval.proofs.Turns.{forget_goes}
use Rattle.cpn_eval.proofs.frames.Machine.forget.Goals as goal

pub returns : goal.returns
returns c =
    forget_goes c.args.world.now c.args.self.now (record c.args.self.now { locals = c.truncate.new.self }) c.args.count (held_view c.args.value) refl c.truncate.ensures.items refl
