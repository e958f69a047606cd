-- The frames are looked at from the last one down.
use Rattle.std.proofs.Common.{◌+◌, ◌-◌, length, sym, arith}
use Rattle.cpn_eval.proofs.SpareLocals.{spare_all, last_passed, last_forgotten}
use Rattle.cpn_eval.proofs.spare.is_spare.Goals as goal

pub loop-passed-init : goal.loop-passed-init
loop-passed-init c = spare_all c.args.frames.now c.args.number (length c.args.frames.now - 0) (omega arith)

pub returns-in-Forgets : goal.returns-in-Forgets
returns-in-Forgets c =
    let last = length c.args.frames.now - 1 - c.loop-passed.passed in
    record {
      spare = λ _. c.loop-passed.invariant (last_forgotten c.args.frames.now c.args.number (length c.args.frames.now - (c.loop-passed.passed + 1)) (length c.args.frames.now - c.loop-passed.passed) last c.index-frames-frames.result
          (omega arith)
          (omega arith)
          (omega arith)
          c.index-frames-frames.is
          (sym c.in-Forgets.ensures.reach));
    }

pub loop-passed-preserved : goal.loop-passed-preserved
loop-passed-preserved c =
    let last = length c.args.frames.now - 1 - c.loop-passed.passed in
    λ spare. c.loop-passed.invariant (last_passed c.args.frames.now c.args.number (length c.args.frames.now - (c.loop-passed.passed + 1)) (length c.args.frames.now - c.loop-passed.passed) last c.index-frames-frames.result
    (omega arith)
    (omega arith)
    (omega arith)
    c.index-frames-frames.is
    (sym c.in-Passes.ensures.reach)
    spare)
