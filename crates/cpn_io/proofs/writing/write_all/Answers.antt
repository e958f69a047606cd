-- A piece more is appended: the bytes up to `done` and the piece are the bytes up to where it ends.
use Rattle.std.proofs.Common.{arith, ap, length, length-drop}
use Rattle.std.proofs.lemmas.List.{take_rest}
use Rattle.cpn_io.proofs.Pieces.{Appends-pieces}
use Rattle.cpn_io.proofs.writing.write_all.Goals as goal

pub loop-done-preserved : goal.loop-done-preserved
loop-done-preserved g c =
    let took = c.in-Took.ensures.bytes in
    record {
      in_range = omega (arith, took.1, ap length (take_rest c.args.bytes.now c.loop-done.done), length-drop c.loop-done.done c.args.bytes.now);
      taken = Appends-pieces _ _ _ _ _ _ _ (take_rest c.args.bytes.now c.loop-done.done) c.loop-done.invariant.taken took.2;
      later = omega (arith, c.in-Took.ensures.later, c.loop-done.invariant.later);
    }
