-- Where memory runs out, the bytes taken are those kept and the piece that was read last.
use Rattle.std.proofs.Common.{◌+◌, ◌++◌, ◌≤◌, length, take, arith, length-append, length-take}
use Rattle.std.proofs.KnownBytes.{Consumes-trans}
use Rattle.cpn_io.specs.declared.reading.TheConstants.{MOST_BYTES}
use Rattle.cpn_io.proofs.Pieces.{nothing_left}
use Rattle.cpn_io.proofs.reading.read_all.Goals as goal

pub returns-in_err-extend_from_slice-in-Bytes-clause-no_further :
    goal.returns-in_err-extend_from_slice-in-Bytes-clause-no_further
returns-in_err-extend_from_slice-in-Bytes-clause-no_further g c =
    let got = c.in-Bytes.ensures.bytes in
    let kept = c.loop-buffer.bytes.items in
    let piece = take c.in-Bytes.count c.read.new.buf in
    let short : length (kept ++ piece) ≤ MOST_BYTES + 1 =
    omega (arith, got.1, length-append kept piece, length-take c.in-Bytes.count c.read.new.buf, length-take c.min-room.result c.loop-buffer.buffer, c.loop-buffer.bytes.ok) in
    (kept ++ piece, short, Consumes-trans _ _ _ _ _ c.loop-buffer.invariant.taken got.2)

pub returns-in-End-clause-end : goal.returns-in-End-clause-end
returns-in-End-clause-end g c =
    let end = c.in-End.ensures.bytes in
    nothing_left _ _ _ _ c.loop-buffer.invariant.taken end.0 end.1
