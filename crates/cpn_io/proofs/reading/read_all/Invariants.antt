-- What was read is what the source lost, it is at most one byte longer than a document may be, and each turn
-- adds to it.
use Rattle.std.proofs.Common.{◌+◌, ◌-◌, ◌≤◌, vec_len}
use Rattle.std.specs.Io.KnownBytes.{Consumes}
use Rattle.cpn_io.specs.declared.reading.TheConstants.{MOST_BYTES}
use Rattle.cpn_io.proofs.reading.read_all.Given as goal

abbrev pub invariant-loop-buffer : goal.invariant-loop-buffer
invariant-loop-buffer g l = record {
  taken : Consumes (g.S.Source.left l.initial.source) (g.S.Source.left l.source) l.bytes.items;
  short : vec_len l.bytes ≤ MOST_BYTES + 1;
  later : g.S.Source.faults l.initial.source ≤ g.S.Source.faults l.source;
}

abbrev pub decreases-loop-buffer : goal.decreases-loop-buffer
decreases-loop-buffer g l = MOST_BYTES + 1 - vec_len l.bytes
