-- The bytes so far are written; with the rest they are all.
use Rattle.std.proofs.Common.{◌≡◌, ◌++◌, map, drop}
use Rattle.std.specs.String.{string_bytes}
use Rattle.cpn_report.specs.Lines.{shown_byte}
use Rattle.cpn_report.proofs.probes.push_shown.Given as goal

abbrev pub invariant-loop-byte : goal.invariant-loop-byte
invariant-loop-byte l = string_bytes l.out ++ map shown_byte (drop l.byte-index l.bytes) ≡ string_bytes l.initial.out ++ map shown_byte l.bytes
