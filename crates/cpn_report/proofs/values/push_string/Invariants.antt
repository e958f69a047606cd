-- The bytes so far are written, and those that are left are printable.
use Rattle.std.proofs.Common.{◌≡◌, ◌++◌, true, drop}
use Rattle.std.specs.List.{list_all, flat_map}
use Rattle.std.specs.String.{string_bytes}
use Rattle.cpn_definitions.specs.Colour.{is_printable}
use Rattle.cpn_report.specs.ValueText.{byte_text}
use Rattle.cpn_report.proofs.values.push_string.Given as goal

abbrev pub invariant-loop-byte : goal.invariant-loop-byte
invariant-loop-byte l = record {
  printable : list_all is_printable (drop l.byte-index l.bytes) ≡ true;
  written : string_bytes l.out ++ flat_map byte_text (drop l.byte-index l.bytes) ≡ string_bytes l.initial.out ++ flat_map byte_text l.bytes;
}
