-- All bytes are printable exactly where those that are left are.
use Rattle.std.proofs.Common.{◌≡◌, drop}
use Rattle.std.specs.List.{list_all}
use Rattle.cpn_definitions.specs.Colour.{is_printable}
use Rattle.cpn_core.proofs.colours.are_printable.Given as goal

abbrev pub invariant-loop-byte : goal.invariant-loop-byte
invariant-loop-byte l = list_all is_printable l.bytes ≡ list_all is_printable (drop l.byte-index l.bytes)
