-- The string is read up to here.
use Rattle.std.proofs.Common.{◌-◌, length, string_bytes}
use Rattle.cpn_lex.proofs.StringPieces.{IsInside}
use Rattle.cpn_lex.proofs.strings.string_front.Given as goal

abbrev pub invariant-inside : goal.invariant-inside
invariant-inside l = IsInside l.at l.text l.read (string_bytes l.meant)

abbrev pub decreases-inside : goal.decreases-inside
decreases-inside l = length l.text - l.read
