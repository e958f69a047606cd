-- The bytes of a name are ASCII, so they are text.
use Rattle.std.proofs.Common.{◌≡◌, ℕ, zero, suc, ◌<◌, true, List, [], ◌∷◌, arith, lit<}
use Rattle.std.proofs.lemmas.Str.{IsUtf8-from_ascii}
use Rattle.std.proofs.lemmas.Bool.Decides.{nat_tests}
use Rattle.std.specs.List.{list_all}
use Rattle.std.specs.Str.{IsAscii}
use Rattle.std.proofs.lemmas.Bool.{and_parts}
use Rattle.cpn_lex.specs.Lexis.{is_name_byte}
use Rattle.cpn_lex.proofs.names.name_text.Goals as goal

name_byte_is_ascii : (byte : ℕ) → is_name_byte byte ≡ true → byte < 128
name_byte_is_ascii byte h = grind (arith, nat_tests)

name_is_ascii : (bytes : List ℕ) → list_all is_name_byte bytes ≡ true → IsAscii bytes
name_is_ascii [] h i = lit< tt
name_is_ascii (byte ∷ bytes) h zero = name_byte_is_ascii byte (and_parts (is_name_byte byte) (list_all is_name_byte bytes) h).0
name_is_ascii (byte ∷ bytes) h (suc i) = name_is_ascii bytes (and_parts (is_name_byte byte) (list_all is_name_byte bytes) h).1 i

pub unreachable-requires : goal.unreachable-requires
unreachable-requires c = c.in-Err.ensures.cases.0 (IsUtf8-from_ascii c.args.name.now (name_is_ascii c.args.name.now c.requires))
