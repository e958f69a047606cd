-- The look-up of a symbol by its spelling.
use Rattle.std.specs.Prelude.{ℕ, List, Option}
use Rattle.std.specs.List.{find}
use Rattle.std.specs.Str.{bytes_eq}
use Rattle.cpn_lex.specs.declared.symbols.Symbol.{Symbol}
use Rattle.cpn_lex.specs.Symbols.{spelling}

-- the symbol among these that the bytes spell
unfoldable pub symbol_in : List Symbol → List ℕ → Option Symbol
symbol_in symbols bytes = find (λ s. bytes_eq (spelling s) bytes) symbols
