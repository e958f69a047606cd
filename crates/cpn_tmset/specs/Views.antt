-- The plain tokens that those of the program stand for.
use Rattle.std.specs.Prelude.{ℕ, List, map}
use Rattle.cpn_definitions.specs.Marking.{Tokens}
use Rattle.cpn_core.specs.Views.{value_view}
use Rattle.cpn_core.specs.declared.values.Value.{Value}
use Rattle.cpn_tmset.specs.TMSets.{Entries, tokens_in}

-- entries of the program, each value as the plain one
abbrev pub entries_view : List (Value × List ℕ) → Entries
entries_view es = map (λ e. (value_view e.0, e.1)) es

abbrev pub tokens_view : List (Value × List ℕ) → Tokens
tokens_view es = tokens_in (entries_view es)
