-- The need for a token of a term.
use Rattle.std.specs.Prelude.{ℕ}
use Rattle.cpn_definitions.specs.Terms.{PlainTerm}
use Rattle.cpn_definitions.specs.Occurrence.{Needed}

abbrev pub needed_of : ℕ → PlainTerm → Needed
needed_of place term = record { place = place; value = term.value; offset = term.delay }
