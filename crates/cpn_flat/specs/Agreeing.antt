-- The initial markings of further members of a compound place, held against the tokens that it has.
use Rattle.std.specs.Prelude.{◌≡◌, List, Contains, All}
use Rattle.cpn_definitions.specs.Marking.{Tokens}
use Rattle.cpn_definitions.specs.Net.{Coloured}
use Rattle.cpn_definitions.specs.Terms.{PlainTerm}
use Rattle.cpn_flat.specs.InitialMarking.{tokens_of}
use Rattle.cpn_flat.specs.Refusals.{initial_differs, Reading, read, refused}

-- a compound place whose members differ
abbrev pub differing : Coloured → Reading Tokens
differing place = refused (initial_differs place.name)

-- all of them have the same tokens, or one has others
abbrev pub Agree : Coloured → Tokens → List (List PlainTerm) → Reading Tokens → Type 0
Agree place shared others (read tokens) = (tokens ≡ shared) × All (λ other. tokens_of place.colour.timed other ≡ shared) others
Agree place shared others (refused refusal) = (refused refusal ≡ differing place) × ((other : List PlainTerm) × Contains others other × (tokens_of place.colour.timed other ≡ shared → ⊥))
