-- The stamps of the tokens that needs take from a marking. Source: the timed subtraction of Jensen and Kristensen, chapter 11; which
-- stamp is taken is our own choice.
use Rattle.std.specs.Prelude.{ℕ, List, [], ◌∷◌}
use Rattle.std.specs.Option.{unwrap_or}
use Rattle.cpn_definitions.specs.Marking.{Marking, tokens_at, on_place, stamps, without_token}
use Rattle.cpn_definitions.specs.Occurrence.{Needed, threshold}
use Rattle.cpn_tmset.specs.Stamps.{latest_of}

-- the stamp of the token that a need takes at a time; where there is none to take, 0
abbrev pub stamp_taken : ℕ → Needed → Marking → ℕ
stamp_taken time need m = unwrap_or (latest_of (threshold time need) (stamps need.value (tokens_at m need.place))) 0

-- those of needs, one after another (`subtract`)
abbrev pub stamps_taken : ℕ → List Needed → Marking → List ℕ
stamps_taken time [] m = []
stamps_taken time (need ∷ needs) m = stamp_taken time need m ∷ stamps_taken time needs (on_place need.place (without_token need.value (threshold time need)) m)
