-- What needs leave of a marking. Source: the timed subtraction of Jensen and Kristensen, chapter 11.
use Rattle.std.specs.Prelude.{◌≡◌, ℕ, List}
use Rattle.cpn_definitions.specs.Value.{PlainValue}
use Rattle.cpn_definitions.specs.Marking.{Marking, tokens_at, stamps, less}
use Rattle.cpn_definitions.specs.Occurrence.{Needed, threshold, thresholds}

-- a need for a value on a place, without an offset
abbrev pub need_for : ℕ → PlainValue → Needed
need_for p v = record { place = p; value = v; offset = 0 }

-- Subtracted: of each value on each place are left the stamps that it had there less the thresholds of all the needs for that
-- value on that place, which are taken in increasing order.
abbrev pub IsSubtracted : ℕ → List Needed → Marking → Marking → Type 0
IsSubtracted time needs old new = (p : ℕ) (v : PlainValue) → stamps v (tokens_at new p) ≡ less (stamps v (tokens_at old p)) (thresholds (threshold time) (need_for p v) needs)
