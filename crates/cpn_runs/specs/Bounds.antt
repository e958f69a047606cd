-- How long a run may be, and how many tokens it may start with and leave. Source: own choice.
use Rattle.std.specs.Prelude.{ℕ, ◌+◌, ◌*◌, ◌^◌, List}
use Rattle.cpn_definitions.specs.Bounds.{most_made, IsBounded, IsInTime}
use Rattle.cpn_definitions.specs.Marking.{Marking}
use Rattle.cpn_definitions.specs.Net.{Coloured}
use Rattle.cpn_definitions.specs.Sound.{IsMarking}

-- the most claims that the limits of a run may allow
abbrev pub most_steps : ℕ
most_steps = 1000000

-- the most tokens on each place from which a run may start
abbrev pub most_at_start : ℕ
most_at_start = 2 ^ 47

-- the most tokens on each place after so many claims: a claim adds at most so many
abbrev pub most_after : ℕ → ℕ
most_after claims = most_at_start + claims * most_made

-- Grown: a marking within the bounds of what so many occurrences leave of another. Where that one is a marking of the places, so is this
-- one; where it has at most so many tokens on each place, this one has at most as many more as the occurrences may make; and where none of its
-- tokens is later than the last stamp, none of this one's is.
pub record HasGrown (places : List Coloured) (start : Marking) (occurrences : ℕ) (m : Marking) : Type 0 where
  pub marking : IsMarking places start → IsMarking places m
  pub few : (number : ℕ) → IsBounded number start → IsBounded (number + occurrences * most_made) m
  pub in_time : IsInTime start → IsInTime m
