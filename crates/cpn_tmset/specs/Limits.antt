-- How many tokens there may be on a place. Source: own choice.
use Rattle.std.specs.Prelude.{ℕ, ◌+◌, ◌-◌, ◌<◌, ◌^◌, List, length}
use Rattle.cpn_definitions.specs.Marking.{Marking, tokens_at}

-- one more still fits: there are never 2^48 tokens
abbrev pub HasRoom : {X : Type 0} → List X → Type 0
HasRoom xs = length xs < 2 ^ 48 - 1

-- so many more still fit on each place
abbrev pub HaveRoomFor : ℕ → Marking → Type 0
HaveRoomFor number m = (p : ℕ) → length (tokens_at m p) + number < 2 ^ 48
