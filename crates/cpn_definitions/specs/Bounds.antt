-- How many tokens a place may have, and which time stamps. Source: own choice.
use Rattle.std.specs.Prelude.{◌≡◌, ℕ, ◌*◌, ◌≤◌, true, nat_le, length}
use Rattle.std.specs.List.{list_all}
use Rattle.cpn_definitions.specs.Marking.{Marking, tokens_at}
use Rattle.cpn_definitions.specs.Terms.{most_tokens}
use Rattle.cpn_definitions.specs.Times.{last_time}

-- the most tokens that one occurrence makes: as many as an inscription may have, for each of the 64 arcs of a transition
abbrev pub most_made : ℕ
most_made = 64 * most_tokens

-- the latest time stamp: the time of an occurrence, the delay of its transition and that of the token are each at most the
-- last time
abbrev pub last_stamp : ℕ
last_stamp = 3 * last_time

-- Bounded: each place has at most so many tokens.
abbrev pub IsBounded : ℕ → Marking → Type 0
IsBounded number m = (p : ℕ) → length (tokens_at m p) ≤ number

-- Stamped in time: no token has a later stamp than the latest.
abbrev pub IsInTime : Marking → Type 0
IsInTime m = (p : ℕ) → list_all (λ token. nat_le token.stamp last_stamp) (tokens_at m p) ≡ true
