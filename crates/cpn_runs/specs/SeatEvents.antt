-- Seat numbers, and the events that are theirs. Source: own choice.
use Rattle.std.specs.Prelude.{◌≡◌, ◌≢◌, ℕ, ◌==◌, Bool, true, false, List, [], filter}
use Rattle.std.specs.List.{list_any}
use Rattle.cpn_runs.specs.State.{PlainEvent, claim_made, claim_completed, clock_moved, cut_made}

-- the number is one of these
abbrev pub is_among : ℕ → List ℕ → Bool
is_among number numbers = list_any (λ n. n == number) numbers

-- a claim or a completion of a seat
abbrev pub is_by : ℕ → PlainEvent → Bool
is_by seat (claim_made s number) = s == seat
is_by seat (claim_completed s number) = s == seat
is_by seat (clock_moved time) = false
is_by seat (cut_made number) = false

-- the claims and completions of a seat, in order
abbrev pub events_by : ℕ → List PlainEvent → List PlainEvent
events_by seat events = filter (is_by seat) events

-- no claim or completion is by one of these seats
abbrev pub NoneBy : List ℕ → List PlainEvent → Type 0
NoneBy seats events = (seat : ℕ) → is_among seat seats ≡ true → events_by seat events ≡ []

-- every claim and completion is by this seat
abbrev pub AllBy : ℕ → List PlainEvent → Type 0
AllBy seat events = (other : ℕ) → other ≢ seat → events_by other events ≡ []
