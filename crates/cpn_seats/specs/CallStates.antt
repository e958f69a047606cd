-- The law that a call of a seat is made in a state. Source: own choice.
use Rattle.std.specs.Prelude.{ℕ, List}
use Rattle.cpn_runs.specs.State.{PlainState, PlainEvent, IsState}
use Rattle.cpn_book.specs.Seen.{Seen, SeesCall}

-- The journal at which a call was made leads to a state. So what a call's answer says of each such state it says of one.
abbrev pub CallsAreMadeInAState : Type 0
CallsAreMadeInAState = (numbers : List ℕ) (own : List PlainEvent) (old new : Seen) (call : SeesCall numbers own old new) → (state : PlainState) × IsState old.setup call.at state
