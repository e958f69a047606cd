-- A call of a seat is made in a state: what is seen after it leads to one, and the journal at which it was made is a first part of that.
use Rattle.cpn_seats.specs.CallStates.{CallsAreMadeInAState}
use Rattle.cpn_seats.proofs.StillHeld.{at_call}

pub calls_are_made_in_a_state : CallsAreMadeInAState
calls_are_made_in_a_state numbers own old new call = at_call numbers own old new call.state call call.reached
