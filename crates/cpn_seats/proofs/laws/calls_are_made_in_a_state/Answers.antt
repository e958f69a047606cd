use Rattle.cpn_seats.proofs.CallStates.{calls_are_made_in_a_state}
use Rattle.cpn_seats.proofs.laws.calls_are_made_in_a_state.Goals as goal

pub returns : goal.returns
returns c = record { states = calls_are_made_in_a_state }
