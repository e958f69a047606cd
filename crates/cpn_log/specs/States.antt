-- How a claim stands, as the log answers it.
use Rattle.cpn_core.specs.Faults.{fault_view}
use Rattle.cpn_log.specs.Logs.{PlainClaimState, stands_open, stands_done, stands_failed}
use Rattle.cpn_log.specs.declared.states.ClaimState.{ClaimState}
use Rattle.cpn_log.specs.declared.states.ClaimState.TheVariants as states

abbrev pub state_view : ClaimState → PlainClaimState
state_view states.Open = stands_open
state_view states.Done = stands_done
state_view (states.Failed fault) = stands_failed (fault_view fault)
