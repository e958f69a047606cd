use denote.Param.Send.{param_send, param_sync, arg_send, arg_sync}
use Rattle.cpn_runs.proofs.SendableRuns.{setup_send, setup_sync}
use Rattle.cpn_runs.proofs.sendable.setups_are_sendable.Goals as goal

pub is_sendable-requires-send-T : goal.is_sendable-requires-send-T
is_sendable-requires-send-T c κs = search (setup_send, param_send, arg_send) depth 10

pub is_sendable-requires-sync-T : goal.is_sendable-requires-sync-T
is_sendable-requires-sync-T c κs = search (setup_sync, param_sync, arg_sync) depth 10
