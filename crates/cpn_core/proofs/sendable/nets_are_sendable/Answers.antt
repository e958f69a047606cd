use denote.Param.Send.{param_send, param_sync, arg_send, arg_sync}
use Rattle.cpn_core.proofs.SendableNets.{arc_send, arc_sync, net_send, net_sync}
use Rattle.cpn_core.proofs.sendable.nets_are_sendable.Goals as goal

pub is_sendable-requires-send-T : goal.is_sendable-requires-send-T
is_sendable-requires-send-T c κs = search (arc_send, param_send, arg_send) depth 10

pub is_sendable-requires-sync-T : goal.is_sendable-requires-sync-T
is_sendable-requires-sync-T c κs = search (arc_sync, param_sync, arg_sync) depth 10

pub is_sendable-requires-2-send-T : goal.is_sendable-requires-2-send-T
is_sendable-requires-2-send-T c κs = search (net_send, param_send, arg_send) depth 10

pub is_sendable-requires-2-sync-T : goal.is_sendable-requires-2-sync-T
is_sendable-requires-2-sync-T c κs = search (net_sync, param_sync, arg_sync) depth 10
