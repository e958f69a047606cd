use denote.Param.Send.{param_send, param_sync, arg_send}
use Rattle.cpn_seats.proofs.SendableSeats.{handle_send}
use Rattle.cpn_seats.proofs.sendable.handles_are_sendable.Goals as goal

pub is_sendable-requires-send-T : goal.is_sendable-requires-send-T
is_sendable-requires-send-T c κs = search (handle_send, param_send, param_sync, arg_send) depth 10
