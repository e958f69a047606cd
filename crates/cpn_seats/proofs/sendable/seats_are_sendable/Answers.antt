use denote.Param.Send.{param_send, param_sync, arg_send, arg_sync}
use Rattle.cpn_seats.proofs.SendableSeats.{seat_send, desk_send, desk_sync}
use Rattle.cpn_seats.proofs.sendable.seats_are_sendable.Goals as goal

pub is_sendable-requires-send-T : goal.is_sendable-requires-send-T
is_sendable-requires-send-T c κs = search (seat_send, param_send, arg_send) depth 10

pub is_sendable-requires-2-send-T : goal.is_sendable-requires-2-send-T
is_sendable-requires-2-send-T c κs = search (desk_send, param_send, arg_send) depth 10

pub is_shareable-requires-sync-T : goal.is_shareable-requires-sync-T
is_shareable-requires-sync-T c κs = search (desk_sync, param_sync, arg_sync) depth 10
