use denote.Param.Send.{param_send, param_sync, arg_send, arg_sync}
use Rattle.cpn_book.proofs.SendableBooks.{ticket_send, ticket_sync, evaluated_send, evaluated_sync, book_send, book_sync}
use Rattle.cpn_book.proofs.sendable.books_are_sendable.Goals as goal

pub is_sendable-requires-send-T : goal.is_sendable-requires-send-T
is_sendable-requires-send-T c κs = search (ticket_send, param_send, arg_send) depth 10

pub is_sendable-requires-sync-T : goal.is_sendable-requires-sync-T
is_sendable-requires-sync-T c κs = search (ticket_sync, param_sync, arg_sync) depth 10

pub is_sendable-requires-2-send-T : goal.is_sendable-requires-2-send-T
is_sendable-requires-2-send-T c κs = search (evaluated_send, param_send, arg_send) depth 10

pub is_sendable-requires-2-sync-T : goal.is_sendable-requires-2-sync-T
is_sendable-requires-2-sync-T c κs = search (evaluated_sync, param_sync, arg_sync) depth 10

pub is_sendable-requires-3-send-T : goal.is_sendable-requires-3-send-T
is_sendable-requires-3-send-T c κs = search (book_send, param_send, arg_send) depth 10

pub is_sendable-requires-3-sync-T : goal.is_sendable-requires-3-sync-T
is_sendable-requires-3-sync-T c κs = search (book_sync, param_sync, arg_sync) depth 10
