-- Seats, their desk and the handles of workers may cross threads, whole (`IsSend`) and, but for seats, shared (`IsSync`).
use denote.RattleType.{RattleType}
use denote.Ref.{NamedLft}
use denote.Param.Send.{IsSend, IsSync, sendable}
use denote.Param.SendFields.{declared_send, declared_sync, as_row_send, as_row_sync}
use Rattle.std.proofs.Crossing as std
use Rattle.std.proofs.option.Option.TheSendSync as options
use Rattle.std.specs.contracts.option.Option as option
use Rattle.std.specs.contracts.alloc.Global as heap
use Rattle.std.specs.contracts.impls.GlobalAllocator.TheImpl as heap_impl
use Rattle.std.specs.contracts.snapshot.Snapshot as snapshot
use Rattle.atomic_table.proofs.shared.Seat.TheSendSync as tokens
use Rattle.atomic_table.specs.contracts.shared.Seat as token
use Rattle.atomic_table.proofs.owned.Table.TheSendSync as tables
use Rattle.atomic_table.specs.contracts.owned.Table as table
use Rattle.cpn_book.specs.contracts.books.Book as book
use Rattle.cpn_book.proofs.SendableBooks.{book_send}
use Rattle.cpn_seats.specs.contracts.views.View as view
use Rattle.cpn_seats.specs.contracts.views.TurnRule as rule
use Rattle.cpn_seats.specs.contracts.views.TurnRuleTableRuleSlotViewSnapshotBook.TheImpl as rule_impl
use Rattle.cpn_seats.specs.contracts.seats.Seat as seat
use Rattle.cpn_seats.specs.contracts.seats.SeatDesk as desk
use Rattle.cpn_seats.specs.contracts.handles.SeatHandle as handle

pub seat_send : IsSend seat.the_row
seat_send = declared_send seat.the_type (
  as_row_send (token.the_field (option.the_row book.the_row) view.the_row) (tokens.the_send (option.the_row book.the_row) view.the_row (options.the_send book.the_row book_send)),
  (search sendable depth 20, (search sendable depth 20, tt)),
)

pub desk_send : IsSend desk.the_row
desk_send = declared_send desk.the_type (
  std.send,
  (
    as_row_send
        (table.the_field (option.the_row book.the_row) view.the_row (snapshot.the_row book.the_row) rule.the_row heap.the_row rule_impl.ghosts heap_impl.ghosts)
        (tables.the_field_send (option.the_row book.the_row) view.the_row (snapshot.the_row book.the_row) rule.the_row heap.the_row rule_impl.ghosts heap_impl.ghosts (options.the_send book.the_row book_send) std.send std.frees),
    tt,
  ),
)

pub desk_sync : IsSync desk.the_row
desk_sync = declared_sync desk.the_type (
  std.sync,
  (
    as_row_sync
        (table.the_field (option.the_row book.the_row) view.the_row (snapshot.the_row book.the_row) rule.the_row heap.the_row rule_impl.ghosts heap_impl.ghosts)
        (tables.the_field_sync (option.the_row book.the_row) view.the_row (snapshot.the_row book.the_row) rule.the_row heap.the_row rule_impl.ghosts heap_impl.ghosts (options.the_send book.the_row book_send) std.send std.sync std.frees),
    tt,
  ),
)

pub handle_send : (κ : NamedLft) (R : RattleType) → IsSync R → IsSend (handle.the_row κ R)
handle_send κ R shared = declared_send (handle.the_type κ R) (search (shared, sendable) depth 20, (search (desk_sync, sendable) depth 20, (seat_send, tt)))
