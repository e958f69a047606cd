-- What is taken leaves the room.
use Rattle.std.proofs.Common.{length, sym, subst}
use Rattle.cpn_tmset.specs.Limits.{HaveRoomFor}
use Rattle.cpn_log.proofs.CopiedTokens.{room_subtracted}
use Rattle.cpn_log.proofs.settled.caught_up.Goals as goal

pub add_made-requires : goal.add_made-requires
add_made-requires c =
    let exchange = c.args.behind.exchange in
    record { room = subst (HaveRoomFor (length exchange.outputs)) (sym c.subtract.ensures.subtracted) (room_subtracted exchange.time exchange.needs (length exchange.outputs) c.args.behind.marking c.requires.room) }
