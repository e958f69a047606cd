-- What is taken leaves the room.
use Rattle.std.proofs.Common.{length, sym, ap, subst, ◌∙◌}
use Rattle.cpn_definitions.specs.Occurrence.{subtract, threshold}
use Rattle.cpn_tmset.specs.Limits.{HaveRoomFor}
use Rattle.cpn_log.proofs.CopiedTokens.{room_subtracted}
use Rattle.cpn_log.proofs.settled.Settled.change.Goals as goal

pub add_copies-requires : goal.add_copies-requires
add_copies-requires c =
    let exchange = c.args.exchange in
    let left = c.subtract.ensures.subtracted ∙ ap (subtract (threshold exchange.time) exchange.needs) c.in_ok-next.ensures.same in
    record { room = subst (HaveRoomFor (length exchange.outputs)) (sym left) (room_subtracted exchange.time exchange.needs (length exchange.outputs) c.args.self.now c.requires.room) }
