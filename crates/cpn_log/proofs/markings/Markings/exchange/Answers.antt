-- What is taken leaves the room.
use Rattle.std.proofs.Common.{length, sym, ap, subst, ◌∙◌}
use Rattle.cpn_definitions.specs.Occurrence.{subtract, threshold}
use Rattle.cpn_tmset.specs.Limits.{HaveRoomFor}
use Rattle.cpn_log.specs.MarkingViews.{settled_in}
use Rattle.cpn_log.proofs.CopiedTokens.{room_subtracted}
use Rattle.cpn_log.proofs.markings.Markings.exchange.Goals as goal

pub add_made-requires : goal.add_made-requires
add_made-requires c =
    let left = c.in_ok-stamps.ensures.subtracted ∙ ap (subtract (threshold c.args.time) c.args.needs.now) (sym c.requires.one) in
    record { room = subst (HaveRoomFor (length c.args.outputs)) (sym left) (room_subtracted c.args.time c.args.needs.now (length c.args.outputs) (settled_in c.args.self.now) c.requires.room) }
