-- What is taken leaves the room.
use Rattle.std.proofs.Common.{length, sym, subst}
use Rattle.cpn_tmset.specs.Limits.{HaveRoomFor}
use Rattle.cpn_runs.specs.HoleRun.{added}
use Rattle.cpn_log.specs.ClaimViews.{status_view}
use Rattle.cpn_log.specs.declared.claims.Course.{Course}
use Rattle.cpn_log.proofs.CopiedTokens.{room_subtracted}
use Rattle.cpn_log.proofs.claims.Claim.happen.Goals as goal

pub add_copies-requires : goal.add_copies-requires
add_copies-requires c =
    let room = subst (λ (course : Course). HaveRoomFor (length (added (status_view course))) c.args.marking.now) c.in-Done.is c.requires.room in
    record { room = subst (HaveRoomFor (length c.in-Done.outputs)) (sym c.subtract.ensures.subtracted) (room_subtracted c.args.self.now.head.time c.args.self.now.needs (length c.in-Done.outputs) c.args.marking.now room) }
