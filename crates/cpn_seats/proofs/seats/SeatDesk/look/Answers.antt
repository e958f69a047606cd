use Rattle.std.proofs.Common.{arith}
use Rattle.cpn_seats.proofs.Keeping.{looks_as}
use Rattle.cpn_seats.proofs.seats.SeatDesk.look.Goals as goal

pub load-requires : goal.load-requires
load-requires c =
    let words = c.args.self.now.words in
    let waits = c.requires.waits in
    (c.requires.own, omega arith, looks_as _ _ _ _ waits.0 waits.1 waits.2)
