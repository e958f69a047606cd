use Rattle.std.proofs.Common.{arith}
use Rattle.cpn_seats.proofs.Keeping.{draws_as}
use Rattle.cpn_seats.proofs.seats.SeatDesk.draw.Goals as goal

pub fetch_add-requires : goal.fetch_add-requires
fetch_add-requires c =
    let words = c.args.self.now.words in
    let rest = c.requires.at_rest in
    (c.requires.own, omega arith, draws_as _ _ _ _ rest.0 rest.1 rest.2)
