use Rattle.std.proofs.Common.{arith}
use Rattle.cpn_seats.proofs.Keeping.{serves_more_as}
use Rattle.cpn_seats.proofs.seats.SeatDesk.serve_more.Goals as goal

pub fetch_add-served-requires : goal.fetch_add-served-requires
fetch_add-served-requires c =
    let words = c.args.self.now.words in
    (c.requires.own, omega arith, serves_more_as _ _ _ _ c.args.number c.requires.put_back)
