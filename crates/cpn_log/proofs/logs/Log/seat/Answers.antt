-- The seat of the claim at the place.
use Rattle.std.proofs.Common.{arith}
use Rattle.cpn_log.proofs.LogParts.{at_place, committed_is, made_is, seat_committed, seat_behind}
use Rattle.cpn_log.proofs.logs.Log.seat.Goals as goal

pub returns-then-number-committed : goal.returns-then-number-committed
returns-then-number-committed c =
    let log = c.args.self.now in
    let committed = committed_is log in
    seat_committed log c.args.number c.index.result.now (at_place log.heads.items c.args.number c.index.result.now (omega (arith, committed, c.committed.ensures, c.if-number-committed.true)) c.index.ensures)

pub returns : goal.returns
returns c =
    let log = c.args.self.now in
    let made = made_is log in
    let committed = committed_is log in
    let place = c.position.ensures in
    let low = c.if-number-committed.false in
    seat_behind log c.args.number c.position.result c.index-2.result.now (omega (arith, committed, place, low, c.committed.ensures)) (at_place log.claims.items c.position.result c.index-2.result.now (omega (arith, made, committed, place, c.requires.within)) c.index-2.ensures)
