-- A committed claim is done; one behind stands as it does.
use Rattle.std.proofs.Common.{Some, sym, ap, ◌∙◌, arith}
use Rattle.cpn_log.proofs.LogParts.{at_place, committed_is, made_is, stands_committed, stands_behind}
use Rattle.cpn_log.proofs.logs.Log.state.Goals as goal

pub returns-then-number-committed : goal.returns-then-number-committed
returns-then-number-committed c = let log = c.args.self.now in let committed = committed_is log in stands_committed log c.args.number (omega (arith, committed, c.committed.ensures, c.if-number-committed.true))

pub returns : goal.returns
returns c =
    let log = c.args.self.now in
    let made = made_is log in
    let committed = committed_is log in
    let place = c.position.ensures in
    let low = c.if-number-committed.false in
    stands_behind log c.args.number c.position.result c.index.result.now (omega (arith, committed, place, low, c.committed.ensures)) (at_place log.claims.items c.position.result c.index.result.now (omega (arith, made, committed, place, c.requires.within)) c.index.ensures)
    ∙ ap Some (sym c.state.ensures)
