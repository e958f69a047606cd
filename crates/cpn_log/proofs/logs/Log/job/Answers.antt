-- The job of the claim at the place.
use Rattle.std.proofs.Common.{arith}
use Rattle.cpn_log.proofs.LogParts.{at_place, committed_is, made_is}
use Rattle.cpn_log.proofs.JobNumbers.{job_of_claim}
use Rattle.cpn_log.proofs.logs.Log.job.Goals as goal

pub returns : goal.returns
returns c =
    let log = c.args.self.now in
    let made = made_is log in
    let committed = committed_is log in
    let place = c.position.ensures in
    job_of_claim log c.args.number c.position.result c.index.result.now (omega (arith, committed, place, c.requires.behind)) (at_place log.claims.items c.position.result c.index.result.now (omega (arith, made, committed, place, c.requires.within)) c.index.ensures)
