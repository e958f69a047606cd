-- The claim at the position has the course, and all else stays.
use Rattle.std.proofs.Common.{ap, arith}
use Rattle.std.proofs.Math.Seq.{map-set_same}
use Rattle.cpn_log.specs.ClaimViews.{taken_view}
use Rattle.cpn_log.specs.declared.claims.Claim.{Claim}
use Rattle.cpn_log.proofs.LogParts.{at_place, behind_is, course_at}
use Rattle.cpn_log.proofs.logs.Log.complete.Goals as goal

pub index_mut-claim-requires : goal.index_mut-claim-requires
index_mut-claim-requires c = let behind = behind_is c.args.self.now in let long = c.args.self.now.claims.ok in omega (arith, behind, c.requires.within, long.0)

pub returns-clause-completed : goal.returns-clause-completed
returns-clause-completed c =
    let items = c.args.self.now.claims.items in
    let claim = c.index_mut-claim.result.now in
    let behind = behind_is c.args.self.now in
    course_at c.args.course c.args.position items claim (at_place items c.args.position claim (omega (arith, behind, c.requires.within)) c.index_mut-claim.ensures.value)

pub returns-clause-jobs : goal.returns-clause-jobs
returns-clause-jobs c =
    let claim = c.index_mut-claim.result.now in
    map-set_same (λ (d : Claim). d.job.value) c.args.self.now.claims.items c.args.position (record claim { course = c.args.course }) claim (ap (λ (d : Claim). d.job.value) c.index_mut-claim.ensures.value)

pub returns-clause-picks : goal.returns-clause-picks
returns-clause-picks c =
    let claim = c.index_mut-claim.result.now in
    map-set_same taken_view c.args.self.now.claims.items c.args.position (record claim { course = c.args.course }) claim (ap taken_view c.index_mut-claim.ensures.value)
