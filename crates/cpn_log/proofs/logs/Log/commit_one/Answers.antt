-- The next claim hands out what it took and added where it is done; where it is not, it stays.
use Rattle.std.proofs.Common.{sym, ap, subst, ◌∙◌}
use Rattle.cpn_log.specs.Kept.{IsKept}
use Rattle.cpn_log.specs.LogViews.{log_view}
use Rattle.cpn_log.specs.MarkingViews.{settled_in, unclaimed_in}
use Rattle.cpn_log.proofs.ClaimStandings.{next_waits}
use Rattle.cpn_log.proofs.KeptLogs.{kept_next}
use Rattle.cpn_log.proofs.LogSteps.{HandsOut, next_is, seen}
use Rattle.cpn_log.proofs.logs.Log.commit_one.Goals as goal

pub returns-in_ok-settle-in-Ok-clause-kept : goal.returns-in_ok-settle-in-Ok-clause-kept
returns-in_ok-settle-in-Ok-clause-kept c =
    let log = c.args.self.now in
    let exchange = c.in-Ok.exchange in
    let rest = c.pop_front.new.self.items in
    let out : HandsOut c.in-Some.claim c.in-Ok.head exchange.needs exchange.time exchange.outputs = record { head_is = c.in-Ok.ensures.head; needs_are = c.in-Ok.ensures.needs; time_is = c.in-Ok.ensures.time; status_is = c.in-Ok.ensures.outputs } in
    let next = next_is log.heads.items log.claims.items c.in-Some.claim rest c.in-Ok.head (log_view log).settled (settled_in c.settle.new.self) (log_view log).unclaimed (unclaimed_in c.settle.new.self) exchange.needs exchange.time exchange.outputs
    c.in-Some.ensures.items out c.in_ok-settle-in-Ok.ensures.settled c.settle.ensures.unclaimed in
    subst IsKept (sym (ap (λ hs. seen hs rest (settled_in c.settle.new.self) (unclaimed_in c.settle.new.self)) c.push_reserved.ensures.items ∙ next)) (kept_next (log_view log) c.requires.kept)

pub returns-in-Err-clause-stands : goal.returns-in-Err-clause-stands
returns-in-Err-clause-stands c = next_waits c.args.self.now c.in-Some.claim c.pop_front.new.self.items c.in-Some.ensures.items c.in-Err.ensures.waits
