-- What is committed stands while a claim is drawn and made.
use Rattle.std.proofs.Common.{ap, ◌∙◌}
use Rattle.cpn_due.specs.Due.{plain_enabled}
use Rattle.cpn_log.specs.Logs.{claims_made}
use Rattle.cpn_log.specs.LogViews.{log_view}
use Rattle.cpn_runs.specs.FinishedViews.{setup_view}
use Rattle.cpn_book.specs.Standings.{occurrences_in}
use Rattle.cpn_book.specs.declared.standings.Standing.{Standing}
use Rattle.cpn_book.proofs.CommittedStandings.{still_at}
use Rattle.cpn_book.proofs.DrawnClaims.{drawn_as}
use Rattle.cpn_book.proofs.claiming.open_claim.Goals as goal

pub returns-in_err-ticket-clause-committed : goal.returns-in_err-ticket-clause-committed
returns-in_err-ticket-clause-committed c =
    let new = c.draw_claim.new.standing in
    let same = c.draw_claim.ensures.same in
    still_at (setup_view c.args.setup.now) c.args.standing.now new c.requires.at.at
    (ap (λ (s : Standing). (log_view s.log).committed) same) (ap (λ (s : Standing). (log_view s.log).settled) same) (ap occurrences_in same)

pub returns-in_err-job-clause-committed : goal.returns-in_err-job-clause-committed
returns-in_err-job-clause-committed c =
    let new = c.draw_claim.new.standing in
    let same = c.draw_claim.ensures.same in
    still_at (setup_view c.args.setup.now) c.args.standing.now new c.requires.at.at
    (ap (λ (s : Standing). (log_view s.log).committed) same) (ap (λ (s : Standing). (log_view s.log).settled) same) (ap occurrences_in same)

pub returns-in_err-needs-clause-committed : goal.returns-in_err-needs-clause-committed
returns-in_err-needs-clause-committed c =
    let new = c.draw_claim.new.standing in
    let same = c.draw_claim.ensures.same in
    still_at (setup_view c.args.setup.now) c.args.standing.now new c.requires.at.at
    (ap (λ (s : Standing). (log_view s.log).committed) same) (ap (λ (s : Standing). (log_view s.log).settled) same) (ap occurrences_in same)

pub make_claim-requires-clause-drawn : goal.make_claim-requires-clause-drawn
make_claim-requires-clause-drawn c =
    drawn_as _ _ _ _ _ _ _ _ c.number-number.ensures.number c.in_ok-job.ensures.job c.in_ok-needs.ensures.copied (c.in_ok-ticket.ensures.drawn (plain_enabled c.ready.result.now) c.ready.ensures.element)

pub returns-clause-number : goal.returns-clause-number
returns-clause-number c =
    (c.in_ok-ticket.ensures.drawn (plain_enabled c.ready.result.now) c.ready.ensures.element).number_is ∙ ap (λ (s : Standing). claims_made (log_view s.log)) c.draw_claim.ensures.same
