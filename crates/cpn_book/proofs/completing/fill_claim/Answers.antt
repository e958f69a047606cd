-- The claim is open and its outputs fit, so the log takes them; and the run is told with the claim done.
use Rattle.std.proofs.Common.{◌≡◌, [], ◌∷◌, ◌++◌, length, map, refl, ap, ◌∙◌, arith}
use Rattle.cpn_runs.specs.FinishedViews.{setup_view}
use Rattle.cpn_runs.specs.State.{claim_completed}
use Rattle.cpn_runs.specs.Views.{event_view}
use Rattle.cpn_runs.specs.declared.events.Event.TheVariants as events
use Rattle.cpn_book.specs.Tickets.{evaluated_job}
use Rattle.cpn_book.proofs.CommittedStandings.{still_at}
use Rattle.cpn_book.proofs.FilledStandings.{IsBrought, outputs_fit, only_now, filled_may_commit}
use Rattle.cpn_book.proofs.HeldJobs.{held_known, open_in_log}
use Rattle.cpn_book.proofs.completing.fill_claim.Goals as goal
use Rattle.cpn_definitions.proofs.ListItems.{map_more}

pub complete_in-requires : goal.complete_in-requires
complete_in-requires c =
    let s = setup_view c.args.setup.now in
    let old = c.args.standing.now in
    let brought : IsBrought s old c.args.seat c.args.done.number (evaluated_job c.args.done) c.args.done.result = record { held = c.requires.held; job_is = c.requires.job; tells = c.args.done.tells } in
    record {
      kept = c.requires.at.at.told.kept;
      «open» = open_in_log s old c.requires.at c.args.seat c.args.done.number c.requires.held;
      few = λ outputs gave. (outputs_fit s old c.requires.at c.args.seat c.args.done.number (evaluated_job c.args.done) c.args.done.result brought outputs c.requires.playable gave).0;
      on_places = λ outputs gave. (outputs_fit s old c.requires.at c.args.seat c.args.done.number (evaluated_job c.args.done) c.args.done.result brought outputs c.requires.playable gave).1;
    }

pub returns-in_err-complete_in-clause-only_given_back : goal.returns-in_err-complete_in-clause-only_given_back
returns-in_err-complete_in-clause-only_given_back c =
    only_now (setup_view c.args.setup.now) c.args.standing.now c.requires.at c.args.seat c.args.done.number (evaluated_job c.args.done) c.args.done.result (record { held = c.requires.held; job_is = c.requires.job; tells = c.args.done.tells })

pub index_mut-requires : goal.index_mut-requires
index_mut-requires c =
    let known = held_known (setup_view c.args.setup.now) c.args.standing.now c.requires.at c.args.seat c.args.done.number c.requires.held in
    let long : length c.args.standing.now.held.items ≡ (setup_view c.args.setup.now).limits.seats = c.requires.at.at.told.holds.each in
    omega (arith, known, long)

pub returns-clause-only_given_back : goal.returns-clause-only_given_back
returns-clause-only_given_back c =
    only_now (setup_view c.args.setup.now) c.args.standing.now c.requires.at c.args.seat c.args.done.number (evaluated_job c.args.done) c.args.done.result (record { held = c.requires.held; job_is = c.requires.job; tells = c.args.done.tells })

pub returns-clause-may : goal.returns-clause-may
returns-clause-may c =
    let s = setup_view c.args.setup.now in
    let old = c.args.standing.now in
    let events_more : map event_view c.push_reserved.new.self.items ≡ map event_view old.journal.items ++ claim_completed c.args.seat c.args.done.number ∷ [] =
    ap (map event_view) c.push_reserved.ensures.items ∙ map_more event_view old.journal.items (events.Done c.args.seat c.args.done.number) in
    filled_may_commit s old c.requires.at c.args.seat c.args.done.number (evaluated_job c.args.done) c.args.done.result (record { held = c.requires.held; job_is = c.requires.job; tells = c.args.done.tells })
    _ c.in_ok-complete_in.ensures.done c.complete_in.ensures.jobs c.complete_in.ensures.committed c.complete_in.ensures.settled c.in_ok-complete_in.ensures.kept refl events_more refl

pub returns-clause-committed : goal.returns-clause-committed
returns-clause-committed c =
    let s = setup_view c.args.setup.now in
    let old = c.args.standing.now in
    still_at s old _ c.requires.at.at c.complete_in.ensures.committed c.complete_in.ensures.settled refl

pub returns-in_err-complete_in-clause-committed : goal.returns-in_err-complete_in-clause-committed
returns-in_err-complete_in-clause-committed c = still_at (setup_view c.args.setup.now) c.args.standing.now _ c.requires.at.at c.complete_in.ensures.committed c.complete_in.ensures.settled refl
