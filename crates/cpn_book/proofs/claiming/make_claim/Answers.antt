-- The claim that is due finds its needs, and the run stands with it.
use Rattle.std.proofs.Common.{◌≡◌, ℕ, ◌-◌, Some, List, [], ◌∷◌, ◌++◌, length, map, refl, sym, ap, ◌∙◌, slice_get, slice_set, arith}
use Rattle.std.specs.Option.{option_map}
use Rattle.std.proofs.lemmas.List.{length-map}
use Rattle.std.proofs.lemmas.Option.{slice_get-map}
use Rattle.cpn_jobs.specs.Views.{job_view}
use Rattle.cpn_log.specs.Logs.{PlainHead, head_of, opened}
use Rattle.cpn_log.proofs.JobNumbers.{job_behind}
use Rattle.cpn_log.specs.LogViews.{log_view, jobs_in}
use Rattle.cpn_runs.specs.FinishedViews.{setup_view}
use Rattle.cpn_runs.specs.State.{claim_made}
use Rattle.cpn_runs.specs.Views.{event_view}
use Rattle.cpn_runs.specs.declared.events.Event.{Event}
use Rattle.cpn_runs.specs.declared.events.Event.TheVariants as events
use Rattle.cpn_book.specs.DrawnClaims.{undrawn}
use Rattle.cpn_book.specs.Standings.{job_for}
use Rattle.cpn_book.proofs.ClaimedStandings.{claimed}
use Rattle.cpn_book.proofs.CommittedStandings.{still_at}
use Rattle.cpn_book.proofs.DrawnClaims.{drawn_now, drawn_element, drawn_in_time, drawn_covered, still_drawn}
use Rattle.cpn_tmset.specs.ChangedViews.{changes_view}
use Rattle.cpn_book.proofs.ToldChanges.{tells_more}
use Rattle.cpn_book.proofs.claiming.make_claim.Goals as goal
use Rattle.cpn_definitions.proofs.ListItems.{map_more, last_is_at}

-- the claim is noted in the journal
claim_noted : (mid old new : List Event) (seat number : ℕ) → mid ≡ old → new ≡ mid ++ events.Claim seat number ∷ [] → map event_view new ≡ map event_view old ++ claim_made seat number ∷ []
claim_noted mid old new seat number same more = ap (map event_view) (more ∙ ap (λ es. es ++ events.Claim seat number ∷ []) same) ∙ map_more event_view old (events.Claim seat number)

pub push-requires-clause-in_time : goal.push-requires-clause-in_time
push-requires-clause-in_time c = drawn_in_time (setup_view c.args.setup.now) c.args.standing.now c.args.number c.args.job.value c.args.needs c.requires.drawn c.requires.playable

pub push-requires-clause-covered : goal.push-requires-clause-covered
push-requires-clause-covered c = drawn_covered (setup_view c.args.setup.now) c.args.standing.now c.args.number c.args.job.value c.args.needs c.requires.drawn c.requires.playable

pub returns-clause-at : goal.returns-clause-at
returns-clause-at c =
    let s = setup_view c.args.setup.now in
    let old = c.args.standing.now in
    let due = c.requires.drawn in
    let job = c.args.job.value in
    claimed s (undrawn s old) _ c.args.seat due.at (record {
      uncut = due.uncut;
      below = due.below;
      known = c.requires.known;
      free = c.requires.free;
      entries = due.entries;
      enabled = due.enabled;
      drawn = due.drawn;
      drawn_is = due.drawn_is;
      needs = c.args.needs;
      needs_are = due.needs_are;
      job = job_view job;
      job_is = due.job_is;
      clock = refl;
      cut = refl;
      occurrences = refl;
      measuring = refl;
      claims =
          c.in_ok-changes.ensures.pushed
          ∙ ap (λ e. (log_view old.log).claims ++ opened c.args.seat e job.time c.args.needs ∷ []) (drawn_element s old c.args.number job c.args.needs due)
          ∙ ap (λ t. (log_view old.log).claims ++ opened c.args.seat due.drawn.element t c.args.needs ∷ []) (drawn_now s old c.args.number job c.args.needs due);
      committed = c.push.ensures.committed;
      settled = c.push.ensures.settled;
      kept = c.in_ok-changes.ensures.kept;
      jobs = ap (map job_view) c.in_ok-changes.ensures.jobs ∙ map_more job_view (jobs_in old.log) job;
      held = ap (λ k. slice_set old.held.items c.args.seat (Some k)) due.number_is;
      draw = due.next_word;
      events = claim_noted c.reserve.new.self.items old.journal.items c.push_reserved.new.self.items c.args.seat c.args.number c.reserve.ensures.items c.push_reserved.ensures.items ∙ ap (λ k. map event_view old.journal.items ++ claim_made c.args.seat k ∷ []) due.number_is;
    })

pub returns-clause-begins : goal.returns-clause-begins
returns-clause-begins c =
    (claim_made c.args.seat c.args.number ∷ [], claim_noted c.reserve.new.self.items c.args.standing.now.journal.items c.push_reserved.new.self.items c.args.seat c.args.number c.reserve.ensures.items c.push_reserved.ensures.items)

pub returns-clause-job : goal.returns-clause-job
returns-clause-job c =
    let s = setup_view c.args.setup.now in
    let old = c.args.standing.now in
    let jobs : map job_view (jobs_in c.push.new.self) ≡ map job_view (jobs_in old.log) ++ job_view c.args.job.value ∷ [] = ap (map job_view) c.in_ok-changes.ensures.jobs ∙ map_more job_view (jobs_in old.log) c.args.job.value in
    let place = c.args.number - length (log_view c.push.new.self).committed in
    let behind : length (log_view c.push.new.self).committed ≡ length (log_view old.log).committed = ap (λ (hs : List PlainHead). length hs) c.push.ensures.committed in
    let number = c.requires.drawn.number_is in
    let many : length (map job_view (jobs_in old.log)) ≡ length (log_view old.log).claims = ap length c.requires.drawn.at.at.jobs ∙ length-map (map head_of (log_view old.log).claims) (job_for s.net) ∙ length-map (log_view old.log).claims head_of in
    ap (option_map job_view) (job_behind c.push.new.self c.args.number (omega (arith, behind, number))) ∙ sym (slice_get-map job_view (jobs_in c.push.new.self) place)
    ∙ ap (λ js. slice_get js place) jobs ∙ last_is_at (map job_view (jobs_in old.log)) place (job_view c.args.job.value) (omega (arith, many, behind, number))

pub returns-in_err-reserve-clause-committed : goal.returns-in_err-reserve-clause-committed
returns-in_err-reserve-clause-committed c =
    let s = setup_view c.args.setup.now in
    still_drawn s c.args.standing.now _ (still_at s (undrawn s c.args.standing.now) _ c.requires.drawn.at.at refl refl refl)

pub returns-in_err-changes-clause-committed : goal.returns-in_err-changes-clause-committed
returns-in_err-changes-clause-committed c =
    let s = setup_view c.args.setup.now in
    still_drawn s c.args.standing.now _ (still_at s (undrawn s c.args.standing.now) _ c.requires.drawn.at.at c.push.ensures.committed c.push.ensures.settled refl)

pub returns-in_err-append-clause-committed : goal.returns-in_err-append-clause-committed
returns-in_err-append-clause-committed c =
    let s = setup_view c.args.setup.now in
    still_drawn s c.args.standing.now _ (still_at s (undrawn s c.args.standing.now) _ c.requires.drawn.at.at c.push.ensures.committed c.push.ensures.settled refl)

pub returns-clause-told : goal.returns-clause-told
returns-clause-told c =
    tells_more (changes_view c.args.told.now) (changes_view c.append.new.self) (changes_view c.in_ok-changes.changes) (log_view c.args.standing.now.log).unclaimed (log_view c.push.new.self).unclaimed c.in_ok-append.ensures.appended c.in_ok-changes.ensures.changes.others

pub returns-clause-committed : goal.returns-clause-committed
returns-clause-committed c =
    let s = setup_view c.args.setup.now in
    still_drawn s c.args.standing.now _ (still_at s (undrawn s c.args.standing.now) _ c.requires.drawn.at.at c.push.ensures.committed c.push.ensures.settled refl)
