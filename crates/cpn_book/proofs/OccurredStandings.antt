-- Where a run stands after a claim that is made, done and committed at once.
use Rattle.std.proofs.Common.{◌≡◌, ℕ, ◌+◌, ◌<◌, ◌≤◌, true, inl, List, [], ◌∷◌, ◌++◌, length, map, take, Option, Some, None, refl, sym, ap, ◌∙◌, subst, arith, append-nil, slice_get, length-append}
use Rattle.std.specs.List.{AllByRecursion, count_by}
use Rattle.std.specs.Option.{is_some, option_map}
use Rattle.std.proofs.lemmas.List.{take_all}
use Rattle.std.proofs.lemmas.Option.{same_Some}
use Rattle.cpn_core.specs.Elements.{element_view}
use Rattle.cpn_definitions.specs.Bounds.{most_made}
use Rattle.cpn_definitions.specs.Outcome.{gives}
use Rattle.cpn_definitions.specs.Occurrence.{Needed, Made, are_covered, threshold, needs_of, outputs_of}
use Rattle.cpn_draw.specs.Draw.{generator}
use Rattle.cpn_jobs.specs.OutputsByWork.{work_makes}
use Rattle.cpn_jobs.specs.Views.{job_view}
use Rattle.cpn_jobs.specs.declared.work.Job.{Job}
use Rattle.cpn_core.specs.declared.occurrences.Occurrence.{Occurrence}
use Rattle.cpn_log.specs.declared.logs.Log.{Log}
use Rattle.cpn_log.specs.Kept.{IsKept}
use Rattle.cpn_log.proofs.LeftMarkings.{leaves}
use Rattle.cpn_log.specs.Logs.{PlainLog, head_of, begin_done, claims_made, made_and_done, with_occurred}
use Rattle.cpn_log.specs.LogViews.{log_view, jobs_in}
use Rattle.cpn_monitor.specs.Fitting.{IsNext}
use Rattle.cpn_monitor.specs.Kept.{PlainMeasuring, AreKept, MayNote, KeepsNext, FindsStop}
use Rattle.cpn_monitor.specs.MeasuredRuns.{MarkedOccurrence, MeasuredRun, with_occurrence}
use Rattle.cpn_monitor.specs.MonitorValues.{PlainMonitorValue}
use Rattle.cpn_monitor.specs.Stops.{stop_after}
use Rattle.cpn_monitor.specs.Views.{measuring_view, marked_view}
use Rattle.cpn_runs.specs.HoleRun.{PlainClaim, done_with, marking_left}
use Rattle.cpn_runs.specs.MeasuredStates.{run_of}
use Rattle.cpn_runs.specs.Playable.{IsPlayable}
use Rattle.cpn_definitions.specs.Legal.{PlainOccurrence}
use Rattle.cpn_runs.specs.State.{PlainSetup, PlainState, claim_made, claim_completed, given_needs, new_claim, numbered, status_after}
use Rattle.cpn_runs.specs.Commits.{marked_claim, marked_from, stop_at_last}
use Rattle.cpn_runs.proofs.MeasuredStates.{marked_more, run_more, may_be_told}
use Rattle.cpn_runs.proofs.BoundedStates.{HasFewOutputs, claim_has_few_outputs}
use Rattle.cpn_book.specs.StandingRuns.{IsTold, stop_behind}
use Rattle.cpn_book.specs.Committing.{CommitsNoMore}
use Rattle.cpn_definitions.proofs.Markings.{marking_length}
use Rattle.cpn_book.proofs.MadeClaims.{IsNextClaim}
use Rattle.cpn_book.proofs.MovedBooks.{unclaimed_is_marking}
use Rattle.cpn_book.proofs.OccurredClaims.{all_committed, told_occurred}
use Rattle.cpn_book.proofs.OpenClaims.{none_held_where_none}
use Rattle.cpn_book.specs.DrawnClaims.{IsDrawnClaim, undrawn}
use Rattle.cpn_book.specs.Evaluations.{outputs_in}
use Rattle.cpn_book.specs.Standings.{IsToldAt, StillCommitted, committed_of, job_for, cut_view, events_in, occurrences_in}
use Rattle.cpn_book.specs.declared.standings.Standing.{Standing}
use Rattle.cpn_book.proofs.ClaimedStandings.{stands_at, counted, next_claim}
use Rattle.cpn_book.proofs.CountedClaims.{first_are}
use Rattle.cpn_book.proofs.MeasuredStandings.{measured_alike, marked_is, stop_at_end}
use Rattle.cpn_book.proofs.CommittedStandings.{has_committed_at, numbered_more}
use Rattle.cpn_book.proofs.DrawnElements.{is_covered}
use Rattle.cpn_book.proofs.DrawnClaims.{drawn_now, drawn_element, drawn_covered}

-- What the code of it does: of seat 0, with the outputs of the job.
pub record HasOccurred (old new : Standing) (number : ℕ) (job : Job) (needs : List Needed) (outputs : List Made) : Type 0 where
  pub log : log_view new.log ≡ with_occurred (log_view old.log) (made_and_done 0 (element_view job.element.value) job.time needs outputs)
  pub jobs : jobs_in new.log ≡ jobs_in old.log
  pub kept : IsKept (log_view new.log)
  pub occurrences : occurrences_in new ≡ occurrences_in old ++ record { number = number; time = job.time; element = element_view job.element.value } ∷ []
  pub events : events_in new ≡ events_in old ++ claim_made 0 number ∷ claim_completed 0 number ∷ []
  pub others : new ≡ record old { log = new.log; journal = new.journal; occurrences = new.occurrences; measuring = new.measuring }

module _ (setup : PlainSetup) (old : Standing) (number : ℕ) (job : Job) (needs : List Needed) (due : IsDrawnClaim setup old number (job_view job) needs) (playable : IsPlayable setup) (none_open : count_by is_some old.held.items ≡ 0) where
  free : (s : ℕ) → s < setup.limits.seats → slice_get old.held.items s ≡ Some None
  free s lt = none_held_where_none old.held.items none_open s (let long = due.at.at.told.holds.each in omega (arith, lt, long))

  pub free_now : slice_get old.held.items 0 ≡ Some None
  free_now = free 0 playable.some_seat

  -- all claims are committed
  pub all_in : (log_view old.log).claims ≡ []
  all_in = all_committed setup (events_in old) due.at.at.state (log_view old.log) old.held.items (stands_at setup (undrawn setup old) due.at) free

  module _ (outputs : List Made) (gave : outputs_in (job_view job) ≡ gives outputs) where
    made_at_clock : outputs_of setup.net due.drawn.element old.clock ≡ gives outputs
    made_at_clock = sym (ap outputs_in due.job_is ∙ work_makes setup.net due.drawn.element old.clock) ∙ gave

    fit : HasFewOutputs setup outputs
    fit =
        claim_has_few_outputs setup (new_claim setup.net 0 old.clock due.drawn.element) outputs playable
        (record {
          seat_known = playable.some_seat;
          needs_are = refl;
          marking = (log_view old.log).unclaimed;
          was_covered = is_covered setup (undrawn setup old) due.at playable due.entries due.enabled (claims_made (log_view old.log)) due.drawn due.drawn_is;
          status_is = inl refl;
        })
        made_at_clock

    -- the outputs are few
    pub few_outputs : length outputs ≤ most_made
    few_outputs = fit.few

    -- on places of the marking
    pub outputs_on_places : AllByRecursion (λ made. made.place < length (log_view old.log).unclaimed) outputs
    outputs_on_places =
        let long = marking_length setup.net.places (log_view old.log).unclaimed (unclaimed_is_marking setup (undrawn setup old) due.at playable) in
        subst (λ (k : ℕ). AllByRecursion (λ made. made.place < k) outputs) (sym long) fit.on_places

    clock_is : old.clock ≡ due.at.at.state.clock
    clock_is = due.at.at.clock

    number_is : length due.at.at.state.claims ≡ claims_made (log_view old.log)
    number_is = counted setup (undrawn setup old) due.at.at

    next : IsNextClaim setup due.at.at.state (log_view old.log) 0 due.drawn
    next = next_claim setup (undrawn setup old) due.at due.uncut due.below 0 playable.some_seat free_now due.entries due.enabled due.drawn due.drawn_is

    -- the claim, done
    abbrev pub done : PlainClaim
    done = record (new_claim setup.net 0 due.at.at.state.clock due.drawn.element) { status = done_with outputs }

    needs_are : needs ≡ given_needs (needs_of setup.net due.drawn.element)
    needs_are = sym (ap given_needs due.needs_are)

    pub done_is : made_and_done 0 (element_view job.element.value) job.time needs outputs ≡ done
    done_is =
        ap (λ e. made_and_done 0 e job.time needs outputs) (drawn_element setup old number job needs due)
        ∙ ap (λ t. made_and_done 0 due.drawn.element t needs outputs) (drawn_now setup old number job needs due ∙ clock_is)
        ∙ ap (λ ns. made_and_done 0 due.drawn.element due.at.at.state.clock ns outputs) needs_are

    -- its needs were covered in the settled marking, which was the unclaimed one
    covers : are_covered (threshold due.at.at.state.clock) (log_view old.log).settled done.needs ≡ true
    covers =
        let settled : (log_view old.log).settled ≡ (log_view old.log).unclaimed = same_Some (log_view old.log).settled (log_view old.log).unclaimed (ap (marking_left (log_view old.log).settled) (sym all_in) ∙ leaves (log_view old.log) due.at.at.told.kept) in
        ap (λ ns. are_covered (threshold due.at.at.state.clock) (log_view old.log).settled ns) (sym needs_are)
        ∙ ap (λ m. are_covered (threshold due.at.at.state.clock) m needs) settled
        ∙ ap (λ t. are_covered (threshold t) (log_view old.log).unclaimed needs) (sym (drawn_now setup old number job needs due ∙ clock_is))
        ∙ drawn_covered setup old number job needs due playable

    abbrev after : PlainState
    after = record due.at.at.state { claims = due.at.at.state.claims ++ done ∷ [] }

    -- how the run is told with it
    told_with_it
        : IsKept (with_occurred (log_view old.log) done)
        → IsTold setup (events_in old ++ claim_made 0 (length due.at.at.state.claims) ∷ claim_completed 0 (length due.at.at.state.claims) ∷ []) after (with_occurred (log_view old.log) done) old.held.items
    told_with_it kept =
        let status : status_after (outputs_of setup.net due.drawn.element due.at.at.state.clock) ≡ Some (done_with outputs) = ap (λ t. status_after (outputs_of setup.net due.drawn.element t)) (sym clock_is) ∙ ap status_after made_at_clock in
        told_occurred setup (events_in old) due.at.at.state (log_view old.log) old.held.items (stands_at setup (undrawn setup old) due.at) all_in 0 due.drawn next outputs status covers kept

    abbrev front : List PlainClaim
    front = due.at.at.told.has.committed

    front_is : due.at.at.state.claims ≡ front
    front_is = due.at.at.told.has.claims_are ∙ ap (λ cs. front ++ cs) all_in ∙ append-nil front

    measured_there : AreKept setup.net setup.functions setup.monitors (run_of setup due.at.at.state.clock front) (measuring_view old.measuring)
    measured_there =
        measured_alike setup old.clock due.at.at.state.clock (committed_of due.at.at.state (undrawn setup old)) front (measuring_view old.measuring) (measuring_view old.measuring) (sym clock_is)
        (sym (first_are setup.start due.at.at.state.claims (log_view old.log) due.at.at.told.has)) refl due.at.at.measured

    -- monitors may be told of it
    next_to_tell : IsKept (with_occurred (log_view old.log) done) → (marked : MarkedOccurrence) → marked ≡ marked_claim (log_view old.log).settled done → IsNext setup.net (run_of setup due.at.at.state.clock front) marked
    next_to_tell kept marked is =
        subst (λ o. IsNext setup.net (run_of setup due.at.at.state.clock front) o) (sym is)
        (may_be_told setup _ after playable (told_with_it kept).reached front done (log_view old.log).settled
        (record { rest = []; claims_are = ap (λ cs. cs ++ done ∷ []) front_is; made_now = refl; left = due.at.at.told.has.left; covers = covers }))

    -- so they may note it
    pub may_note : IsKept (with_occurred (log_view old.log) done) → (marked : MarkedOccurrence) → marked ≡ marked_claim (log_view old.log).settled done → MayNote setup.functions setup.monitors (measuring_view old.measuring) marked
    may_note kept marked is = record {
      net = setup.net;
      run = run_of setup due.at.at.state.clock front;
      fit = playable.monitors;
      is_kept = measured_there;
      next = next_to_tell kept marked is;
    }

    -- what they then measure
    measured_with_it
        : IsKept (with_occurred (log_view old.log) done)
        → (marked : MarkedOccurrence) (values : PlainMeasuring)
        → marked ≡ marked_claim (log_view old.log).settled done
        → KeepsNext setup.net setup.functions setup.monitors marked (measuring_view old.measuring) values
        → AreKept setup.net setup.functions setup.monitors (run_of setup due.at.at.state.clock (due.at.at.state.claims ++ done ∷ [])) values
    measured_with_it kept marked values is noted =
        subst (λ cs. AreKept setup.net setup.functions setup.monitors (run_of setup due.at.at.state.clock (cs ++ done ∷ [])) values) (sym front_is)
        (subst (λ run. AreKept setup.net setup.functions setup.monitors run values) (sym (run_more setup due.at.at.state.clock front done (log_view old.log).settled due.at.at.told.has.left))
        (subst (λ o. AreKept setup.net setup.functions setup.monitors (with_occurrence o (run_of setup due.at.at.state.clock front)) values) is (noted (run_of setup due.at.at.state.clock front) measured_there (next_to_tell kept marked is))))

    -- the log when it has joined the committed claims, and its occurrence in the program
    module _ (log : Log) (joined : log_view log ≡ with_occurred (log_view old.log) (made_and_done 0 (element_view job.element.value) job.time needs outputs)) (kept : IsKept (log_view log))
        (occurrence : Occurrence) (time_is : occurrence.time ≡ job.time) (element_is : element_view occurrence.element.value ≡ element_view job.element.value) where
      joined_so : log_view log ≡ with_occurred (log_view old.log) done
      joined_so = joined ∙ ap (with_occurred (log_view old.log)) done_is

      pub marked_now : marked_view occurrence (log_view log).settled ≡ marked_claim (log_view old.log).settled done
      marked_now =
          marked_is occurrence (log_view log).settled done (log_view old.log).settled
          (element_is ∙ ap (λ (c : PlainClaim). c.element) done_is) (time_is ∙ ap (λ (c : PlainClaim). c.time) done_is) (ap (λ (l : PlainLog). l.settled) joined_so)

      pub may_note_now : MayNote setup.functions setup.monitors (measuring_view old.measuring) (marked_view occurrence (log_view log).settled)
      may_note_now = may_note (subst IsKept joined_so kept) (marked_view occurrence (log_view log).settled) marked_now

    module _ (new : Standing) (did : HasOccurred old new number job needs outputs) (marked : MarkedOccurrence) (marked_so : marked ≡ marked_claim (log_view old.log).settled done)
        (noted : KeepsNext setup.net setup.functions setup.monitors marked (measuring_view old.measuring) (measuring_view new.measuring)) where
      log_is : log_view new.log ≡ with_occurred (log_view old.log) done
      log_is = did.log ∙ ap (with_occurred (log_view old.log)) done_is

      told : IsTold setup (events_in new) after (log_view new.log) new.held.items
      told =
          let first = told_with_it (subst IsKept log_is did.kept) in
          let events : events_in old ++ claim_made 0 (length due.at.at.state.claims) ∷ claim_completed 0 (length due.at.at.state.claims) ∷ [] ≡ events_in new =
          ap (λ k. events_in old ++ claim_made 0 k ∷ claim_completed 0 k ∷ []) (number_is ∙ sym due.number_is) ∙ sym did.events in
          subst (λ hs. IsTold setup (events_in new) after (log_view new.log) hs) (sym (ap (λ (s : Standing). s.held.items) did.others))
          (subst (λ l. IsTold setup (events_in new) after l old.held.items) (sym log_is)
          (subst (λ es. IsTold setup es after (with_occurred (log_view old.log) done) old.held.items) events first))

      committed_were : length (log_view old.log).committed ≡ length due.at.at.state.claims
      committed_were =
          let none : length (log_view old.log).claims ≡ 0 = ap (λ (cs : List PlainClaim). length cs) all_in in
          let n = number_is in omega (arith, none, n)

      -- the occurrence is that of the claim
      occurrence_is : ◌≡◌ {A = PlainOccurrence} (record { number = number; time = job.time; element = element_view job.element.value }) (record { number = 0 + length due.at.at.state.claims; time = done.time; element = done.element })
      occurrence_is =
          ap (λ (k : ℕ). record { number = k; time = job.time; element = element_view job.element.value }) (let e : number ≡ 0 + length due.at.at.state.claims = (let n = number_is in let k = due.number_is in omega (arith, n, k)) in e)
          ∙ ap (λ (t : ℕ). record { number = 0 + length due.at.at.state.claims; time = t; element = element_view job.element.value }) (drawn_now setup old number job needs due ∙ clock_is)
          ∙ ap (λ e. record { number = 0 + length due.at.at.state.claims; time = done.time; element = e }) (drawn_element setup old number job needs due)

      -- all are committed
      taken : take (length (log_view new.log).committed) (due.at.at.state.claims ++ done ∷ []) ≡ due.at.at.state.claims ++ done ∷ []
      taken =
          let many = ap (λ (l : PlainLog). length l.committed) log_is ∙ length-append (log_view old.log).committed (head_of done ∷ []) in
          let long = length-append due.at.at.state.claims (done ∷ []) in
          let were = committed_were in
          take_all (length (log_view new.log).committed) (due.at.at.state.claims ++ done ∷ []) (omega (arith, many, long, were))

      -- the run is told with it
      abbrev told_now : IsToldAt setup new
      told_now = record {
        state = after;
        told = told;
        clock = ap (λ (s : Standing). s.clock) did.others ∙ due.at.at.clock;
        cut = ap (λ (s : Standing). option_map cut_view s.cut) did.others ∙ due.at.at.cut;
        jobs =
            ap (map job_view) did.jobs ∙ due.at.at.jobs
            ∙ ap (λ cs. map (job_for setup.net) (map head_of cs)) (all_in ∙ ap (λ (l : PlainLog). l.claims) (sym log_is));
        occurrences =
            did.occurrences
            ∙ ap (λ os. os ++ record { number = number; time = job.time; element = element_view job.element.value } ∷ []) (due.at.at.occurrences ∙ ap (numbered 0) (take_all (length (log_view old.log).committed) due.at.at.state.claims (let were = committed_were in omega (arith, were))))
            ∙ ap (λ (o : PlainOccurrence). numbered 0 due.at.at.state.claims ++ o ∷ []) occurrence_is
            ∙ sym (numbered_more 0 due.at.at.state.claims done)
            ∙ ap (numbered 0) (sym taken);
        measured =
            measured_alike setup due.at.at.state.clock new.clock (due.at.at.state.claims ++ done ∷ []) (committed_of after new) (measuring_view new.measuring) (measuring_view new.measuring)
            (ap (λ (s : Standing). s.clock) did.others ∙ clock_is) taken refl (measured_with_it (subst IsKept log_is did.kept) marked (measuring_view new.measuring) marked_so noted);
        made_now = subst (λ (l : PlainLog). AllByRecursion (λ (claim : PlainClaim). claim.time ≡ new.clock) l.claims) (sym log_is) tt;
        draw = λ uncut. ap (λ (s : Standing). s.draw) did.others ∙ due.next_word ∙ ap (generator setup.seed) (let n = number_is in let more = length-append due.at.at.state.claims (done ∷ []) in omega (arith, n, more));
      }

      -- no more can be committed then
      pub commits_no_more
          : (stop : Option ℕ)
          → (FindsStop setup.net setup.functions setup.monitors marked (measuring_view old.measuring) stop)
          → CommitsNoMore setup new stop
      commits_no_more stop tells = by stop stop_is
        where
          stop_is : stop ≡ stop_behind setup after (log_view new.log)
          stop_is =
              tells (run_of setup due.at.at.state.clock front) measured_there (next_to_tell (subst IsKept log_is did.kept) marked marked_so)
              ∙ stop_at_end setup (marked_from setup.start front) marked
              ∙ ap (λ o. stop_at_last setup.monitors (marked_from setup.start front ++ o ∷ [])) marked_so
              ∙ ap (stop_at_last setup.monitors) (sym (marked_more setup.start front done (log_view old.log).settled due.at.at.told.has.left))
              ∙ ap (λ cs. stop_at_last setup.monitors (marked_from setup.start (cs ++ done ∷ []))) (sym front_is)
              ∙ ap (λ cs. stop_at_last setup.monitors (marked_from setup.start cs)) (sym taken)

          by : (answer : Option ℕ) → answer ≡ stop_behind setup after (log_view new.log) → CommitsNoMore setup new answer
          by (Some monitor) is = record { told = told_now; stop = sym is }
          by None is = (record { told = told_now; goes_on = sym is }, ap (λ (l : PlainLog). begin_done l.claims) log_is)

      -- what was committed stands, with it
      pub still_occurred : StillCommitted setup old new
      still_occurred = record { committed = has_committed_at setup new told_now; more = record { number = number; time = job.time; element = element_view job.element.value } ∷ []; occurrences = did.occurrences }

      -- the log counts one claim more
      pub one_more : claims_made (log_view new.log) ≡ claims_made (log_view old.log) + 1
      one_more =
          let made = ap claims_made did.log in
          let more = length-append (log_view old.log).committed (head_of (made_and_done 0 (element_view job.element.value) job.time needs outputs) ∷ []) in
          let none : length (log_view old.log).claims ≡ 0 = ap (λ (cs : List PlainClaim). length cs) all_in in
          omega (arith, made, more, none)
