-- The claim that is drawn finds its needs, its outputs are few, and the run stands with it, done and committed.
use Rattle.std.proofs.Common.{Global, ◌≡◌, ℕ, List, [], ◌∷◌, ◌++◌, map, sym, ap, ◌∙◌, subst, append_assoc}
use Rattle.std.proofs.Math.Path.{ap₂}
use Rattle.std.specs.declared.sync.Arc.{Arc}
use Rattle.cpn_core.specs.declared.bindings.Element.{Element}
use Rattle.cpn_definitions.specs.Occurrence.{PlainElement}
use Rattle.cpn_definitions.proofs.ListItems.{map_more}
use Rattle.cpn_core.specs.declared.occurrences.Occurrence.{Occurrence}
use Rattle.cpn_core.specs.Elements.{element_view}
use Rattle.cpn_jobs.specs.declared.work.Job.{Job}
use Rattle.cpn_log.specs.Kept.{IsKept}
use Rattle.cpn_log.specs.LogViews.{log_view, jobs_in}
use Rattle.cpn_log.specs.declared.logs.Log.{Log}
use Rattle.cpn_monitor.specs.Views.{marked_view}
use Rattle.cpn_book.specs.declared.standings.Standing.{Standing}
use Rattle.cpn_runs.specs.Commits.{marked_claim}
use Rattle.cpn_runs.specs.FinishedViews.{setup_view}
use Rattle.cpn_runs.specs.State.{claim_made, claim_completed}
use Rattle.cpn_core.specs.Occurrences.{occurrence_view}
use Rattle.cpn_runs.specs.Views.{event_view}
use Rattle.cpn_runs.specs.declared.events.Event.{Event}
use Rattle.cpn_runs.specs.declared.events.Event.TheVariants as events
use Rattle.cpn_book.proofs.DrawnClaims.{drawn_in_time, drawn_covered}
use Rattle.cpn_book.proofs.OccurredStandings.{HasOccurred, done, all_in, few_outputs, outputs_on_places, marked_now, may_note_now, commits_no_more, still_occurred, one_more}
use Rattle.cpn_book.proofs.occurring.occur.Goals.{After-push_reserved-2}
use Rattle.cpn_tmset.specs.ChangedViews.{changes_view}
use Rattle.cpn_book.specs.Telling.{TellsOn}
use Rattle.cpn_book.proofs.ToldChanges.{tells_more}
use Rattle.cpn_book.proofs.occurring.occur.Goals as goal

-- the occurrence is noted
occurrence_noted
    : (mid old new : List Occurrence) (number time t : ℕ) (element : Arc Element Global) (e : PlainElement) → mid ≡ old → new ≡ mid ++ record { number = number; time = time; element = element } ∷ [] → time ≡ t → element_view element.value ≡ e
    → map occurrence_view new ≡ map occurrence_view old ++ record { number = number; time = t; element = e } ∷ []
occurrence_noted mid old new number time t element e same more at of =
    ap (map occurrence_view) (more ∙ ap (λ os. os ++ record { number = number; time = time; element = element } ∷ []) same) ∙ map_more occurrence_view old (record { number = number; time = time; element = element })
    ∙ ap₂ (λ (u : ℕ) (f : PlainElement). map occurrence_view old ++ record { number = number; time = u; element = f } ∷ []) at of

-- and so are both events
events_noted : (mid old first new : List Event) (number : ℕ) → mid ≡ old → first ≡ mid ++ events.Claim 0 number ∷ [] → new ≡ first ++ events.Done 0 number ∷ [] → map event_view new ≡ map event_view old ++ claim_made 0 number ∷ claim_completed 0 number ∷ []
events_noted mid old first new number same more last =
    ap (map event_view) (last ∙ ap (λ es. es ++ events.Done 0 number ∷ []) (more ∙ ap (λ es. es ++ events.Claim 0 number ∷ []) same))
    ∙ map_more event_view (old ++ events.Claim 0 number ∷ []) (events.Done 0 number)
    ∙ ap (λ es. es ++ claim_completed 0 number ∷ []) (map_more event_view old (events.Claim 0 number))
    ∙ append_assoc (map event_view old) (claim_made 0 number ∷ []) (claim_completed 0 number ∷ [])

pub occur-requires-clause-all_committed : goal.occur-requires-clause-all_committed
occur-requires-clause-all_committed c = all_in (setup_view c.args.setup.now) c.args.standing.now c.args.number c.args.job.value c.args.needs.now c.requires.drawn c.requires.playable c.requires.none_open

pub occur-requires-clause-in_time : goal.occur-requires-clause-in_time
occur-requires-clause-in_time c = drawn_in_time (setup_view c.args.setup.now) c.args.standing.now c.args.number c.args.job.value c.args.needs.now c.requires.drawn c.requires.playable

pub occur-requires-clause-covered : goal.occur-requires-clause-covered
occur-requires-clause-covered c = drawn_covered (setup_view c.args.setup.now) c.args.standing.now c.args.number c.args.job.value c.args.needs.now c.requires.drawn c.requires.playable

pub occur-requires-clause-few : goal.occur-requires-clause-few
occur-requires-clause-few c = few_outputs (setup_view c.args.setup.now) c.args.standing.now c.args.number c.args.job.value c.args.needs.now c.requires.drawn c.requires.playable c.requires.none_open c.args.outputs c.requires.outputs

pub occur-requires-clause-in_range : goal.occur-requires-clause-in_range
occur-requires-clause-in_range c =
    outputs_on_places (setup_view c.args.setup.now) c.args.standing.now c.args.number c.args.job.value c.args.needs.now c.requires.drawn c.requires.playable c.requires.none_open c.args.outputs c.requires.outputs

pub note_last-requires-clause-may : goal.note_last-requires-clause-may
note_last-requires-clause-may c =
    may_note_now (setup_view c.args.setup.now) c.args.standing.now c.args.number c.args.job.value c.args.needs.now c.requires.drawn c.requires.playable c.requires.none_open c.args.outputs c.requires.outputs
    c.occur.new.self c.in_ok-changes.ensures.occurred c.in_ok-changes.ensures.kept (record { number = c.args.number; time = c.deref.result.now.time; element = c.in_ok-clone.field-0 })
    (ap (λ (j : Job). j.time) c.deref.ensures) (ap element_view c.in_ok-clone.ensures.cases ∙ ap (λ (j : Job). element_view j.element.value) c.deref-2.ensures)

-- what the code has done when it answers
did
    : (c : After-push_reserved-2)
    → HasOccurred c.args.standing.now (record c.note_last.new.standing { journal = c.push_reserved-2.new.self }) c.args.number c.args.job.value c.args.needs.now c.args.outputs
did c =
    let old = c.args.standing.now in
    let job = c.args.job.value in
    let noted = c.note_last.new.standing in
    let others = c.note_last.ensures.others in
    let log_same : noted.log ≡ c.occur.new.self = ap (λ (s : Standing). s.log) others in
    let same : c.deref-2.result.now ≡ job = c.deref-2.ensures in
    let element : element_view c.in_ok-clone.field-0.value ≡ element_view job.element.value = ap element_view c.in_ok-clone.ensures.cases ∙ ap (λ (j : Job). element_view j.element.value) same in
    record {
      log = ap log_view log_same ∙ c.in_ok-changes.ensures.occurred;
      jobs = ap jobs_in log_same ∙ c.in_ok-changes.ensures.jobs;
      kept = subst (λ (l : Log). IsKept (log_view l)) (sym log_same) c.in_ok-changes.ensures.kept;
      occurrences = occurrence_noted c.reserve-2.new.self.items old.occurrences.items noted.occurrences.items c.args.number c.deref.result.now.time job.time c.in_ok-clone.field-0 (element_view job.element.value) c.reserve-2.ensures.items c.note_last.ensures.occurrences (ap (λ (j : Job). j.time) c.deref.ensures) element;
      events = events_noted c.reserve.new.self.items old.journal.items c.push_reserved.new.self.items c.push_reserved-2.new.self.items c.args.number c.reserve.ensures.items (c.push_reserved.ensures.items ∙ ap (λ es. es ++ events.Claim 0 c.args.number ∷ []) (ap (λ (s : Standing). s.journal.items) others)) c.push_reserved-2.ensures.items;
      others = ap (λ (s : Standing). record s { journal = c.push_reserved-2.new.self }) others ∙ ap (λ (l : Log). record old { log = l; journal = c.push_reserved-2.new.self; occurrences = noted.occurrences; measuring = noted.measuring }) (sym log_same);
    }

-- its occurrence, with the marking after it
abbrev occurrence_in : After-push_reserved-2 → Occurrence
occurrence_in c = record { number = c.args.number; time = c.deref.result.now.time; element = c.in_ok-clone.field-0 }

marked_in
    : (c : After-push_reserved-2)
    → marked_view (occurrence_in c) (log_view c.occur.new.self).settled
    ≡ marked_claim (log_view c.args.standing.now.log).settled (done (setup_view c.args.setup.now) c.args.standing.now c.args.number c.args.job.value c.args.needs.now c.requires.drawn c.requires.playable c.requires.none_open c.args.outputs c.requires.outputs)
marked_in c =
    let element : element_view c.in_ok-clone.field-0.value ≡ element_view c.args.job.value.element.value = ap element_view c.in_ok-clone.ensures.cases ∙ ap (λ (j : Job). element_view j.element.value) c.deref-2.ensures in
    marked_now (setup_view c.args.setup.now) c.args.standing.now c.args.number c.args.job.value c.args.needs.now c.requires.drawn c.requires.playable c.requires.none_open c.args.outputs c.requires.outputs
    c.occur.new.self c.in_ok-changes.ensures.occurred c.in_ok-changes.ensures.kept (occurrence_in c) (ap (λ (j : Job). j.time) c.deref.ensures) element

pub returns-clause-no_more : goal.returns-clause-no_more
returns-clause-no_more c =
    let s = setup_view c.args.setup.now in
    let old = c.args.standing.now in
    commits_no_more s old c.args.number c.args.job.value c.args.needs.now c.requires.drawn c.requires.playable c.requires.none_open c.args.outputs c.requires.outputs _ (did c)
    (marked_view (occurrence_in c) (log_view c.occur.new.self).settled) (marked_in c) c.in_ok-stop.ensures.measured c.in_ok-stop.stop c.in_ok-stop.ensures.stop

pub returns-clause-made : goal.returns-clause-made
returns-clause-made c =
    let s = setup_view c.args.setup.now in
    let old = c.args.standing.now in
    one_more s old c.args.number c.args.job.value c.args.needs.now c.requires.drawn c.requires.playable c.requires.none_open c.args.outputs c.requires.outputs _ (did c)
    (marked_view (occurrence_in c) (log_view c.occur.new.self).settled) (marked_in c) c.in_ok-stop.ensures.measured

pub returns-clause-events : goal.returns-clause-events
returns-clause-events c = (did c).events

pub returns-clause-committed : goal.returns-clause-committed
returns-clause-committed c =
    let s = setup_view c.args.setup.now in
    let old = c.args.standing.now in
    still_occurred s old c.args.number c.args.job.value c.args.needs.now c.requires.drawn c.requires.playable c.requires.none_open c.args.outputs c.requires.outputs _ (did c)
    (marked_view (occurrence_in c) (log_view c.occur.new.self).settled) (marked_in c) c.in_ok-stop.ensures.measured

pub returns-clause-told : goal.returns-clause-told
returns-clause-told c =
    subst (λ (l : Log). TellsOn (changes_view c.args.told.now) (changes_view c.append.new.self) (log_view c.args.standing.now.log).unclaimed (log_view l).unclaimed) (sym (ap (λ (s : Standing). s.log) c.note_last.ensures.others))
    (tells_more (changes_view c.args.told.now) (changes_view c.append.new.self) (changes_view c.in_ok-changes.changes) (log_view c.args.standing.now.log).unclaimed (log_view c.occur.new.self).unclaimed c.in_ok-append.ensures.appended c.in_ok-changes.ensures.changes.others)
