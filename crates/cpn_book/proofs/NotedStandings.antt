-- The next claim is committed and its occurrence noted: where the run stands then.
use Rattle.std.proofs.Common.{Global, ◌≡◌, ℕ, ◌+◌, ◌≤◌, cond, List, [], ◌∷◌, ◌++◌, length, map, drop, Option, Some, None, sym, ap, ◌∙◌, subst, arith, length-append}
use Rattle.std.proofs.Math.Path.{ap₂}
use Rattle.std.specs.Prelude.{Vec, if◌then◌else◌}
use Rattle.cpn_core.specs.Elements.{element_view}
use Rattle.cpn_core.specs.Occurrences.{occurrence_view}
use Rattle.cpn_core.specs.declared.occurrences.Occurrence.{Occurrence}
use Rattle.cpn_definitions.specs.Legal.{PlainOccurrence}
use Rattle.cpn_definitions.specs.Occurrence.{PlainElement}
use Rattle.cpn_definitions.proofs.ListItems.{map_more}
use Rattle.cpn_log.specs.Kept.{IsKept}
use Rattle.cpn_log.specs.Logs.{PlainLog, begin_done, stands_done, head_of, claims_made, next_committed, with_committed}
use Rattle.cpn_log.specs.LogViews.{log_view, jobs_in}
use Rattle.cpn_log.specs.declared.logs.Log.{Log}
use Rattle.cpn_monitor.specs.Kept.{MayNote, KeepsNext, FindsStop}
use Rattle.cpn_monitor.specs.MeasuredRuns.{MarkedOccurrence}
use Rattle.cpn_monitor.specs.Views.{measuring_view, marked_view}
use Rattle.cpn_runs.specs.Commits.{marked_claim}
use Rattle.cpn_runs.specs.HoleRun.{PlainClaim, after_claim}
use Rattle.cpn_runs.specs.Playable.{IsPlayable}
use Rattle.cpn_runs.specs.State.{PlainSetup}
use Rattle.cpn_book.specs.Committing.{MayCommit, IsStopped}
use Rattle.cpn_book.specs.StandingRuns.{stop_behind}
use Rattle.cpn_book.specs.Standings.{IsToldAt, StillCommitted, occurrences_in}
use Rattle.cpn_book.specs.declared.standings.Standing.{Standing}
use Rattle.cpn_book.proofs.CommittedStandings.{committed_still, committed_told, stop_is}
use Rattle.cpn_book.proofs.MeasuredStandings.{marked_is, may_note}
use Rattle.cpn_book.proofs.NextClaims.{IsNext, is_done_next, begins_done, committed_next}

-- an occurrence of the program that is the next claim's
pub record IsOfNext (old : Standing) (next : IsNext (log_view old.log) stands_done) (occurrence : Occurrence) : Type 0 where
  pub number : occurrence.number ≡ length (log_view old.log).committed
  pub time : occurrence.time ≡ next.claim.time
  pub element : element_view occurrence.element.value ≡ next.claim.element

-- the log when the next claim has joined its committed ones
pub record HasJoined (old log : Log) : Type 0 where
  pub committed : log_view log ≡ next_committed (log_view old)
  pub kept : IsKept (log_view log)
  pub jobs : jobs_in log ≡ (if begin_done (log_view old).claims then drop 1 (jobs_in old) else jobs_in old)

module _ (setup : PlainSetup) (old : Standing) (may : MayCommit setup old) (next : IsNext (log_view old.log) stands_done) (occurrence : Occurrence) (is : IsOfNext old next occurrence) (log : Log) (joined : HasJoined old.log log) where
  settled_is : (log_view log).settled ≡ after_claim next.claim (log_view old.log).settled
  settled_is = ap (λ (l : PlainLog). l.settled) (joined.committed ∙ committed_next (log_view old.log) next)

  abbrev marked : MarkedOccurrence
  marked = marked_view occurrence (log_view log).settled

  marked_so : marked ≡ marked_claim (log_view old.log).settled next.claim
  marked_so = marked_is occurrence (log_view log).settled next.claim (log_view old.log).settled is.element is.time settled_is

  -- monitors may note it
  pub next_may_be_noted : IsPlayable setup → MayNote setup.functions setup.monitors (measuring_view old.measuring) (marked_view occurrence (log_view log).settled)
  next_may_be_noted playable = may_note setup old may.told next.claim next.rest next.first playable marked marked_so

  module _ (new : Standing) (occurrences : Vec Occurrence Global) (same : occurrences.items ≡ old.occurrences.items) (noted_items : new.occurrences.items ≡ occurrences.items ++ occurrence ∷ [])
      (others : new ≡ record (record old { log = log; occurrences = occurrences }) { occurrences = new.occurrences; measuring = new.measuring }) where
    log_same : log_view new.log ≡ log_view log
    log_same = ap (λ (s : Standing). log_view s.log) others

    others_so : new ≡ record old { log = new.log; occurrences = new.occurrences; measuring = new.measuring }
    others_so = others ∙ ap (λ (l : Log). record old { log = l; occurrences = new.occurrences; measuring = new.measuring }) (sym (ap (λ (s : Standing). s.log) others))

    view_is : ◌≡◌ {A = PlainOccurrence} (occurrence_view occurrence) (record { number = length (log_view old.log).committed; time = next.claim.time; element = next.claim.element })
    view_is =
        ap (λ (n : ℕ). record { number = n; time = occurrence.time; element = element_view occurrence.element.value }) is.number
        ∙ ap₂ (λ (t : ℕ) (e : PlainElement). record { number = length (log_view old.log).committed; time = t; element = e }) is.time is.element

    occurrences_so : occurrences_in new ≡ occurrences_in old ++ record { number = length (log_view old.log).committed; time = next.claim.time; element = next.claim.element } ∷ []
    occurrences_so =
        ap (map occurrence_view) (noted_items ∙ ap (λ os. os ++ occurrence ∷ []) same) ∙ map_more occurrence_view old.occurrences.items occurrence
        ∙ ap (λ (o : PlainOccurrence). occurrences_in old ++ o ∷ []) view_is

    log_is : log_view new.log ≡ with_committed (log_view old.log) next.claim next.rest
    log_is = log_same ∙ joined.committed ∙ committed_next (log_view old.log) next

    kept_so : IsKept (log_view new.log)
    kept_so = subst IsKept (sym log_same) joined.kept

    jobs_so : jobs_in new.log ≡ drop 1 (jobs_in old.log)
    jobs_so = ap (λ (s : Standing). jobs_in s.log) others ∙ joined.jobs ∙ ap (λ b. cond b (drop 1 (jobs_in old.log)) (jobs_in old.log)) (begins_done (log_view old.log) next)

    -- what was committed stands, with it
    pub next_still : StillCommitted setup old new
    next_still = committed_still setup old new next.claim next.rest next.first (is_done_next (log_view old.log) next) log_is kept_so jobs_so others_so occurrences_so may.told may.goes_on

    module _ (playable : IsPlayable setup) (stop : Option ℕ)
        (measured : KeepsNext setup.net setup.functions setup.monitors marked (measuring_view old.measuring) (measuring_view new.measuring))
        (tells : FindsStop setup.net setup.functions setup.monitors marked (measuring_view old.measuring) stop) where
      abbrev told_so : IsToldAt setup new
      told_so = committed_told setup old new next.claim next.rest next.first (is_done_next (log_view old.log) next) log_is kept_so jobs_so others_so occurrences_so may.told may.goes_on playable marked marked_so measured

      stop_so : stop ≡ stop_behind setup may.told.state (log_view new.log)
      stop_so = stop_is setup old new next.claim next.rest next.first (is_done_next (log_view old.log) next) log_is kept_so jobs_so others_so occurrences_so may.told may.goes_on playable marked marked_so measured stop tells

      -- where none of the monitors stops the run, what is next may be committed
      pub next_goes_on : stop ≡ None → MayCommit setup new
      next_goes_on none = record { told = told_so; goes_on = sym stop_so ∙ none }

      -- and where one does, it has
      pub next_stops : (monitor : ℕ) → stop ≡ Some monitor → IsStopped setup new monitor
      next_stops monitor some = record { told = told_so; stop = sym stop_so ∙ some }

    -- one claim more is committed
    pub one_committed : length (log_view new.log).committed ≡ length (log_view old.log).committed + 1
    one_committed = ap (λ (l : PlainLog). length l.committed) log_is ∙ length-append (log_view old.log).committed (head_of next.claim ∷ [])

    -- and there are as many claims
    pub made_same : claims_made (log_view new.log) ≡ claims_made (log_view old.log)
    made_same =
        let made = ap claims_made log_is in
        let more = length-append (log_view old.log).committed (head_of next.claim ∷ []) in
        let were = ap (λ (cs : List PlainClaim). length cs) next.first in
        omega (arith, made, more, were)
