-- Which cut is owed where no more can be committed.
use Rattle.std.proofs.Common.{inl, ◌≡◌, ℕ, append_assoc, [], ◌∷◌, ◌++◌, length, take, Option, Some, None, sym, ap, ◌∙◌, subst, slice_get}
use Rattle.std.specs.Option.{option_map, option_or}
use Rattle.std.proofs.lemmas.List.{append-nil}
use Rattle.cpn_log.specs.Logs.{PlainLog}
use Rattle.cpn_log.specs.LogViews.{log_view}
use Rattle.cpn_runs.specs.Commits.{marked_from, stop_at_last}
use Rattle.cpn_runs.specs.State.{PlainSetup, PlainState, PlainCut, claim_completed, cut_made, stopped_by, committed, owed_cut, cut_at, cut_by_stop, IsState}
use Rattle.cpn_runs.specs.GivingBack.{OnlyGivenBack}
use Rattle.cpn_runs.specs.Views.{end_view}
use Rattle.cpn_runs.specs.declared.events.End.{End}
use Rattle.cpn_runs.proofs.Cuts.{stop_owes}
use Rattle.cpn_runs.proofs.States.{one_state}
use Rattle.cpn_book.specs.Committing.{MayCommit, IsStopped, NextWaits, CommitsNoMore, IsDueAt, OwesCut, AddsOwedCut, AddsCompletion}
use Rattle.cpn_book.specs.Logged.{HasClaims}
use Rattle.cpn_book.specs.StandingRuns.{stop_behind, NoneStops}
use Rattle.cpn_book.specs.Standings.{IsToldAt, cut_view, events_in}
use Rattle.cpn_book.specs.States.{cut_events}
use Rattle.cpn_book.specs.declared.standings.Standing.{Standing}
use Rattle.cpn_book.proofs.CommittedClaims.{committed_here, committed_at_stop}
use Rattle.cpn_book.proofs.CountedClaims.{as_many}
use Rattle.cpn_book.proofs.NextClaims.{first_behind}

module _ (setup : PlainSetup) (state : PlainState) (log : PlainLog) (has : HasClaims setup.start state.claims log) (only : OnlyGivenBack state.cut) (all : committed setup state ≡ length log.committed) where
  -- the claim behind the committed ones is the log's next one
  next_is : slice_get state.claims (length log.committed) ≡ slice_get log.claims 0
  next_is = ap (λ k. slice_get state.claims k) (sym (as_many setup.start state.claims log has)) ∙ ap (λ cs. slice_get cs (length has.committed)) has.claims_are ∙ first_behind has.committed log.claims

  -- what is owed goes by the monitor that stops the run, and the next claim
  owed_by : (stop : Option ℕ) → stop_behind setup state log ≡ stop → owed_cut setup state ≡ option_or (cut_by_stop (length log.committed) stop state.cut) (cut_at (length log.committed) (slice_get log.claims 0))
  owed_by stop is =
      ap (λ k. option_or (cut_by_stop k (stop_at_last setup.monitors (marked_from setup.start (take k state.claims))) state.cut) (cut_at k (slice_get state.claims k))) all
      ∙ ap (λ s. option_or (cut_by_stop (length log.committed) s state.cut) (cut_at (length log.committed) (slice_get state.claims (length log.committed)))) is
      ∙ ap (λ claim. option_or (cut_by_stop (length log.committed) stop state.cut) (cut_at (length log.committed) claim)) next_is

  owed_by_stop : (monitor : ℕ) → stop_behind setup state log ≡ Some monitor → owed_cut setup state ≡ Some (record { number = length log.committed; cause = stopped_by monitor })
  owed_by_stop monitor is = owed_by (Some monitor) is ∙ ap (λ cut. option_or cut (cut_at (length log.committed) (slice_get log.claims 0))) (stop_owes (length log.committed) monitor state.cut only)

  owed_at_next : NoneStops setup state log → owed_cut setup state ≡ cut_at (length log.committed) (slice_get log.claims 0)
  owed_at_next is = owed_by None is

-- where a monitor stops the run its cut is owed
pub owes_stop : (setup : PlainSetup) (s : Standing) (monitor : ℕ) (is : IsStopped setup s monitor) → OnlyGivenBack (option_map cut_view s.cut)
    → (committed setup is.told.state ≡ length (log_view s.log).committed) × (owed_cut setup is.told.state ≡ Some (record { number = length (log_view s.log).committed; cause = stopped_by monitor }))
owes_stop setup s monitor is only =
    let all = committed_at_stop setup is.told.state (log_view s.log) is.told.told.has is.told.told.all_in monitor is.stop in
    (all, owed_by_stop setup is.told.state (log_view s.log) is.told.told.has (subst OnlyGivenBack is.told.cut only) all monitor is.stop)

-- where none does, the cut of the next claim's fault is, if it has one
pub owes_next : (setup : PlainSetup) (s : Standing) (may : MayCommit setup s) → NextWaits s → OnlyGivenBack (option_map cut_view s.cut)
    → (committed setup may.told.state ≡ length (log_view s.log).committed) × (owed_cut setup may.told.state ≡ cut_at (length (log_view s.log).committed) (slice_get (log_view s.log).claims 0))
owes_next setup s may waits only =
    let all = committed_here setup may.told.state (log_view s.log) may.told.told.has may.told.told.all_in waits in
    (all, owed_at_next setup may.told.state (log_view s.log) may.told.told.has (subst OnlyGivenBack may.told.cut only) all may.goes_on)

-- where no more can be committed the run is told
pub told_of : (setup : PlainSetup) (s : Standing) (stop : Option ℕ) → CommitsNoMore setup s stop → IsToldAt setup s
told_of setup s (Some monitor) stopped = stopped.told
told_of setup s None waits = waits.0.told

-- ---- the cut that is owed is made

-- what is owed where the run is told is owed in each state that its journal leads to
owed_there : (setup : PlainSetup) (s : Standing) (told : IsToldAt setup s) (owed : Option PlainCut) → owed_cut setup told.state ≡ owed → (state : PlainState) → IsState setup (events_in s) state → owed_cut setup state ≡ owed
owed_there setup s told owed is state reached = ap (owed_cut setup) (one_state setup (events_in s) state told.state reached told.told.reached) ∙ is

-- where none is owed the journal is as it was
pub adds_none : (setup : PlainSetup) (s : Standing) → OwesCut setup s None → AddsOwedCut setup s s
adds_none setup s owes = record { owed = None; events = sym (append-nil (events_in s)); owed_is = owed_there setup s owes.0 None owes.2 }

-- the cut that is owed may be made, and is then in the journal
pub may_make : (setup : PlainSetup) (s : Standing) (cause : End) (number : ℕ) → number ≡ length (log_view s.log).committed → OwesCut setup s (Some cause) → IsDueAt setup s (record { number = number; cause = end_view cause })
may_make setup s cause number is owes = record { told = owes.0; all_committed = owes.1; due = inl (owes.2 ∙ ap (λ k. Some (record { number = k; cause = end_view cause })) (sym is)) }

pub adds_cut : (setup : PlainSetup) (old new : Standing) (cause : End) (number : ℕ) → number ≡ length (log_view old.log).committed → OwesCut setup old (Some cause) → events_in new ≡ events_in old ++ cut_made number ∷ [] → AddsOwedCut setup old new
adds_cut setup old new cause number is owes events = record {
  owed = Some (record { number = number; cause = end_view cause });
  events = events;
  owed_is = owed_there setup old owes.0 (Some (record { number = number; cause = end_view cause })) (owes.2 ∙ ap (λ k. Some (record { number = k; cause = end_view cause })) (sym is));
}

-- it follows a completion
pub adds_completion
    : (setup : PlainSetup) (seat number : ℕ) (old mid new : Standing)
    → events_in mid ≡ events_in old ++ claim_completed seat number ∷ []
    → AddsOwedCut setup mid new
    → AddsCompletion setup seat number old new
adds_completion setup seat number old mid new completed adds = record {
  owed = adds.owed;
  events = adds.events ∙ ap (λ es. es ++ cut_events adds.owed) completed ∙ append_assoc (events_in old) (claim_completed seat number ∷ []) (cut_events adds.owed);
  owed_is = λ after is. adds.owed_is after (subst (λ es. IsState setup es after) (sym completed) is);
}
