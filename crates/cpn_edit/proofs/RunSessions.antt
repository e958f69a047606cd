-- From where a session stands a run may start, and after it the session is valid.
use Rattle.std.proofs.Common.{ℕ, inl, inr, length, refl, sym, subst, arith}
use Rattle.std.proofs.lemmas.List.Sums.{sum_by-cons}
use Rattle.cpn_definitions.specs.Marking.{Marking}
use Rattle.cpn_document.specs.declared.document.Start.{Start}
use Rattle.cpn_document.specs.declared.document.Start.TheVariants as starts
use Rattle.cpn_monitor.specs.Fitting.{FitNet}
use Rattle.cpn_monitor_texts.proofs.FittingMonitors.{accepted_fit}
use Rattle.cpn_runs.specs.Phases.{PlainPhase, IsInitialStart, IsNextStart, IsNextSetup}
use Rattle.cpn_runs.specs.Playable.{IsPlayable}
use Rattle.cpn_runs.specs.Run.{IsRun}
use Rattle.cpn_runs.specs.State.{PlainSetup}
use Rattle.cpn_runs.proofs.GrownRuns.{phases_go_on, run_ends_within_limits}
use Rattle.cpn_edit.specs.Sessions.{PlainSession, setup_of, StartsAt, IsNextRun, after_run}
use Rattle.cpn_edit.specs.Standing.{IsValid}

module _ (s : PlainSession) (valid : IsValid s) where
  pub monitors_fit : FitNet s.net s.net.functions s.monitors
  monitors_fit = accepted_fit s.declared s.net valid.ready.editable.consistent valid.ready.editable.declares s.monitors valid.ready.editable.measured

  next_start : (from : Start) (start : Marking) (clock : ℕ) → StartsAt s from start clock → IsNextStart s.net.places s.earlier start clock
  next_start starts.Initial start clock (start_is, clock_is) =
      inl (subst (λ (m : Marking). IsInitialStart s.net.places m clock) (sym start_is) (record { marking = valid.ready.marking; few = valid.ready.bounded; clock_is = clock_is }))
  next_start starts.Here start clock at = inr at

  module _ (from : Start) (start : Marking) (clock : ℕ) (at : StartsAt s from start clock) where
    next_setup : IsNextSetup s.net.places s.limits.until s.earlier (setup_of s start clock)
    next_setup =
        let few = valid.steps in
        record {
          sound = valid.ready.editable.sound;
          places_are = refl;
          start = next_start from start clock at;
          until_is = refl;
          steps = omega (arith, few);
          monitors = monitors_fit;
          some_seat = valid.some_seat;
          few_seats = valid.few_seats;
        }

    -- A run may start from the setup of the next run.
    pub setup_playable : IsPlayable (setup_of s start clock)
    setup_playable = phases_go_on s.net.places s.limits.until s.earlier (setup_of s start clock) valid.until valid.runs next_setup

  -- A session is valid after its next run.
  pub run_valid : (from : Start) (run : PlainPhase) → IsNextRun s from run → IsValid (after_run s run)
  run_valid from run next =
      let setup = next.setup_is in
      let is_run : IsRun (setup_of s next.start next.clock) run.run = subst (λ (x : PlainSetup). IsRun x run.run) setup next.is_run in
      let ends = run_ends_within_limits (setup_of s next.start next.clock) run.run (setup_playable from next.start next.clock next.starts_at) is_run in
      let few = valid.few in
      let own = ends.few_occurrences in
      let all = sum_by-cons (λ (phase : PlainPhase). length phase.run.occurrences) run s.earlier in
      record {
        ready = valid.ready;
        accepted = valid.accepted;
        runs = (record { setup = subst (IsNextSetup s.net.places s.limits.until s.earlier) (sym setup) (next_setup from next.start next.clock next.starts_at); is_run = next.is_run }, valid.runs);
        few = omega (arith, few, own, all);
        steps = valid.steps;
        until = valid.until;
        some_seat = valid.some_seat;
        few_seats = valid.few_seats;
      }
