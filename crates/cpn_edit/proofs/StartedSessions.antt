-- The session of an accepted model is valid, and its first phase starts from the initial marking.
use Rattle.std.proofs.Common.{◌≡◌, ◌<◌, ◌≤◌, ℕ, suc, List, [], ◌∷◌, refl, sym, ap, ◌∙◌, subst, arith}
use Rattle.cpn_definitions.specs.Net.{PlainNet}
use Rattle.cpn_definitions.specs.Times.{last_time}
use Rattle.cpn_document.specs.Phases as written
use Rattle.cpn_document.specs.Phases.{RawPhase}
use Rattle.cpn_edit_texts.specs.Checked.{edits_so, phase_so, phases_so}
use Rattle.cpn_edit_texts.specs.Edits.{EditedPhase, net_after_all}
use Rattle.cpn_edit_texts.specs.Reading.{read}
use Rattle.cpn_edit_texts.specs.Ready.{IsReady}
use Rattle.cpn_model.specs.Models.{model_in}
use Rattle.cpn_model.specs.Reading.{PlainModel}
use Rattle.cpn_model.proofs.AcceptedModels.{model_parts, IsAcceptedModel}
use Rattle.cpn_monitor.specs.Monitors.{PlainMonitor}
use Rattle.cpn_readings.proofs.Readings.{same_read}
use Rattle.cpn_readings.proofs.RelatedReadings.{step_parts}
use Rattle.cpn_runs.specs.Bounds.{most_steps}
use Rattle.cpn_typing.specs.Names.{Declared}
use Rattle.cpn_edit.specs.Sessions.{SessionLimits, phases_run, StartInitially, session_of}
use Rattle.cpn_edit.specs.Standing.{IsValid}
use Rattle.cpn_edit.proofs.ModelSessions.{model_accepted, run_accepted}

-- ---- its first phase

module _ (ds : Declared) (ms : List PlainMonitor) (n : PlainNet) where
  -- the start of a phase is the one that is written
  start_kept : (p : ℕ) (raw : RawPhase) (phase : EditedPhase) → phase_so ds ms n p raw (read phase) → phase.start ≡ raw.start
  unfolding phase_so
  start_kept p raw phase h =
      let edits = step_parts (edits_so ds ms p 0 n raw.edits) _ phase h in
      ap (λ (x : EditedPhase). x.start) (same_read phase (record { start = raw.start; edits = edits.0 }) edits.2)

  first_kept : (p : ℕ) (raws : List RawPhase) (phases : List EditedPhase) → phases_so ds ms p n raws (read phases) → written.StartInitially raws → StartInitially phases
  unfolding phases_so
  first_kept p [] phases h starts_so = subst StartInitially (sym (same_read phases [] h)) tt
  first_kept p (raw ∷ raws) phases h starts_so =
      let first = step_parts (phase_so ds ms n p raw) _ phases h in
      let rest = step_parts (phases_so ds ms (suc p) (net_after_all n first.0.edits) raws) _ phases first.2 in
      subst StartInitially (sym (same_read phases (first.0 ∷ rest.0) rest.2)) (start_kept p raw first.0 first.1 ∙ starts_so)

-- where the first of some phases starts from the initial marking, so does the first that is run
pub run_starts : (phases : List EditedPhase) → StartInitially phases → StartInitially (phases_run phases)
run_starts [] starts_so = refl
run_starts (phase ∷ phases) starts_so = starts_so

-- The first phase of an accepted model starts from the initial marking.
pub model_starts : (model : PlainModel) → IsAcceptedModel model → StartInitially model.phases
model_starts model accepted =
    first_kept model.loaded.declared model.monitors model.loaded.net 0 model.loaded.phases model.phases (model_parts model.loaded model accepted.reads).phases_are accepted.starts

-- ---- the session

-- limits are in their ranges
pub record AreInRange (limits : SessionLimits) : Type 0 where
  pub steps : limits.steps ≤ most_steps
  pub until : limits.until ≤ last_time
  pub some_seat : 0 < limits.seats
  pub few_seats : limits.seats ≤ 64

-- The session of a model that is ready is valid.
pub session_valid : (limits : SessionLimits) (model : PlainModel) → AreInRange limits → model_in model.loaded (read model) → IsReady model.loaded.declared model.loaded.net model.loaded.initial model.monitors → IsValid (session_of limits model)
session_valid limits model in_range reads ready = record {
  ready = ready;
  accepted = run_accepted model.loaded.declared model.loaded.net model.monitors model.phases (model_accepted model.loaded model reads);
  runs = tt;
  few = omega arith;
  steps = in_range.steps;
  until = in_range.until;
  some_seat = in_range.some_seat;
  few_seats = in_range.few_seats;
}
