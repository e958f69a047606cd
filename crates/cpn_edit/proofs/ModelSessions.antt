-- The session of a model: its phases are accepted in its net.
use Rattle.std.proofs.Common.{◌≡◌, ◌<◌, ◌≤◌, List, [], ◌∷◌, refl, sym, ap, subst, arith}
use Rattle.cpn_definitions.specs.Net.{PlainNet}
use Rattle.cpn_definitions.specs.Times.{last_time}
use Rattle.cpn_document.specs.Phases.{RawPhase}
use Rattle.cpn_document.specs.declared.document.Start.TheVariants as starts
use Rattle.cpn_edit_texts.specs.Checked.{edits_so, phase_so, phases_so}
use Rattle.cpn_edit_texts.specs.Edits.{EditedPhase}
use Rattle.cpn_edit_texts.specs.Reading.{of_monitors, read}
use Rattle.cpn_edit_texts.specs.Ready.{IsReady}
use Rattle.cpn_flat.specs.Flat.{PlainLoaded}
use Rattle.cpn_model.specs.Models.{model_in}
use Rattle.cpn_model.specs.Reading.{PlainModel}
use Rattle.cpn_monitor.specs.Monitors.{PlainMonitor}
use Rattle.cpn_monitor_texts.specs.Checked.{monitors_so}
use Rattle.cpn_readings.specs.Relations.{refused_by}
use Rattle.cpn_readings.proofs.Readings.{same_read}
use Rattle.cpn_readings.proofs.RelatedReadings.{then_read, step_parts}
use Rattle.cpn_runs.specs.Bounds.{most_steps}
use Rattle.cpn_typing.specs.Names.{Declared}
use Rattle.cpn_edit.specs.Sessions.{SessionLimits, phases_run, session_of}
use Rattle.cpn_edit.specs.Standing.{AreAcceptedPhases, IsValid}

-- its phases are those that are written
pub model_accepted : (loaded : PlainLoaded) (model : PlainModel) → model_in loaded (read model) → AreAcceptedPhases model.loaded.declared model.monitors model.loaded.net model.phases
unfolding model_in
model_accepted loaded model h =
    let monitors = step_parts (refused_by of_monitors (monitors_so loaded.declared loaded.net loaded.monitors)) _ model h in
    let phases = step_parts (phases_so loaded.declared monitors.0 0 loaded.net loaded.phases) _ model monitors.2 in
    subst (λ (m : PlainModel). AreAcceptedPhases m.loaded.declared m.monitors m.loaded.net m.phases) (sym (same_read model (record { loaded = loaded; monitors = monitors.0; phases = phases.0 }) phases.2))
    (0, loaded.phases, phases.1)

-- what is loaded as a model is what the model has
same_loaded : (loaded : PlainLoaded) (model : PlainModel) → model_in loaded (read model) → model.loaded ≡ loaded
unfolding model_in
same_loaded loaded model h =
    let monitors = step_parts (refused_by of_monitors (monitors_so loaded.declared loaded.net loaded.monitors)) _ model h in
    let phases = step_parts (phases_so loaded.declared monitors.0 0 loaded.net loaded.phases) _ model monitors.2 in
    ap (λ (m : PlainModel). m.loaded) (same_read model (record { loaded = loaded; monitors = monitors.0; phases = phases.0 }) phases.2)

pub its_loaded : (loaded : PlainLoaded) (model : PlainModel) → model_in loaded (read model) → model_in model.loaded (read model)
its_loaded loaded model h = subst (λ (l : PlainLoaded). model_in l (read model)) (sym (same_loaded loaded model h)) h

-- ---- where none is written

abbrev alone : RawPhase
alone = record { start = starts.Initial; edits = [] }

no_edits : (ds : Declared) (n : PlainNet) (monitors : List PlainMonitor) → edits_so ds monitors 0 0 n [] (read [])
unfolding edits_so
no_edits ds n monitors = refl

alone_accepted : (ds : Declared) (n : PlainNet) (monitors : List PlainMonitor) → phase_so ds monitors n 0 alone (read (record { start = starts.Initial; edits = [] }))
unfolding phase_so
alone_accepted ds n monitors = then_read (edits_so ds monitors 0 0 n []) _ [] (read (record { start = starts.Initial; edits = [] })) (no_edits ds n monitors) refl

none_after : (ds : Declared) (n : PlainNet) (monitors : List PlainMonitor) → phases_so ds monitors 1 n [] (read [])
unfolding phases_so
none_after ds n monitors = refl

one_alone : (ds : Declared) (n : PlainNet) (monitors : List PlainMonitor) → phases_so ds monitors 0 n (alone ∷ []) (read (phases_run []))
unfolding phases_so
one_alone ds n monitors =
    let phase : EditedPhase = record { start = starts.Initial; edits = [] } in
    then_read (phase_so ds monitors n 0 alone) _ phase (read (phases_run [])) (alone_accepted ds n monitors)
    (then_read (phases_so ds monitors 1 n []) _ [] (read (phases_run [])) (none_after ds n monitors) refl)

-- the phases that are run are accepted
pub run_accepted : (ds : Declared) (n : PlainNet) (monitors : List PlainMonitor) (phases : List EditedPhase) → AreAcceptedPhases ds monitors n phases → AreAcceptedPhases ds monitors n (phases_run phases)
run_accepted ds n monitors [] are = (0, alone ∷ [], one_alone ds n monitors)
run_accepted ds n monitors (phase ∷ phases) are = are

-- The session of a model that is ready for a run is valid.
pub model_valid : (limits : SessionLimits) (loaded : PlainLoaded) (model : PlainModel) → model_in loaded (read model) → IsReady model.loaded.declared model.loaded.net model.loaded.initial model.monitors
    → limits.steps ≤ most_steps → limits.until ≤ last_time → 0 < limits.seats → limits.seats ≤ 64 → IsValid (session_of limits model)
model_valid limits loaded model reads ready steps until some few = record {
  ready = ready;
  accepted = run_accepted model.loaded.declared model.loaded.net model.monitors model.phases (model_accepted loaded model reads);
  runs = tt;
  few = omega arith;
  steps = steps;
  until = until;
  some_seat = some;
  few_seats = few;
}
