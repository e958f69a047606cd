-- What bytes are as a model is well: what is loaded is, and is ready for a run and for edits with its monitors, which fit its net, under well
-- spelled names.
use Rattle.std.proofs.Common.{◌≡◌, ℕ, true, List, [], ◌∷◌, suc, refl, sym, ap, subst}
use Rattle.std.specs.List.{list_all}
use Rattle.std.proofs.lemmas.Bool.{and_parts, and_from}
use Rattle.cpn_definitions.specs.DistinctNames.{is_path}
use Rattle.cpn_definitions.specs.Net.{PlainNet}
use Rattle.cpn_document.specs.Monitors.{RawMonitor}
use Rattle.cpn_edit_texts.specs.Checked.{phases_so}
use Rattle.cpn_edit_texts.specs.Edits.{EditedPhase}
use Rattle.cpn_edit_texts.specs.Reading.{of_monitors}
use Rattle.cpn_edit_texts.specs.Ready.{IsReady}
use Rattle.cpn_file.specs.Reading as files
use Rattle.cpn_file.specs.Reads.{IsReadAs}
use Rattle.cpn_file.proofs.WellRead.{IsWellRead, read_is_well}
use Rattle.cpn_flat.specs.Flat.{PlainLoaded}
use Rattle.cpn_monitor.specs.Fitting.{FitNet}
use Rattle.cpn_monitor.specs.Monitors.{PlainMonitor}
use Rattle.cpn_monitor_texts.specs.Checked.{measure_so, monitor_so, monitors_so}
use Rattle.cpn_monitor_texts.specs.Reading as monitors
use Rattle.cpn_monitor_texts.proofs.FittingMonitors.{accepted_fit, monitors_accepted}
use Rattle.cpn_readings.specs.Relations.{refused_by}
use Rattle.cpn_readings.proofs.Readings.{same_read}
use Rattle.cpn_readings.proofs.RelatedLists.{AreRead, each_read}
use Rattle.cpn_readings.proofs.RelatedReadings.{step_parts}
use Rattle.cpn_module_nets.proofs.WellAccepted.{checked_read}
use Rattle.cpn_typing.specs.Names.{Declared}
use Rattle.cpn_model.specs.Models.{model_in, IsModel}
use Rattle.cpn_model.specs.Reading.{PlainModel, of_document, of_edits, read}
use Rattle.cpn_model.proofs.LoadedDocuments.{read_well}
use Rattle.cpn_model.proofs.ReadyModels.{is_ready}

-- the names of monitors are well spelled
abbrev pub AreSpelled : List PlainMonitor → Type 0
AreSpelled ms = list_all (λ (monitor : PlainMonitor). is_path monitor.name) ms ≡ true

-- A model is well: what is loaded is, and is ready with its monitors; and these fit its net, under well spelled names.
pub record IsWellModel (model : PlainModel) : Type 0 where
  pub well : IsWellRead model.loaded
  pub ready : IsReady model.loaded.declared model.loaded.net model.loaded.initial model.monitors
  pub fit : FitNet model.loaded.net model.loaded.net.functions model.monitors
  pub spelled : AreSpelled model.monitors

module _ (ds : Declared) (n : PlainNet) where
  -- a monitor keeps its name
  keeps_name : (i : ℕ) (raw : RawMonitor) (monitor : PlainMonitor) → monitor_so ds n i raw (monitors.read monitor) → monitor.name ≡ raw.name
  unfolding monitor_so
  keeps_name i raw monitor h =
      let measure = step_parts (measure_so ds n i raw.kind) _ monitor h in
      ap (λ (m : PlainMonitor). m.name) (same_read monitor (record { name = raw.name; measure = measure.0 }) measure.2)

  keep_names : (i : ℕ) (raws : List RawMonitor) (ms : List PlainMonitor) → AreRead (monitor_so ds n) i raws ms → list_all (λ (raw : RawMonitor). is_path raw.name) raws ≡ true → AreSpelled ms
  keep_names i [] [] are h = refl
  keep_names i (raw ∷ raws) (m ∷ ms) are h =
      let parts = and_parts (is_path raw.name) (list_all (λ (r : RawMonitor). is_path r.name) raws) h in
      and_from (is_path m.name) (list_all (λ (x : PlainMonitor). is_path x.name) ms) (subst (λ name. is_path name ≡ true) (sym (keeps_name i raw m are.0)) parts.0) (keep_names (suc i) raws ms are.1 parts.1)
  keep_names i [] (m ∷ ms) are h = absurd are
  keep_names i (raw ∷ raws) [] are h = absurd are

-- what is loaded and has its monitors
module _ (bytes : List ℕ) (loaded : PlainLoaded) (is : IsReadAs bytes (files.read loaded)) where
  well_in : (ms : List PlainMonitor) (phases : List EditedPhase) → monitors_so loaded.declared loaded.net loaded.monitors (monitors.read ms) → IsWellModel (record { loaded = loaded; monitors = ms; phases = phases })
  well_in ms phases h =
      let well = read_is_well bytes loaded is in
      let read_so = read_well bytes loaded is in
      let measured = monitors_accepted loaded.declared loaded.net loaded.monitors ms h in
      record {
        well = well;
        ready = is_ready loaded ms read_so.consistent well.well measured;
        fit = accepted_fit loaded.declared loaded.net read_so.consistent well.well.declares ms measured;
        spelled = keep_names loaded.declared loaded.net 0 loaded.monitors ms (each_read (monitor_so loaded.declared loaded.net) 0 loaded.monitors ms h) read_so.spelled;
      }

  well_loaded : (model : PlainModel) → model_in loaded (read model) → IsWellModel model
  unfolding model_in
  well_loaded model h =
      let ms = step_parts (refused_by of_monitors (monitors_so loaded.declared loaded.net loaded.monitors)) _ model h in
      let are = checked_read of_monitors (monitors_so loaded.declared loaded.net loaded.monitors) ms.0 ms.1 in
      let phases = step_parts (phases_so loaded.declared ms.0 0 loaded.net loaded.phases) _ model ms.2 in
      subst IsWellModel (sym (same_read model (record { loaded = loaded; monitors = ms.0; phases = phases.0 }) phases.2)) (well_in ms.0 phases.0 are)

-- The law.
pub model_is_well : (bytes : List ℕ) (model : PlainModel) → IsModel bytes (read model) → IsWellModel model
unfolding IsModel
model_is_well bytes model h =
    let loaded = step_parts (refused_by of_document (IsReadAs bytes)) _ model h in
    let is = checked_read of_document (IsReadAs bytes) loaded.0 loaded.1 in
    well_loaded bytes loaded.0 is model (checked_read of_edits (model_in loaded.0) model loaded.2)
