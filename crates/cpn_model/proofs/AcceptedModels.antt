-- A model that bytes are is one of what it has loaded, whose phases are read as its own; and the first phase that is written starts from the
-- initial marking.
use Rattle.std.proofs.Common.{◌≡◌, ℕ, List, refl, sym, subst}
use Rattle.cpn_document.specs.Phases.{StartInitially}
use Rattle.cpn_edit_texts.specs.Checked.{phases_so}
use Rattle.cpn_edit_texts.specs.Reading.{of_monitors}
use Rattle.cpn_file.specs.Reads.{IsReadAs}
use Rattle.cpn_flat.specs.Flat.{PlainLoaded}
use Rattle.cpn_module_nets.proofs.WellAccepted.{checked_read}
use Rattle.cpn_monitor_texts.specs.Checked.{monitors_so}
use Rattle.cpn_readings.specs.Relations.{refused_by}
use Rattle.cpn_readings.proofs.Readings.{same_read}
use Rattle.cpn_readings.proofs.RelatedReadings.{step_parts}
use Rattle.cpn_model.specs.Models.{model_in, IsModel}
use Rattle.cpn_model.specs.Reading.{PlainModel, of_document, of_edits, read}
use Rattle.cpn_model.proofs.LoadedDocuments.{read_well}

-- What was loaded of a model, and its phases.
pub record IsModelOf (loaded : PlainLoaded) (model : PlainModel) : Type 0 where
  pub loaded_is : model.loaded ≡ loaded
  pub phases_are : phases_so model.loaded.declared model.monitors 0 model.loaded.net model.loaded.phases (read model.phases)

-- What is a model of what is loaded has loaded it.
pub model_parts : (loaded : PlainLoaded) (model : PlainModel) → model_in loaded (read model) → IsModelOf loaded model
unfolding model_in
model_parts loaded model h =
    let ms = step_parts (refused_by of_monitors (monitors_so loaded.declared loaded.net loaded.monitors)) _ model h in
    let phases = step_parts (phases_so loaded.declared ms.0 0 loaded.net loaded.phases) _ model ms.2 in
    let same = same_read model (record { loaded = loaded; monitors = ms.0; phases = phases.0 }) phases.2 in
    subst (IsModelOf loaded) (sym same) (record { loaded_is = refl; phases_are = phases.1 })

-- An accepted model: it is one of what it has loaded, and the first phase that is written there starts from the initial marking.
pub record IsAcceptedModel (model : PlainModel) : Type 0 where
  pub reads : model_in model.loaded (read model)
  pub starts : StartInitially model.loaded.phases

-- The law.
pub model_is_accepted : (bytes : List ℕ) (model : PlainModel) → IsModel bytes (read model) → IsAcceptedModel model
unfolding IsModel
model_is_accepted bytes model h =
    let loaded = step_parts (refused_by of_document (IsReadAs bytes)) _ model h in
    let is = checked_read of_document (IsReadAs bytes) loaded.0 loaded.1 in
    let reads : model_in loaded.0 (read model) = checked_read of_edits (model_in loaded.0) model loaded.2 in
    let same : model.loaded ≡ loaded.0 = (model_parts loaded.0 model reads).loaded_is in
    record {
      reads = subst (λ (l : PlainLoaded). model_in l (read model)) (sym same) reads;
      starts = subst (λ (l : PlainLoaded). StartInitially l.phases) (sym same) (read_well bytes loaded.0 is).starts;
    }
