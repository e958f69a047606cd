-- Readings of a document as a model: a value, or the first refusal. Source: own choice.
use Rattle.std.specs.Prelude.{List}
use Rattle.cpn_edit_texts.specs.Edits.{EditedPhase}
use Rattle.cpn_edit_texts.specs.Reading.{EditRefusal}
use Rattle.cpn_file.specs.Reading.{Refusal}
use Rattle.cpn_flat.specs.Flat.{PlainLoaded}
use Rattle.cpn_monitor.specs.Monitors.{PlainMonitor}
use Rattle.cpn_readings.specs.Reading as readings
pub use Rattle.cpn_readings.specs.Reading.{read, refused}

-- A model: what is loaded of a document; its monitors in the net; and its phases, whose edits are made of that net one after another.
pub record PlainModel : Type 0 where
  pub loaded : PlainLoaded
  pub monitors : List PlainMonitor
  pub phases : List EditedPhase

-- Why the bytes of a document are no model. The refusals come in this order: what the document is refused for, with all of it but the
-- monitors and the phases; then one of its monitors, and last one of its edits, which `EditRefusal` tells apart.
pub data ModelRefusal : Type 0 where
  of_document : Refusal → ModelRefusal
  of_edits : EditRefusal → ModelRefusal

-- A reading: a value, or such a refusal.
abbrev pub Reading : Type 0 → Type 0
Reading = readings.Reading ModelRefusal
