-- What the bytes of a document are as a model. Source: own choice.
use Rattle.std.specs.Prelude.{ℕ, List}
use Rattle.cpn_edit_texts.specs.Checked.{phases_so}
use Rattle.cpn_edit_texts.specs.Reading as edits
use Rattle.cpn_edit_texts.specs.Reading.{of_monitors}
use Rattle.cpn_file.specs.Reads.{IsReadAs}
use Rattle.cpn_flat.specs.Flat.{PlainLoaded}
use Rattle.cpn_monitor_texts.specs.Checked.{monitors_so}
use Rattle.cpn_readings.specs.Relations.{just, refused_by, ◌>>=◌}
use Rattle.cpn_model.specs.Reading.{PlainModel, of_document, of_edits, Reading, read}

-- What is loaded as a model: its monitors in its net come first, and then its phases, whose edits have to leave these monitors accepted.
unfoldable pub model_in : PlainLoaded → edits.Reading PlainModel → Type 0
model_in loaded = do
  monitors ← refused_by of_monitors (monitors_so loaded.declared loaded.net loaded.monitors)
  phases ← phases_so loaded.declared monitors 0 loaded.net loaded.phases
  just (read (record { loaded = loaded; monitors = monitors; phases = phases }))

-- What the bytes are as a model: what they are read as, with its monitors and its phases; or the first refusal. They are at most one.
unfoldable pub IsModel : List ℕ → Reading PlainModel → Type 0
IsModel bytes = do
  loaded ← refused_by of_document (IsReadAs bytes)
  refused_by of_edits (model_in loaded)
