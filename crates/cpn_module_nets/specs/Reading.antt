-- Readings: what a document, or a part of one, is read as: a value, or the first refusal. Source: own choice.
use Rattle.cpn_readings.specs.Reading as readings
pub use Rattle.cpn_readings.specs.Reading.{read, refused, ◌>>=◌}
unfoldable pub use Rattle.cpn_readings.specs.Reading.{each_from}
use Rattle.cpn_document.specs.declared.pointers.Pointer.{Pointer}
use Rattle.cpn_module.specs.Refusals.{ModuleRefusal}
use Rattle.cpn_text_refusals.specs.Refusals.{TextRefusal}

-- Why the nets of a document are refused: its modules make no hierarchy; the text at a place is refused, or, of a transition, its
-- variables are.
pub data NetRefusal : Type 0 where
  of_modules : ModuleRefusal → NetRefusal
  inscription : Pointer → TextRefusal → NetRefusal

-- A reading: a value, or such a refusal.
abbrev pub Reading : Type 0 → Type 0
Reading = readings.Reading NetRefusal
