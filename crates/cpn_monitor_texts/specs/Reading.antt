-- Readings of the monitors of a document: a value, or the first refusal. Source: own choice.
use Rattle.std.specs.Prelude.{ℕ}
use Rattle.cpn_readings.specs.Reading as readings
pub use Rattle.cpn_readings.specs.Reading.{read, refused, ◌>>=◌}
use Rattle.cpn_text_refusals.specs.Refusals.{TextRefusal}

-- Why monitors are refused: the monitor of a number names a transition, or a place, that is not in the net; its text is refused, as the
-- texts of nets are, or since it has a variable that is none of its transition's.
pub data MonitorRefusal : Type 0 where
  unknown_name : ℕ → MonitorRefusal
  bad_text : ℕ → TextRefusal → MonitorRefusal

-- A reading: a value, or such a refusal.
abbrev pub Reading : Type 0 → Type 0
Reading = readings.Reading MonitorRefusal
