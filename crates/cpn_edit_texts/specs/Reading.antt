-- Readings of the monitors and the edits of a document: a value, or the first refusal. Source: own choice.
use Rattle.cpn_definitions.specs.Outcome.{Fault}
use Rattle.cpn_document.specs.declared.pointers.Pointer.{Pointer}
use Rattle.cpn_text_refusals.specs.Refusals.{TextRefusal}
use Rattle.cpn_monitor_texts.specs.Reading.{MonitorRefusal}
use Rattle.cpn_readings.specs.Reading as readings
pub use Rattle.cpn_readings.specs.Reading.{read, refused, ◌>>=◌}

-- Why the monitors and the edits of a document are refused: its monitors are; or, of an edit, the one at a pointer names a transition, or a
-- place, that is not in the net; the text at a pointer is refused, as the texts of nets are, or since the variables of the transition would
-- not be bindable, or would lack one of a monitor; or the initial marking that it is has a fault.
pub data EditRefusal : Type 0 where
  unknown_name : Pointer → EditRefusal
  bad_text : Pointer → TextRefusal → EditRefusal
  faulty : Pointer → Fault → EditRefusal
  of_monitors : MonitorRefusal → EditRefusal

-- A reading: a value, or such a refusal.
abbrev pub Reading : Type 0 → Type 0
Reading = readings.Reading EditRefusal
