-- Readings: what a document is read as: a value, or the first refusal. Source: own choice.
use Rattle.cpn_readings.specs.Reading as readings
pub use Rattle.cpn_readings.specs.Reading.{read, refused}
use Rattle.cpn_document.specs.Refusals.{FormRefusal}
use Rattle.cpn_module_nets.specs.Reading.{NetRefusal}
use Rattle.cpn_flat.specs.Refusals.{FlatRefusal}

-- Why a document is refused: for its form; since its modules make no hierarchy, or a text is refused, or the variables of a
-- transition; since it has no flat net with an initial marking.
pub data Refusal : Type 0 where
  of_form : FormRefusal → Refusal
  of_net : NetRefusal → Refusal
  of_flat : FlatRefusal → Refusal

-- A reading: a value, or such a refusal.
abbrev pub Reading : Type 0 → Type 0
Reading = readings.Reading Refusal
