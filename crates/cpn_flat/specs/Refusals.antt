-- Why an accepted document has no flat net with an initial marking. Source: own choice.
use Rattle.std.specs.Prelude.{ℕ, List}
use Rattle.cpn_definitions.specs.Outcome.{Fault}
use Rattle.cpn_readings.specs.Reading as readings
pub use Rattle.cpn_readings.specs.Reading.{read, refused}
unfoldable pub use Rattle.cpn_readings.specs.Reading.{each_from}

-- It has too many instances, place instances or transition instances; an initial marking at the compound place of this name has
-- a fault; two members of the compound place of this name have initial markings that differ.
pub data FlatRefusal : Type 0 where
  instances : FlatRefusal
  places : FlatRefusal
  transitions : FlatRefusal
  init : List ℕ → Fault → FlatRefusal
  initial_differs : List ℕ → FlatRefusal

-- A reading: a value, or such a refusal.
abbrev pub Reading : Type 0 → Type 0
Reading = readings.Reading FlatRefusal
