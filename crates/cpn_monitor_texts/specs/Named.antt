-- What the names in monitors name. Source: own choice.
use Rattle.std.specs.Prelude.{◌≡◌, ℕ, List, Option, Some, None}
use Rattle.cpn_definitions.specs.DistinctNames.{place_names, transition_names}
use Rattle.cpn_definitions.specs.Net.{PlainNet}
use Rattle.cpn_names.specs.Names.{number_of}
use Rattle.cpn_monitor_texts.specs.Reading.{unknown_name, Reading, read, refused}

-- The transition, and the place, of a net that has a flattened name, by its number.
abbrev pub transition_named : PlainNet → List ℕ → Option ℕ
transition_named n name = number_of name (transition_names n)

abbrev pub place_named : PlainNet → List ℕ → Option ℕ
place_named n name = number_of name (place_names n)

-- The names of the transitions and of the places of a net.
pub record AreNamesOf (n : PlainNet) (transitions places : List (List ℕ)) : Type 0 where
  pub transitions_are : transitions ≡ transition_names n
  pub places_are : places ≡ place_names n

-- what the monitor of a number names, or the refusal where that is not there
abbrev pub known : ℕ → Option ℕ → Reading ℕ
known i None = refused (unknown_name i)
known i (Some k) = read k
