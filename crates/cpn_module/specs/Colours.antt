-- Colour sets that agree: that are the same, whatever their names. Source: own choice.
use Rattle.std.specs.Prelude.{Bool, false, ◌||◌, ℕ, List, Option, Some}
use Rattle.std.specs.Str.{bytes_eq}
use Rattle.cpn_definitions.specs.Colour.{PlainColour}
use Rattle.cpn_same.specs.SameColours.{same_colour}
use Rattle.cpn_typing.specs.Names.{Declared, colour_named}

abbrev pub are_one_colour : Option PlainColour → Option PlainColour → Bool
are_one_colour (Some c) (Some d) = same_colour c d
are_one_colour o p = false

-- whether the colour sets of two names agree
abbrev pub colours_agree : Declared → List ℕ → List ℕ → Bool
colours_agree ds name other = bytes_eq name other || are_one_colour (colour_named name ds) (colour_named other ds)
