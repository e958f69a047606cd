-- Variables that are declared once their colour set is known.
use Rattle.std.specs.Prelude.{List}
use Rattle.cpn_definitions.specs.Colour.{PlainColour}
use Rattle.cpn_typing.specs.ColourSets.{with_all_new, other_names}
use Rattle.cpn_typing.specs.Declarations.{with_variables}
use Rattle.cpn_typing.specs.Names.{Name, Declared, duplicate, Checked, ok, refused, ◌>>=◌}

-- what is declared with variables of a colour set, or the first of their names that is not new
abbrev pub declared_with : Declared → List Name → PlainColour → Checked Declared
declared_with ds ns colour = with_all_new ns (other_names ds) >>= λ taken. ok (with_variables ds ns colour)

-- a name that is not new
abbrev pub old_name : Name → Checked (List Name)
old_name n = refused (duplicate n)
