-- Alternatives of a union, one at a time.
use Rattle.std.specs.Prelude.{List, map, Option, Some, None, option_map}
use Rattle.cpn_definitions.specs.Colour.{PlainShape}
use Rattle.cpn_core.specs.Colours.{constructors_view}
use Rattle.cpn_core.specs.declared.colours.Shape.{Shape}
use Rattle.cpn_trees.specs.DeclTrees.{PlainAlternative}
use Rattle.cpn_typing.specs.ColourSets.{Alternatives, component, with_new, other_names}
use Rattle.cpn_typing.specs.Names.{Name, NamedConstructor, Declared, Checked, ok, ◌>>=◌}
use Rattle.cpn_typing.specs.Types.{type_of_shape}
use Rattle.cpn_declared.specs.DeclsViews.{constructor_view}
use Rattle.cpn_declared.specs.declared.decls.Constructor.{Constructor}

-- the shape of an argument, where there is one
abbrev pub argument_in : Declared → Option Name → Checked (Option PlainShape)
argument_in ds None = ok None
argument_in ds (Some colour) = component ds colour >>= λ s. ok (Some s)

-- the same of an alternative, whose name is new
abbrev pub alternative_in : Declared → PlainAlternative → Checked (Option PlainShape)
alternative_in ds a = with_new a.constructor (other_names ds) >>= λ now. argument_in ds a.argument

abbrev pub constructor_with : Name → Option PlainShape → NamedConstructor
constructor_with n argument = record { name = n; argument = option_map type_of_shape argument }

-- what was read of alternatives
abbrev pub alternatives_seen : List (Option Shape) → List Constructor → Alternatives
alternatives_seen shapes constructors = record { shapes = constructors_view shapes; constructors = map constructor_view constructors }
