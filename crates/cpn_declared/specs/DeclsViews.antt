-- What the declarations of the program stand for.
use Rattle.std.specs.Prelude.{List, map, string_bytes, option_map}
use Rattle.cpn_core.specs.declared.colours.Colour.{Colour}
use Rattle.cpn_core.specs.Colours.{colour_view}
use Rattle.cpn_core.specs.Nets.{variable_view}
use Rattle.cpn_core.specs.Inscriptions.{funs_view}
use Rattle.cpn_typing.specs.Names.{Name, Meant, a_variable, a_constant, a_constructor, a_function, NamedColour, NamedMeaning, NamedConstructor, Declared}
use Rattle.cpn_declared.specs.TypeViews.{ty_view, tys_view}
use Rattle.cpn_declared.specs.declared.meanings.Meaning.{Meaning}
use Rattle.cpn_declared.specs.declared.meanings.Meaning.TheVariants as kinds
use Rattle.cpn_declared.specs.declared.decls.Constructor.{Constructor}
use Rattle.cpn_declared.specs.declared.decls.Decls.{Decls}

abbrev pub meaning_view : Meaning → Meant
meaning_view (kinds.Variable number ty) = a_variable number (ty_view ty)
meaning_view (kinds.Constant enumeration position) = a_constant enumeration position
meaning_view (kinds.Constructor union position argument) = a_constructor union position (option_map ty_view argument)
meaning_view (kinds.Function number parameters result) = a_function number (tys_view parameters.items) (ty_view result)

abbrev pub colour_entry : Name × Colour → NamedColour
colour_entry e = record { name = e.0; colour = colour_view e.1 }

abbrev pub meaning_entry : Name × Meaning → NamedMeaning
meaning_entry e = record { name = e.0; meant = meaning_view e.1 }

abbrev pub constructor_view : Constructor → NamedConstructor
constructor_view c = record { name = string_bytes c.name; argument = option_map ty_view c.argument }

abbrev pub decls_view : Decls → Declared
decls_view d = record {
  colours = map colour_entry d.colours;
  names = map meaning_entry d.names;
  variables = map variable_view d.variables.items;
  enumerations = map (λ constants. map string_bytes constants.items) d.enumerations.items;
  unions = map (λ constructors. map constructor_view constructors.items) d.unions.items;
  functions = funs_view d.funs;
}

-- the names of the constructors of a union
abbrev pub constructor_names : List NamedConstructor → List Name
constructor_names = map (λ c. c.name)
