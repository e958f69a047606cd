-- The rules of declarations: what is declared after one, or its first refusal. A declaration is read from left to right: the
-- names that it declares, which are new in their space; the colour sets that it names; its inscription.
-- Source: own choice, after CPN ML.
use Rattle.std.specs.Prelude.{ℕ, ◌+◌, Bool, true, false, if◌then◌else◌, List, [], ◌∷◌, ◌++◌, length, map, Some, None}
use Rattle.cpn_definitions.specs.Colour.{PlainColour}
use Rattle.cpn_definitions.specs.Net.{Coloured}
use Rattle.cpn_trees.specs.DeclTrees.{PlainParameter, PlainDecl, decl, PlainDeclForm, colour_set, variables, value, function}
use Rattle.cpn_typing.specs.Types.{PlainTy, type_of_shape}
use Rattle.cpn_typing.specs.Names.{Name, a_variable, a_function, NamedMeaning, Declared, colour_named, Scope, types_of_scope, is_local, local_of, unknown, duplicate, Checked, ok, ◌>>=◌, accepted_if, required}
use Rattle.cpn_typing.specs.ColourSets.{with_new, with_all_new, other_names, declared_colour}
use Rattle.cpn_typing.specs.Contexts.{in_function}
use Rattle.cpn_typing.specs.Rules.{Typed}
use Rattle.cpn_typing.specs.Expressions.{typed}

-- the colour set of a name, which has to be declared, and its type
abbrev pub colour_of : Declared → Name → Checked PlainColour
colour_of ds n = required (colour_named n ds) (unknown n)

abbrev pub type_named : Declared → Name → Checked PlainTy
type_named ds n = colour_of ds n >>= λ colour. ok (type_of_shape colour.shape)

-- ---- variables

-- variables of a colour set, and their names with what they mean, from a number on
abbrev pub coloured_as : PlainColour → Name → Coloured
coloured_as colour n = record { name = n; colour = colour }

abbrev pub variables_from : ℕ → PlainTy → List Name → List NamedMeaning
variables_from x t [] = []
variables_from x t (n ∷ ns) = record { name = n; meant = a_variable x t } ∷ variables_from (x + 1) t ns

abbrev pub with_variables : Declared → List Name → PlainColour → Declared
with_variables ds ns colour = record {
  colours = ds.colours;
  names = ds.names ++ variables_from (length ds.variables) (type_of_shape colour.shape) ns;
  variables = ds.variables ++ map (coloured_as colour) ns;
  enumerations = ds.enumerations;
  unions = ds.unions;
  functions = ds.functions;
}

-- ---- functions

abbrev pub is_new_local : Name → Scope → Bool
is_new_local n sc = if is_local n sc then false else true

-- parameters, from left to right: the name of each, which none before it has, and then its colour set
abbrev pub scope_of : Declared → List PlainParameter → Scope → Checked Scope
scope_of ds [] sc = ok sc
scope_of ds (p ∷ ps) sc =
    accepted_if (is_new_local p.name sc) (duplicate p.name) p.colour >>= λ colour. type_named ds colour >>= λ t. scope_of ds ps (sc ++ local_of p.name t ∷ [])

-- what is declared, with a function more: the next number is its own
abbrev pub with_function : Declared → Name → Scope → Typed → Declared
with_function ds n parameters body = record {
  colours = ds.colours;
  names = ds.names ++ record { name = n; meant = a_function (length ds.functions) (types_of_scope parameters) body.type_of } ∷ [];
  variables = ds.variables;
  enumerations = ds.enumerations;
  unions = ds.unions;
  functions = ds.functions ++ record { parameters = length parameters; body = body.expr } ∷ [];
}

-- ---- declarations

-- the name is new among all names but those of colour sets
abbrev pub with_new_name : Declared → Name → Checked (List Name)
with_new_name ds n = with_new n (other_names ds)

abbrev pub declared_form : Declared → PlainDeclForm → Checked Declared
declared_form ds (colour_set n body timed) = declared_colour ds n body timed
declared_form ds (variables ns colour_name) =
    with_all_new ns (other_names ds) >>= λ taken. colour_of ds colour_name >>= λ colour. ok (with_variables ds ns colour)
declared_form ds (value n e) =
    with_new_name ds n >>= λ taken. typed ds in_function e [] None >>= λ body. ok (with_function ds n [] body)
declared_form ds (function n parameters result e) =
    with_new_name ds n >>= λ taken. scope_of ds parameters [] >>= λ sc. type_named ds result >>= λ t. typed ds in_function e sc (Some t) >>= λ body. ok (with_function ds n sc body)

-- Declared: what is declared after a declaration more.
abbrev pub declared : Declared → PlainDecl → Checked Declared
declared ds (decl at form) = declared_form ds form

-- what is declared after several, one after another
abbrev pub all_declared : Declared → List PlainDecl → Checked Declared
all_declared ds [] = ok ds
all_declared ds (d ∷ later) = declared ds d >>= λ now. all_declared now later
