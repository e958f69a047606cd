-- The names that a declaration brings, beside that of a colour set: those of variables, of the constants of an enumeration, of the
-- constructors of a union, of a value, of a function. Source: own choice, after CPN ML.
use Rattle.std.specs.Prelude.{ℕ, List, [], ◌∷◌, map}
use Rattle.cpn_trees.specs.DeclTrees.{PlainBody, unit, bool, int, int_range, string, enumeration, product, list, union, named, PlainDeclForm, colour_set, variables, value, function, PlainDecl, decl}

abbrev pub names_in_body : PlainBody → List (List ℕ)
names_in_body unit = []
names_in_body bool = []
names_in_body int = []
names_in_body (int_range low high) = []
names_in_body string = []
names_in_body (enumeration constants) = constants
names_in_body (product components) = []
names_in_body (list item) = []
names_in_body (union alternatives) = map (λ alternative. alternative.constructor) alternatives
names_in_body (named colour) = []

abbrev pub names_in_form : PlainDeclForm → List (List ℕ)
names_in_form (colour_set n body timed) = names_in_body body
names_in_form (variables ns colour) = ns
names_in_form (value n tree) = n ∷ []
names_in_form (function n parameters result tree) = n ∷ []

abbrev pub declared_names : PlainDecl → List (List ℕ)
declared_names (decl at form) = names_in_form form
