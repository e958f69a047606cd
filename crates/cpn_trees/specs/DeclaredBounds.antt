-- The integers that a declaration writes: the bounds of a colour set of integers. Source: own choice, after CPN ML.
use Rattle.std.specs.Prelude.{ℤ, List, [], ◌∷◌}
use Rattle.cpn_trees.specs.DeclTrees.{PlainBody, unit, bool, int, int_range, string, enumeration, product, list, union, named, PlainDeclForm, colour_set, variables, value, function, PlainDecl, decl}

abbrev pub bounds_in_body : PlainBody → List ℤ
bounds_in_body unit = []
bounds_in_body bool = []
bounds_in_body int = []
bounds_in_body (int_range low high) = low ∷ high ∷ []
bounds_in_body string = []
bounds_in_body (enumeration constants) = []
bounds_in_body (product components) = []
bounds_in_body (list item) = []
bounds_in_body (union alternatives) = []
bounds_in_body (named colour) = []

abbrev pub bounds_in_form : PlainDeclForm → List ℤ
bounds_in_form (colour_set n body timed) = bounds_in_body body
bounds_in_form (variables ns colour) = []
bounds_in_form (value n tree) = []
bounds_in_form (function n parameters result tree) = []

abbrev pub declared_bounds : PlainDecl → List ℤ
declared_bounds (decl at form) = bounds_in_form form
