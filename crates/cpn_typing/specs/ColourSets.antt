-- The rules of colour sets: what the declaration of one adds to what is declared, or its first refusal. Its name and its
-- body are read from left to right; how deep and how large it is comes last. Source: own choice, after CPN ML.
use Rattle.std.specs.Prelude.{ℕ, ◌+◌, ◌-◌, max, ℤ, pos, negsuc, ◌^◌, Bool, true, false, ◌||◌, if◌then◌else◌, nat_le, int_le, List, [], ◌∷◌, ◌++◌, length, map, Option, Some, None, option_map}
use Rattle.std.specs.List.{list_any}
use Rattle.std.specs.Str.{bytes_eq}
use Rattle.cpn_definitions.specs.Colour.{PlainShape, PlainShapes, Constructors, unit_shape, boolean_shape, int_shape, text_shape, constant_shape, tuple_shape, union_shape, list_shape, no_shapes, more_shapes, no_constructors, without, taking}
use Rattle.cpn_trees.specs.DeclTrees.{PlainAlternative, PlainBody, unit, bool, int, int_range, string, enumeration, product, list, union, named}
use Rattle.cpn_typing.specs.Types.{type_of_shape}
use Rattle.cpn_typing.specs.Names.{Name, a_constant, a_constructor, NamedMeaning, NamedConstructor, Declared, colour_named, predeclared_named, unknown, duplicate, too_many, depth, nodes, empty_colour, Checked, ok, ◌>>=◌, accepted_if, required}

-- ---- new names

abbrev pub is_there : {A : Type 0} → Option A → Bool
is_there None = false
is_there (Some x) = true

-- A name that may be declared: no predeclared function has it, and none of those that its space has already.
abbrev pub is_new : Name → List Name → Bool
is_new n taken = if is_there (predeclared_named n) || list_any (bytes_eq n) taken then false else true

-- a new name, beside those that its space has already
abbrev pub with_new : Name → List Name → Checked (List Name)
with_new n taken = accepted_if (is_new n taken) (duplicate n) (n ∷ taken)

-- new names, from left to right, none of them twice
abbrev pub with_all_new : List Name → List Name → Checked (List Name)
with_all_new [] taken = ok taken
with_all_new (n ∷ ns) taken = with_new n taken >>= with_all_new ns

-- the names that the two spaces have
abbrev pub colour_names : Declared → List Name
colour_names ds = map (λ c. c.name) ds.colours

abbrev pub other_names : Declared → List Name
other_names ds = map (λ d. d.name) ds.names

-- ---- how deep a shape is, and how large

-- how deep bodies nest: 1 for a simple one
abbrev mutual
  pub depth_of : PlainShape → ℕ
  depth_of unit_shape = 1
  depth_of boolean_shape = 1
  depth_of (int_shape low high) = 1
  depth_of text_shape = 1
  depth_of (constant_shape id count) = 1
  depth_of (tuple_shape ss) = 1 + deepest_of ss
  depth_of (union_shape id cs) = 1 + deepest_argument cs
  depth_of (list_shape s) = 1 + depth_of s

  pub deepest_of : PlainShapes → ℕ
  deepest_of no_shapes = 0
  deepest_of (more_shapes s ss) = max (depth_of s) (deepest_of ss)

  pub deepest_argument : Constructors → ℕ
  deepest_argument no_constructors = 0
  deepest_argument (without cs) = deepest_argument cs
  deepest_argument (taking s cs) = max (depth_of s) (deepest_argument cs)

-- how many bodies there are, all written out
abbrev mutual
  pub bodies_of : PlainShape → ℕ
  bodies_of unit_shape = 1
  bodies_of boolean_shape = 1
  bodies_of (int_shape low high) = 1
  bodies_of text_shape = 1
  bodies_of (constant_shape id count) = 1
  bodies_of (tuple_shape ss) = 1 + bodies_of_all ss
  bodies_of (union_shape id cs) = 1 + bodies_of_arguments cs
  bodies_of (list_shape s) = 1 + bodies_of s

  pub bodies_of_all : PlainShapes → ℕ
  bodies_of_all no_shapes = 0
  bodies_of_all (more_shapes s ss) = bodies_of s + bodies_of_all ss

  pub bodies_of_arguments : Constructors → ℕ
  bodies_of_arguments no_constructors = 0
  bodies_of_arguments (without cs) = bodies_of_arguments cs
  bodies_of_arguments (taking s cs) = bodies_of s + bodies_of_arguments cs

-- the most of both
abbrev pub most_depth : ℕ
most_depth = 32

abbrev pub most_bodies : ℕ
most_bodies = 4096

-- a shape within the limits, the depth before the number of bodies
abbrev pub limited : PlainShape → Checked PlainShape
limited s = accepted_if (nat_le (depth_of s) most_depth) (too_many depth) s >>= λ t. accepted_if (nat_le (bodies_of t) most_bodies) (too_many nodes) t

-- ---- bodies

-- the least and the greatest integer
abbrev pub least_int : ℤ
least_int = negsuc (2 ^ 63 - 1)

abbrev pub greatest_int : ℤ
greatest_int = pos (2 ^ 63 - 1)

-- the shape of a component, which has to be declared
abbrev pub component : Declared → Name → Checked PlainShape
component ds n = required (option_map (λ colour. colour.shape) (colour_named n ds)) (unknown n)

abbrev pub components : Declared → List Name → Checked PlainShapes
components ds [] = ok no_shapes
components ds (n ∷ ns) = component ds n >>= λ s. components ds ns >>= λ ss. ok (more_shapes s ss)

-- Constructors, from left to right: for each its name, which is new, and then the colour set of its argument.
pub record Alternatives : Type 0 where
  pub shapes : Constructors
  pub constructors : List NamedConstructor

abbrev pub no_alternatives : Alternatives
no_alternatives = record { shapes = no_constructors; constructors = [] }

abbrev pub bare_before : Name → Alternatives → Alternatives
bare_before n rest = record { shapes = without rest.shapes; constructors = record { name = n; argument = None } ∷ rest.constructors }

abbrev pub taking_before : Name → PlainShape → Alternatives → Alternatives
taking_before n s rest = record { shapes = taking s rest.shapes; constructors = record { name = n; argument = Some (type_of_shape s) } ∷ rest.constructors }

-- what stands before the alternatives behind it
abbrev pub alternative_of : Declared → Name → Option Name → Checked (Alternatives → Alternatives)
alternative_of ds n None = ok (bare_before n)
alternative_of ds n (Some colour) = component ds colour >>= λ s. ok (taking_before n s)

abbrev pub alternatives_of : Declared → List PlainAlternative → List Name → Checked Alternatives
alternatives_of ds [] taken = ok no_alternatives
alternatives_of ds (a ∷ rest) taken =
    with_new a.constructor taken >>= λ now. alternative_of ds a.constructor a.argument >>= λ first. alternatives_of ds rest now >>= λ later. ok (first later)

-- the names of constants and of constructors, with what they mean, from a position on
abbrev pub constants_from : ℕ → ℕ → List Name → List NamedMeaning
constants_from id k [] = []
constants_from id k (n ∷ ns) = record { name = n; meant = a_constant id k } ∷ constants_from id (k + 1) ns

abbrev pub constructors_from : ℕ → ℕ → List NamedConstructor → List NamedMeaning
constructors_from id k [] = []
constructors_from id k (c ∷ cs) = record { name = c.name; meant = a_constructor id k c.argument } ∷ constructors_from id (k + 1) cs

-- The shape of a body, with what it adds: the constants of a new enumeration, the constructors of a new union.
pub record Shaped : Type 0 where
  pub shape : PlainShape
  pub names : List NamedMeaning
  pub enumerations : List (List Name)
  pub unions : List (List NamedConstructor)

abbrev pub only_shape : PlainShape → Shaped
only_shape s = record { shape = s; names = []; enumerations = []; unions = [] }

abbrev pub new_enumeration : ℕ → List Name → Shaped
new_enumeration id constants = record { shape = constant_shape id (length constants); names = constants_from id 0 constants; enumerations = constants ∷ []; unions = [] }

abbrev pub new_union : ℕ → Alternatives → Shaped
new_union id a = record { shape = union_shape id a.shapes; names = constructors_from id 0 a.constructors; enumerations = []; unions = a.constructors ∷ [] }

-- The shape of the body of a colour set of a name. `int with a..b` with a > b has no value.
abbrev pub shape_of_body : Declared → Name → PlainBody → Checked Shaped
shape_of_body ds n unit = ok (only_shape unit_shape)
shape_of_body ds n bool = ok (only_shape boolean_shape)
shape_of_body ds n int = ok (only_shape (int_shape least_int greatest_int))
shape_of_body ds n (int_range low high) = accepted_if (int_le low high) (empty_colour n) (only_shape (int_shape low high))
shape_of_body ds n string = ok (only_shape text_shape)
shape_of_body ds n (enumeration constants) =
    with_all_new constants (other_names ds) >>= λ taken. ok (new_enumeration (length ds.enumerations) constants)
shape_of_body ds n (product components_named) = components ds components_named >>= λ ss. ok (only_shape (tuple_shape ss))
shape_of_body ds n (list item) = component ds item >>= λ s. ok (only_shape (list_shape s))
shape_of_body ds n (union alternatives) =
    alternatives_of ds alternatives (other_names ds) >>= λ a. ok (new_union (length ds.unions) a)
shape_of_body ds n (named other) = component ds other >>= λ s. ok (only_shape s)

-- ---- declarations

-- what is declared, with a colour set more
abbrev pub with_colour : Declared → Name → Bool → Shaped → Declared
with_colour ds n timed new = record {
  colours = ds.colours ++ record { name = n; colour = record { shape = new.shape; timed = timed } } ∷ [];
  names = ds.names ++ new.names;
  variables = ds.variables;
  enumerations = ds.enumerations ++ new.enumerations;
  unions = ds.unions ++ new.unions;
  functions = ds.functions;
}

-- A colour set: its name is new; then its body; then its limits. It is timed where its own declaration says so.
abbrev pub declared_colour : Declared → Name → PlainBody → Bool → Checked Declared
declared_colour ds n body timed =
    with_new n (colour_names ds) >>= λ taken. shape_of_body ds n body >>= λ new. limited new.shape >>= λ s. ok (with_colour ds n timed new)
