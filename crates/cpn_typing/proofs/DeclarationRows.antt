-- Declarations with what they declare or their first refusal, by computing: each sentence of the rules kept and broken, and
-- which of two refusals comes first.
use Rattle.std.proofs.Common.{◌≡◌, refl, ℕ, zero, suc, ◌+◌, pos, negsuc, true, false, List, [], ◌∷◌, ◌++◌, Option, Some, None, codes, replicate}
use Rattle.cpn_definitions.specs.Colour.{PlainShape, PlainColour, unit_shape, boolean_shape, int_shape, text_shape, constant_shape, tuple_shape, union_shape, list_shape, no_shapes, more_shapes, no_constructors, without, taking}
use Rattle.cpn_trees.specs.DeclTrees.{PlainBody, PlainDecl, decl, colour_set, variables, unit, bool, int, int_range, string, enumeration, product, list, union, named}
use Rattle.cpn_typing.specs.Types.{int_type}
use Rattle.cpn_typing.specs.Names.{Name, Meant, a_variable, a_constant, a_constructor, Declared, nothing_declared, colour_named, meant_among, Refusal, unknown, duplicate, too_many, depth, nodes, empty_colour, Checked, ok, refused}
use Rattle.cpn_typing.specs.ColourSets.{least_int, greatest_int, depth_of, bodies_of}
use Rattle.cpn_typing.specs.Declarations.{all_declared}

-- `colset n = body;`, `colset n = body timed;`, `var ns : n;`
abbrev pub colset : Name → PlainBody → PlainDecl
colset n body = decl 0 (colour_set n body false)

abbrev colset_timed : Name → PlainBody → PlainDecl
colset_timed n body = decl 0 (colour_set n body true)

abbrev pub var : List Name → Name → PlainDecl
var ns colour = decl 0 (variables ns colour)

-- what declarations are refused for; the colour set of a name, and what a name means, where they are accepted
abbrev pub refused_for : Checked Declared → Option Refusal
refused_for (ok ds) = None
refused_for (refused r) = Some r

abbrev colour_after : Checked Declared → Name → Option PlainColour
colour_after (ok ds) n = colour_named n ds
colour_after (refused r) n = None

abbrev pub meant_after : Checked Declared → Name → Option Meant
meant_after (ok ds) n = meant_among n ds.names
meant_after (refused r) n = None

abbrev pub after : List PlainDecl → Checked Declared
after = all_declared nothing_declared

abbrev untimed : PlainShape → PlainColour
untimed s = record { shape = s; timed = false }

abbrev timed : PlainShape → PlainColour
timed s = record { shape = s; timed = true }

abbrev pub INT : Name
INT = codes "INT"

abbrev pub A : Name
A = codes "A"

abbrev pub B : Name
B = codes "B"

abbrev pub int_set : PlainDecl
int_set = colset INT int

abbrev all_ints : PlainShape
all_ints = int_shape least_int greatest_int

-- ---- bodies

unit_row : colour_after (after (colset A unit ∷ [])) A ≡ Some (untimed unit_shape)
unit_row = refl

bool_row : colour_after (after (colset A bool ∷ [])) A ≡ Some (untimed boolean_shape)
bool_row = refl

int_row : colour_after (after (colset A int ∷ [])) A ≡ Some (untimed (int_shape (negsuc 9223372036854775807) (pos 9223372036854775807)))
int_row = refl

string_row : colour_after (after (colset A string ∷ [])) A ≡ Some (untimed text_shape)
string_row = refl

-- `int with 1..3`, `int with 3..3`, `int with ~1..~1`; `int with 3..1`
range_row : colour_after (after (colset A (int_range (pos 1) (pos 3)) ∷ [])) A ≡ Some (untimed (int_shape (pos 1) (pos 3)))
range_row = refl

one_value_row : colour_after (after (colset A (int_range (pos 3) (pos 3)) ∷ [])) A ≡ Some (untimed (int_shape (pos 3) (pos 3)))
one_value_row = refl

negative_range_row : colour_after (after (colset A (int_range (negsuc 0) (negsuc 0)) ∷ [])) A ≡ Some (untimed (int_shape (negsuc 0) (negsuc 0)))
negative_range_row = refl

empty_row : refused_for (after (colset A (int_range (pos 3) (pos 1)) ∷ [])) ≡ Some (empty_colour A)
empty_row = refl

empty_negative_row : refused_for (after (colset A (int_range (negsuc 0) (negsuc 1)) ∷ [])) ≡ Some (empty_colour A)
empty_negative_row = refl

-- `with a | b`: a new enumeration of two constants; the next one has the next number, also with the same words
abbrev pub a : Name
a = codes "a"

abbrev pub b : Name
b = codes "b"

abbrev pub c : Name
c = codes "c"

constants_row : colour_after (after (colset A (enumeration (a ∷ b ∷ [])) ∷ [])) A ≡ Some (untimed (constant_shape 0 2))
constants_row = refl

first_constant_row : meant_after (after (colset A (enumeration (a ∷ b ∷ [])) ∷ [])) a ≡ Some (a_constant 0 0)
first_constant_row = refl

second_constant_row : meant_after (after (colset A (enumeration (a ∷ b ∷ [])) ∷ [])) b ≡ Some (a_constant 0 1)
second_constant_row = refl

next_enumeration_row : meant_after (after (colset A (enumeration (a ∷ b ∷ [])) ∷ colset B (enumeration (c ∷ [])) ∷ [])) c ≡ Some (a_constant 1 0)
next_enumeration_row = refl

-- `product INT * BOOL`, `list INT`
product_row : colour_after (after (int_set ∷ colset B bool ∷ colset A (product (INT ∷ B ∷ [])) ∷ [])) A ≡ Some (untimed (tuple_shape (more_shapes all_ints (more_shapes boolean_shape no_shapes))))
product_row = refl

list_row : colour_after (after (int_set ∷ colset A (list INT) ∷ [])) A ≡ Some (untimed (list_shape all_ints))
list_row = refl

-- `union a + b : INT`
abbrev one_or_int : PlainBody
one_or_int = union (record { constructor = a; argument = None } ∷ record { constructor = b; argument = Some INT } ∷ [])

union_row : colour_after (after (int_set ∷ colset A one_or_int ∷ [])) A ≡ Some (untimed (union_shape 0 (without (taking all_ints no_constructors))))
union_row = refl

bare_constructor_row : meant_after (after (int_set ∷ colset A one_or_int ∷ [])) a ≡ Some (a_constructor 0 0 None)
bare_constructor_row = refl

constructor_row : meant_after (after (int_set ∷ colset A one_or_int ∷ [])) b ≡ Some (a_constructor 0 1 (Some int_type))
constructor_row = refl

-- an enumeration and a union are counted apart
apart_row : colour_after (after (int_set ∷ colset B (enumeration (c ∷ [])) ∷ colset A one_or_int ∷ [])) A ≡ Some (untimed (union_shape 0 (without (taking all_ints no_constructors))))
apart_row = refl

-- ---- timed, and other names for a colour set

timed_row : colour_after (after (colset_timed A int ∷ [])) A ≡ Some (timed all_ints)
timed_row = refl

-- `colset B = A;` has the bounds of A and is not timed where A is; `colset B = A timed;` is
alias_row : colour_after (after (colset_timed A (int_range (pos 1) (pos 3)) ∷ colset B (named A) ∷ [])) B ≡ Some (untimed (int_shape (pos 1) (pos 3)))
alias_row = refl

timed_alias_row : colour_after (after (colset A int ∷ colset_timed B (named A) ∷ [])) B ≡ Some (timed all_ints)
timed_alias_row = refl

alias_of_constants_row : colour_after (after (colset A (enumeration (a ∷ [])) ∷ colset B (named A) ∷ [])) B ≡ Some (untimed (constant_shape 0 1))
alias_of_constants_row = refl

-- a component's `timed` has no effect
timed_component_row : colour_after (after (colset_timed INT int ∷ colset A (list INT) ∷ [])) A ≡ Some (untimed (list_shape all_ints))
timed_component_row = refl

-- ---- names

twice_row : refused_for (after (int_set ∷ int_set ∷ [])) ≡ Some (duplicate INT)
twice_row = refl

predeclared_row : refused_for (after (colset (codes "hd") int ∷ [])) ≡ Some (duplicate (codes "hd"))
predeclared_row = refl

-- the name comes before the body, and before its bounds
name_first_row : refused_for (after (int_set ∷ colset INT (list (codes "Nope")) ∷ [])) ≡ Some (duplicate INT)
name_first_row = refl

name_before_bounds_row : refused_for (after (int_set ∷ colset INT (int_range (pos 3) (pos 1)) ∷ [])) ≡ Some (duplicate INT)
name_before_bounds_row = refl

component_row : refused_for (after (int_set ∷ colset A (product (INT ∷ B ∷ A ∷ [])) ∷ [])) ≡ Some (unknown B)
component_row = refl

alias_unknown_row : refused_for (after (colset A (named B) ∷ [])) ≡ Some (unknown B)
alias_unknown_row = refl

-- a colour set is not there in its own body
own_name_row : refused_for (after (colset A (list A) ∷ [])) ≡ Some (unknown A)
own_name_row = refl

own_union_row : refused_for (after (colset A (union (record { constructor = a; argument = None } ∷ record { constructor = b; argument = Some A } ∷ [])) ∷ [])) ≡ Some (unknown A)
own_union_row = refl

-- a variable is no colour set
variable_component_row : refused_for (after (int_set ∷ var (a ∷ []) INT ∷ colset A (list a) ∷ [])) ≡ Some (unknown a)
variable_component_row = refl

constant_twice_row : refused_for (after (colset A (enumeration (a ∷ b ∷ a ∷ [])) ∷ [])) ≡ Some (duplicate a)
constant_twice_row = refl

constant_of_another_row : refused_for (after (colset A (enumeration (a ∷ [])) ∷ colset B (enumeration (b ∷ a ∷ [])) ∷ [])) ≡ Some (duplicate a)
constant_of_another_row = refl

constant_predeclared_row : refused_for (after (colset A (enumeration (a ∷ codes "size" ∷ [])) ∷ [])) ≡ Some (duplicate (codes "size"))
constant_predeclared_row = refl

-- colour sets are a space of their own
two_spaces_row : colour_after (after (colset a (enumeration (a ∷ [])) ∷ [])) a ≡ Some (untimed (constant_shape 0 1))
two_spaces_row = refl

-- alternatives from left to right, each name before its colour set
constructor_first_row : refused_for (after (colset A (union (record { constructor = c; argument = None } ∷ record { constructor = c; argument = Some B } ∷ [])) ∷ [])) ≡ Some (duplicate c)
constructor_first_row = refl

argument_first_row : refused_for (after (colset A (union (record { constructor = c; argument = Some B } ∷ record { constructor = c; argument = None } ∷ [])) ∷ [])) ≡ Some (unknown B)
argument_first_row = refl

constructor_of_constant_row : refused_for (after (colset A (enumeration (c ∷ [])) ∷ colset B (union (record { constructor = c; argument = None } ∷ [])) ∷ [])) ≡ Some (duplicate c)
constructor_of_constant_row = refl

-- ---- depth, and how many bodies there are

-- a list of a list .. of `INT`, each under a name of its own, one letter longer than the one before
abbrev nested_name : ℕ → Name
nested_name k = codes "N" ++ replicate k 97

abbrev nested : ℕ → List PlainDecl
nested zero = colset (nested_name 0) int ∷ []
nested (suc k) = nested k ++ colset (nested_name (k + 1)) (list (nested_name k)) ∷ []

deepest_row : refused_for (after (nested 31)) ≡ None
deepest_row = refl

too_deep_row : refused_for (after (nested 32)) ≡ Some (too_many depth)
too_deep_row = refl

-- another name adds nothing
alias_deep_row : refused_for (after (nested 31 ++ colset A (named (nested_name 31)) ∷ [])) ≡ None
alias_deep_row = refl

largest_row : refused_for (after (int_set ∷ colset A (product (replicate 4095 INT)) ∷ [])) ≡ None
largest_row = refl

too_large_row : refused_for (after (int_set ∷ colset A (product (replicate 4096 INT)) ∷ [])) ≡ Some (too_many nodes)
too_large_row = refl

-- the depth comes first: a product of 2,048 tuples of 2, and one of them 31 deep
depth_first_row : refused_for (after (nested 31 ++ int_set ∷ colset A (product (nested_name 31 ∷ replicate 4095 INT)) ∷ [])) ≡ Some (too_many depth)
depth_first_row = refl

-- an enumeration is one body, and a constructor without an argument is none
enumeration_size_row : bodies_of (tuple_shape (more_shapes (constant_shape 0 7) (more_shapes (union_shape 0 (without (without (taking text_shape no_constructors)))) no_shapes))) ≡ 4
enumeration_size_row = refl

union_depth_row : depth_of (union_shape 0 (without (taking (list_shape text_shape) (taking unit_shape no_constructors)))) ≡ 3
union_depth_row = refl

bare_union_depth_row : depth_of (union_shape 0 (without no_constructors)) ≡ 1
bare_union_depth_row = refl

-- a name that is there already comes before a name that is not, and that before depth
component_before_depth_row : refused_for (after (nested 31 ++ colset A (product (nested_name 31 ∷ B ∷ [])) ∷ [])) ≡ Some (unknown B)
component_before_depth_row = refl

-- ---- variables

variable_row : meant_after (after (int_set ∷ var (a ∷ b ∷ []) INT ∷ [])) b ≡ Some (a_variable 1 int_type)
variable_row = refl

later_variable_row : meant_after (after (int_set ∷ var (a ∷ b ∷ []) INT ∷ var (c ∷ []) INT ∷ [])) c ≡ Some (a_variable 2 int_type)
later_variable_row = refl

variable_twice_row : refused_for (after (int_set ∷ var (a ∷ b ∷ a ∷ []) INT ∷ [])) ≡ Some (duplicate a)
variable_twice_row = refl

-- the names come before the colour set
names_first_row : refused_for (after (var (a ∷ a ∷ []) INT ∷ [])) ≡ Some (duplicate a)
names_first_row = refl

variable_unknown_row : refused_for (after (var (a ∷ []) INT ∷ [])) ≡ Some (unknown INT)
variable_unknown_row = refl

variable_predeclared_row : refused_for (after (int_set ∷ var (codes "mem" ∷ []) INT ∷ [])) ≡ Some (duplicate (codes "mem"))
variable_predeclared_row = refl

variable_constant_row : refused_for (after (int_set ∷ colset A (enumeration (a ∷ [])) ∷ var (a ∷ []) INT ∷ [])) ≡ Some (duplicate a)
variable_constant_row = refl

variable_two_spaces_row : meant_after (after (int_set ∷ var (INT ∷ []) INT ∷ [])) INT ≡ Some (a_variable 0 int_type)
variable_two_spaces_row = refl

-- the first declaration that is refused counts
first_declaration_row : refused_for (after (var (a ∷ []) INT ∷ colset A (named B) ∷ [])) ≡ Some (unknown INT)
first_declaration_row = refl
