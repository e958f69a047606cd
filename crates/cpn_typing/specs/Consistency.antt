-- What is declared holds together: colour sets are of the sets behind the types, variables have the type of their colour set,
-- constants and constructors are those of their sets, and calls of functions mean something. Source: own choice.
use Rattle.std.specs.Prelude.{◌≡◌, ℕ, ◌<◌, List, [], ◌++◌, length, slice_get, slice_index_or, Some, option_map}
use Rattle.cpn_definitions.specs.Colour.{PlainColour}
use Rattle.cpn_definitions.specs.Inscription.{Functions}
use Rattle.cpn_definitions.specs.Meaning.{PlainBinding}
use Rattle.cpn_definitions.specs.Net.{Coloured, nothing}
use Rattle.cpn_typing.specs.Types.{PlainTy, type_of_shape}
use Rattle.cpn_typing.specs.Names.{Name, a_variable, NamedConstructor, Declared, colour_named, meant_among}
use Rattle.cpn_typing.specs.TypedValues.{Sets, argument_of, HasSetsOf}
use Rattle.cpn_typing.specs.Law.{AreKeptBelow}

-- The sets have the enumerations and the unions, by their numbers.
pub record HasSets (sets : Sets) (es : List (List Name)) (us : List (List NamedConstructor)) : Type 0 where
  pub constants : (id : ℕ) → id < length es → sets.constants id ≡ length (slice_index_or es id [])
  pub constructors : (id k : ℕ) → id < length us → sets.constructor id k ≡ option_map argument_of (slice_get (slice_index_or us id []) k)

-- each colour set that is declared is of the sets
abbrev pub ColoursOf : Sets → Declared → Type 0
ColoursOf sets ds = (n : Name) (c : PlainColour) → colour_named n ds ≡ Some c → HasSetsOf sets c.shape

-- a variable by its number, with the type of its colour set
abbrev pub variable_numbered : Declared → ℕ → Coloured
variable_numbered ds x = slice_index_or ds.variables x nothing

pub record IsNumbered (variables_of : List Coloured) (x : ℕ) (t : PlainTy) : Type 0 where
  pub is_below : x < length variables_of
  pub type_is : t ≡ type_of_shape (slice_index_or variables_of x nothing).colour.shape

-- Consistent: for all sets that have what is declared, and all functions that begin with those that are declared.
pub record IsConsistent (ds : Declared) : Type 0 where
  pub colours_of : (sets : Sets) → HasSets sets ds.enumerations ds.unions → ColoursOf sets ds
  pub coloured : (sets : Sets) → HasSets sets ds.enumerations ds.unions → (x : ℕ) → x < length ds.variables → HasSetsOf sets (variable_numbered ds x).colour.shape
  pub numbered : (n : Name) (x : ℕ) (t : PlainTy) → meant_among n ds.names ≡ Some (a_variable x t) → IsNumbered ds.variables x t
  pub kept : (sets : Sets) (funs more : Functions) (b : PlainBinding) (time : ℕ) → HasSets sets ds.enumerations ds.unions → funs ≡ ds.functions ++ more → AreKeptBelow sets funs b time (length ds.functions) ds.names
