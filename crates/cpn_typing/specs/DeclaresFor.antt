-- What is declared is what a net is made of. Source: own choice.
use Rattle.std.specs.Prelude.{◌≡◌, List, map}
use Rattle.cpn_definitions.specs.Net.{PlainNet}
use Rattle.cpn_typing.specs.Names.{Name, NamedConstructor, Declared}

-- the names of constructors
abbrev pub names_of_constructors : List NamedConstructor → List Name
names_of_constructors constructors = map (λ c. c.name) constructors

-- What is declared is the net's: its variables, the names of the constants of each enumeration and of the constructors of each union,
-- and its functions.
pub record DeclaresFor (ds : Declared) (n : PlainNet) : Type 0 where
  pub variables : n.variables ≡ ds.variables
  pub constants : n.constants ≡ ds.enumerations
  pub constructors : n.constructors ≡ map names_of_constructors ds.unions
  pub functions : n.functions ≡ ds.functions
