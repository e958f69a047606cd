-- What is accepted of a document: what is declared, the hierarchy, and each module as a net of its own, with the initial markings
-- of its places. Source: Jensen and Kristensen, chapters 4 and 6.
use Rattle.std.specs.Prelude.{◌≡◌, ℕ, ◌<◌, List, [], length, map, slice_index_or, Option, Some, None, Contains}
use Rattle.std.specs.List.{AllByRecursion}
use Rattle.cpn_definitions.specs.Bindable.{AreClosed}
use Rattle.cpn_definitions.specs.Colour.{PlainColour}
use Rattle.cpn_definitions.specs.Inscription.{ArcInscription, Functions}
use Rattle.cpn_definitions.specs.Named.{IsNamed}
use Rattle.cpn_definitions.specs.Net.{PlainTransition, Coloured, PlainNet, nothing}
use Rattle.cpn_definitions.specs.Outcome.{HasMeaning}
use Rattle.cpn_definitions.specs.Sound.{IsSoundTransition}
use Rattle.cpn_definitions.specs.Terms.{terms_of}
use Rattle.cpn_typing.specs.AcceptedTransitions.{IsAcceptedTransition}
use Rattle.cpn_typing.specs.Names.{Name, NamedConstructor, Declared}
use Rattle.cpn_module.specs.Hierarchy.{PlainAssignment, PlainMember, PlainHierarchy, places_in, structure_at, substitution_at, IsAcyclic}
use Rattle.cpn_module.specs.Ranges.{HasItsNumbers}

-- An initial marking as it is accepted: an inscription at a place of a colour set.
pub record Initial : Type 0 where
  pub colour : PlainColour
  pub expr : ArcInscription

-- A module: its places, the initial marking of each where one is written, and its transitions, all by their names in it.
pub record PlainModuleNet : Type 0 where
  pub places : List Coloured
  pub initials : List (Option Initial)
  pub transitions : List PlainTransition

pub record PlainAccepted : Type 0 where
  pub declared : Declared
  pub hierarchy : PlainHierarchy
  pub modules : List PlainModuleNet

abbrev pub no_module_net : PlainModuleNet
no_module_net = record { places = []; initials = []; transitions = [] }

-- the places of the module of a number, and the colour set of the place of a number
abbrev pub places_at : List (List Coloured) → ℕ → List Coloured
places_at places m = slice_index_or places m []

abbrev pub colour_at : List Coloured → ℕ → PlainColour
colour_at places p = (slice_index_or places p nothing).colour

-- the module of a number
abbrev pub module_net_at : PlainAccepted → ℕ → PlainModuleNet
module_net_at accepted m = slice_index_or accepted.modules m no_module_net

-- the names of constructors
abbrev pub constructor_names : List NamedConstructor → List Name
constructor_names constructors = map (λ c. c.name) constructors

-- a net of what is declared, with these places and transitions
abbrev pub net_from : Declared → List Coloured → List PlainTransition → PlainNet
net_from ds places transitions = record {
  places = places;
  transitions = transitions;
  variables = ds.variables;
  constants = ds.enumerations;
  constructors = map constructor_names ds.unions;
  functions = ds.functions;
}

-- a module as a net of its own
abbrev pub net_of : Declared → PlainModuleNet → PlainNet
net_of ds m = net_from ds m.places m.transitions

-- the colour set of a place of a module
abbrev pub colour_of_place : PlainAccepted → ℕ → ℕ → PlainColour
colour_of_place accepted m p = (slice_index_or (module_net_at accepted m).places p nothing).colour

-- ---- what holds of all that is accepted

-- an initial marking has a meaning, where one is written
abbrev pub IsMeant : Functions → Option Initial → Type 0
IsMeant funs None = Unit {0}
IsMeant funs (Some initial) = HasMeaning (terms_of funs initial.expr initial.colour [] 0)

-- an initial marking is for the colour set of its place, where one is written
abbrev pub IsOfColour : PlainColour → Option Initial → Type 0
IsOfColour colour None = Unit {0}
IsOfColour colour (Some initial) = initial.colour ≡ colour

-- A module as a net of its own: each place has its initial marking or none, for its colour set and with a meaning; the
-- transitions are of accepted inscriptions, and sound; and the net names what a report prints.
pub record IsWellNet (ds : Declared) (m : PlainModuleNet) : Type 0 where
  pub as_many : length m.initials ≡ length m.places
  pub coloured : (p : ℕ) → p < length m.places → IsOfColour (slice_index_or m.places p nothing).colour (slice_index_or m.initials p None)
  pub meant : AllByRecursion (IsMeant ds.functions) m.initials
  pub accepted : AllByRecursion (IsAcceptedTransition ds) m.transitions
  pub sound : AllByRecursion (IsSoundTransition (net_of ds m)) m.transitions
  pub named : IsNamed (net_of ds m)

-- places that are joined have one colour set: a port and its socket, the members of a fusion set
pub record AgreeInColour (accepted : PlainAccepted) : Type 0 where
  pub sockets : (m i : ℕ) → m < length accepted.hierarchy.modules → i < length (structure_at accepted.hierarchy m).substitutions → (a : PlainAssignment) → Contains (substitution_at accepted.hierarchy m i).assignments a
      → colour_of_place accepted m a.socket ≡ colour_of_place accepted (substitution_at accepted.hierarchy m i).submodule a.port
  pub members : (fusion : List PlainMember) → Contains accepted.hierarchy.fusions fusion → (x y : PlainMember) → Contains fusion x → Contains fusion y → colour_of_place accepted x.of_module x.place ≡ colour_of_place accepted y.of_module y.place

-- What is accepted: the functions that are declared are closed; the numbers of the hierarchy are those of modules, places and
-- transitions of it, and no module is part of itself; each module is a net of its own; and places that are joined have one colour
-- set.
pub record IsWellAccepted (accepted : PlainAccepted) : Type 0 where
  pub closed : AreClosed accepted.declared.functions
  pub numbers : HasItsNumbers accepted.hierarchy
  pub each : length accepted.modules ≡ length accepted.hierarchy.modules
  pub places : (m : ℕ) → m < length accepted.modules → length (module_net_at accepted m).places ≡ places_in (structure_at accepted.hierarchy m)
  pub transitions : (m : ℕ) → m < length accepted.modules → length (module_net_at accepted m).transitions ≡ (structure_at accepted.hierarchy m).transitions
  pub nets : AllByRecursion (IsWellNet accepted.declared) accepted.modules
  pub agree : AgreeInColour accepted
  pub acyclic : IsAcyclic accepted.hierarchy
