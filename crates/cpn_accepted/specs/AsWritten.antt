-- What is accepted, held against the document: it has the names that the document writes, and its integers have 64 bits.
-- Source: own choice.
use Rattle.std.specs.Prelude.{◌≡◌, ℕ, ◌<◌, true, List, [], length, map, slice_index_or}
use Rattle.std.specs.List.{AllByRecursion}
use Rattle.cpn_definitions.specs.DistinctNames.{HasDistinctNames, HasWellSpelledNames}
use Rattle.cpn_definitions.specs.Integers.{is_short, HasShortIntegers}
use Rattle.cpn_definitions.specs.Net.{PlainTransition, Coloured, PlainNet}
use Rattle.cpn_typing.specs.Names.{Declared}
use Rattle.cpn_document.specs.Document.{RawModule, RawDocument}
use Rattle.cpn_module.specs.Named.{no_module, hierarchy_in, place_names, transition_names}
use Rattle.cpn_accepted.specs.Nets.{PlainAccepted, module_net_at, net_from}

-- the module of a document of a number, as it is written
abbrev pub raw_module_at : RawDocument → ℕ → RawModule
raw_module_at d m = slice_index_or d.modules m no_module

-- the names of places and of transitions
abbrev pub names_of_places : List Coloured → List (List ℕ)
names_of_places places = map (λ place. place.name) places

abbrev pub names_of_transitions : List PlainTransition → List (List ℕ)
names_of_transitions transitions = map (λ transition. transition.name) transitions

-- what is declared, as a net without places and transitions
abbrev pub net_of_declared : Declared → PlainNet
net_of_declared ds = net_from ds [] []

-- It has its names: the hierarchy is the one that the document names; the places and the transitions of each module have the names that
-- the document writes; no two variables, no two constants of an enumeration and no two constructors of a union have one name, and all
-- these are words.
pub record HasItsNames (d : RawDocument) (a : PlainAccepted) : Type 0 where
  pub hierarchy : a.hierarchy ≡ hierarchy_in d
  pub many : length a.modules ≡ length d.modules
  pub places : (m : ℕ) → m < length d.modules → names_of_places (module_net_at a m).places ≡ place_names (raw_module_at d m)
  pub transitions : (m : ℕ) → m < length d.modules → names_of_transitions (module_net_at a m).transitions ≡ transition_names (raw_module_at d m)
  pub distinct : HasDistinctNames (net_of_declared a.declared)
  pub spelled : HasWellSpelledNames (net_of_declared a.declared)

-- Its integers have 64 bits: those of the variables that are declared, and of the colour sets of the places of each module.
pub record HasShortParts (a : PlainAccepted) : Type 0 where
  pub declared : HasShortIntegers (net_of_declared a.declared)
  pub places : (m : ℕ) → m < length a.modules → AllByRecursion (λ place. is_short place ≡ true) (module_net_at a m).places
