-- What a document is accepted as: what is declared, how its modules are put together, and the net of each. All is checked in
-- this order, and the first refusal counts: the declarations, one after another; the colour set of each place of each module; how
-- the modules are put together; then module after module the initial marking of each place, the guard and the delay of each
-- transition in turn, the inscription of each arc, and the variables of each transition.
-- Source: own choice.
use Rattle.std.specs.Prelude.{ℕ, List}
use Rattle.cpn_definitions.specs.Net.{PlainTransition, Coloured}
use Rattle.cpn_readings.specs.ItemByItem.{EachIs}
use Rattle.cpn_readings.specs.Relations.{just, such_that, ◌>>=◌, refused_by, each_so}
use Rattle.cpn_document.specs.Document.{RawDocument}
use Rattle.cpn_module.specs.Checked.{IsChecked}
use Rattle.cpn_module.specs.Hierarchy.{PlainStructure, PlainHierarchy, structure_at}
use Rattle.cpn_typing.specs.Names.{Declared, nothing_declared}
use Rattle.cpn_module_trees.specs.Trees.{ModuleTrees, AreTrees}
use Rattle.cpn_accepted.specs.Completed.{IsCompleted}
use Rattle.cpn_accepted.specs.Nets.{PlainModuleNet, PlainAccepted, places_at, net_from}
use Rattle.cpn_module_nets.specs.Reading.{of_modules, Reading, read, each_from}
use Rattle.cpn_module_nets.specs.Accepted.{declared_from, places_of, initial_of, bare_transition, arc_of, joined_from}
use Rattle.cpn_module_nets.specs.Transitions.{AreBindable}

-- the transitions of a module with their arcs and their variables, which are bindable
unfoldable pub transitions_so : Declared → List Coloured → ℕ → PlainStructure → ModuleTrees → Reading (List PlainTransition) → Type 0
transitions_so ds places m s trees = do
  bares ← just (each_from (bare_transition ds m) 0 trees.transitions)
  arcs ← just (each_from (arc_of ds places m s) 0 trees.arcs)
  transitions ← such_that (EachIs IsCompleted (joined_from 0 bares arcs))
  bindable ← AreBindable (net_from ds places transitions) m 0 transitions
  just (read transitions)

-- the net of the module of a number, with these places and this structure
unfoldable pub net_so : Declared → List Coloured → ℕ → PlainStructure → ModuleTrees → Reading PlainModuleNet → Type 0
net_so ds places m s trees = do
  initials ← just (each_from (initial_of ds places m) 0 trees.places)
  transitions ← transitions_so ds places m s trees
  just (read (record { places = places; initials = initials; transitions = transitions }))

-- the net of each module
unfoldable pub nets_so : Declared → List (List Coloured) → PlainHierarchy → List ModuleTrees → Reading (List PlainModuleNet) → Type 0
nets_so ds places h trees = each_so (λ m. net_so ds (places_at places m) m (structure_at h m)) 0 trees

-- Accepted as: what is accepted of a document, or the first refusal.
unfoldable pub accepted_in : RawDocument → Reading PlainAccepted → Type 0
accepted_in d = do
  trees ← such_that (AreTrees d)
  ds ← just (declared_from 0 nothing_declared trees.declarations)
  places ← just (each_from (places_of ds) 0 trees.modules)
  h ← refused_by of_modules (IsChecked ds d)
  nets ← nets_so ds places h trees.modules
  just (read (record { declared = ds; hierarchy = h; modules = nets }))
