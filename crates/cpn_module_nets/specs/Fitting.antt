-- A module whose parts go together. Source: own choice.
use Rattle.std.specs.Prelude.{◌≡◌, ℕ, ◌<◌, List, [], length, slice_index_or}
use Rattle.std.specs.List.{AllByRecursion}
use Rattle.cpn_definitions.specs.Net.{Coloured}
use Rattle.cpn_module.specs.Hierarchy.{PlainStructure}
use Rattle.cpn_module.specs.Ranges.{IsNode}
use Rattle.cpn_module_trees.specs.Trees.{ModuleTrees}

-- The places, the structure and the trees of one module: as many places, transitions and arcs, and each arc at one of the places, and at
-- one of the transitions or of the substitution transitions.
pub record GoTogether (places : List Coloured) (s : PlainStructure) (trees : ModuleTrees) : Type 0 where
  pub as_many_places : length places ≡ length trees.places
  pub as_many_transitions : length trees.transitions ≡ s.transitions
  pub as_many_arcs : length trees.arcs ≡ length s.arcs
  pub at_places : AllByRecursion (λ ends. ends.place < length places) s.arcs
  pub at_nodes : AllByRecursion (λ ends. IsNode s ends.node) s.arcs

-- the trees of the module of a number
abbrev pub no_trees : ModuleTrees
no_trees = record { places = []; transitions = []; arcs = [] }

abbrev pub trees_at : List ModuleTrees → ℕ → ModuleTrees
trees_at trees m = slice_index_or trees m no_trees
