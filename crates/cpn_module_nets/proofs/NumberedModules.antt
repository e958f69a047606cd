-- What the program keeps of the module of a number, as plain data.
use Rattle.std.proofs.Common.{◌≡◌, ℕ, ◌<◌, List, [], length, get_or, map, sym, ap, ◌∙◌, subst}
use Rattle.std.specs.Prelude.{Vec}
use Rattle.std.specs.declared.alloc.Global.{Global}
use Rattle.std.proofs.lemmas.List.{get_or-map}
use Rattle.cpn_core.specs.declared.nets.Place.{Place}
use Rattle.cpn_definitions.specs.Net.{Coloured}
use Rattle.cpn_module.specs.Hierarchy.{PlainStructure, no_structure, structure_at}
use Rattle.cpn_module.specs.Views.{structure_view, hierarchy_view}
use Rattle.cpn_module.specs.declared.hierarchy.Hierarchy.{Hierarchy}
use Rattle.cpn_module.specs.declared.hierarchy.Structure.{Structure}
use Rattle.cpn_module_trees.specs.Trees as plain
use Rattle.cpn_module_trees.specs.TreesViews.{module_trees_view}
use Rattle.cpn_module_trees.specs.declared.trees.ModuleTrees.{ModuleTrees}
use Rattle.cpn_accepted.specs.Nets.{places_at}
use Rattle.cpn_module_nets.specs.AcceptedViews.{places_view}
use Rattle.cpn_module_nets.specs.Fitting.{no_trees, trees_at}

pub structure_there : (h : Hierarchy) (i : ℕ) (s : Structure) → i < length h.modules.items → s ≡ get_or h.modules.items i s → structure_view s ≡ structure_at (hierarchy_view h) i
structure_there h i s lt at = ap structure_view at ∙ sym (get_or-map structure_view h.modules.items i s no_structure lt)

pub trees_there : (all : List ModuleTrees) (i : ℕ) (trees : ModuleTrees) → i < length all → trees ≡ get_or all i trees → module_trees_view trees ≡ trees_at (map module_trees_view all) i
trees_there all i trees lt at = ap module_trees_view at ∙ sym (get_or-map module_trees_view all i trees no_trees lt)

pub places_there : (all : List (Vec Place Global)) (i : ℕ) (places : Vec Place Global) → i < length all → places ≡ get_or all i places → places_view places ≡ places_at (map places_view all) i
places_there all i places lt at = ap places_view at ∙ sym (get_or-map places_view all i places [] lt)

-- a fact of the places, the structure and the trees of a module
pub of_same : (P : List Coloured → PlainStructure → plain.ModuleTrees → Type 0) {places places' : List Coloured} {s s' : PlainStructure} {trees trees' : plain.ModuleTrees} → places ≡ places' → s ≡ s' → trees ≡ trees' → P places s trees → P places' s' trees'
of_same P {places} {places'} {s} {s'} {trees} {trees'} a b c h = subst (λ ps. P ps s' trees') a (subst (λ x. P places x trees') b (subst (λ t. P places s t) c h))
