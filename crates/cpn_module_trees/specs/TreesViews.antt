-- A document that the program has parsed the texts of, as plain data.
use Rattle.std.specs.Prelude.{map, option_map, Result}
use Rattle.cpn_trees.specs.Trees.{PlainAst, PlainAsts}
use Rattle.cpn_trees.specs.DeclTrees.{PlainDecl}
use Rattle.cpn_trees.specs.ParsedViews.{inscription_view, guard_view, declaration_view}
use Rattle.cpn_trees.specs.declared.parsed.Inscription.{Inscription}
use Rattle.cpn_trees.specs.declared.parsed.Guard.{Guard}
use Rattle.cpn_trees.specs.declared.parsed.Declaration.{Declaration}
use Rattle.cpn_module_trees.specs.Parsing.{Parsing}
use Rattle.cpn_module_trees.specs.ParsingViews.{parsing_view}
use Rattle.cpn_module_trees.specs.Trees as plain
use Rattle.cpn_module_trees.specs.declared.parsing.Unparsed.{Unparsed}
use Rattle.cpn_module_trees.specs.declared.trees.PlaceTrees.{PlaceTrees}
use Rattle.cpn_module_trees.specs.declared.trees.TransitionTrees.{TransitionTrees}
use Rattle.cpn_module_trees.specs.declared.trees.ModuleTrees.{ModuleTrees}
use Rattle.cpn_module_trees.specs.declared.trees.DocumentTrees.{DocumentTrees}

abbrev pub tree_view : Result Inscription Unparsed → Parsing PlainAst
tree_view = parsing_view inscription_view

abbrev pub conjuncts_view : Result Guard Unparsed → Parsing PlainAsts
conjuncts_view = parsing_view guard_view

abbrev pub declared_view : Result Declaration Unparsed → Parsing PlainDecl
declared_view = parsing_view declaration_view

abbrev pub place_trees_view : PlaceTrees → plain.PlaceTrees
place_trees_view place = record { name = place.name.now; colour = place.colour.now; initial = option_map tree_view place.initial }

abbrev pub transition_trees_view : TransitionTrees → plain.TransitionTrees
transition_trees_view transition = record { name = transition.name.now; guard = option_map conjuncts_view transition.guard; delay = option_map tree_view transition.delay }

abbrev pub module_trees_view : ModuleTrees → plain.ModuleTrees
module_trees_view of_module = record {
  places = map place_trees_view of_module.places.items;
  transitions = map transition_trees_view of_module.transitions.items;
  arcs = map tree_view of_module.arcs.items;
}

abbrev pub document_trees_view : DocumentTrees → plain.DocumentTrees
document_trees_view document = record {
  declarations = map declared_view document.declarations.items;
  modules = map module_trees_view document.modules.items;
}
