-- The trees so far are those of the texts so far.
use Rattle.std.proofs.Common.{map, take}
use Rattle.cpn_readings.specs.ItemByItem.{EachIs}
use Rattle.std.specs.Prelude.{string_bytes}
use Rattle.cpn_module_trees.specs.Parsing.{IsDeclaration}
use Rattle.cpn_module_trees.specs.TreesViews.{declared_view}
use Rattle.cpn_module_trees.proofs.trees.declarations_trees.Given as goal

abbrev pub invariant-loop-text : goal.invariant-loop-text
invariant-loop-text l = EachIs IsDeclaration (map string_bytes (take l.text-index l.texts)) (map declared_view l.trees.items)
