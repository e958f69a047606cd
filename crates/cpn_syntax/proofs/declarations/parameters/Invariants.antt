-- `N : N {, N : N}`.
use Rattle.std.proofs.Common.{map, length}
use Rattle.cpn_lex.specs.declared.symbols.Symbol.TheVariants as sign
use Rattle.cpn_trees.specs.DeclTrees.{parameter_view}
use Rattle.cpn_syntax.specs.Declarations.{SpellsParameter}
use Rattle.cpn_syntax.specs.Endings.{No}
use Rattle.cpn_syntax.specs.Fragments.{Leaves}
use Rattle.cpn_syntax.specs.Phrases.{Each}
use Rattle.cpn_syntax.specs.Unread.{unread}
use Rattle.cpn_syntax.proofs.Fragments.{More}
use Rattle.cpn_syntax.proofs.declarations.parameters.Given as goal

abbrev pub invariant-loop-parameters : goal.invariant-loop-parameters
invariant-loop-parameters l =
    Leaves (Each SpellsParameter sign.Comma) (More SpellsParameter sign.Comma (map parameter_view l.parameters.items)) (No sign.Comma) (unread l.initial.reader) (unread l.reader)

abbrev pub decreases-loop-parameters : goal.decreases-loop-parameters
decreases-loop-parameters l = length (unread l.reader)
