-- `alt {+ alt}` behind `union`.
use Rattle.std.proofs.Common.{map, length}
use Rattle.cpn_lex.specs.declared.symbols.Symbol.TheVariants as sign
use Rattle.cpn_trees.specs.DeclTrees.{alternative_view}
use Rattle.cpn_syntax.specs.Declarations.{SpellsAlternative}
use Rattle.cpn_syntax.specs.Endings.{EndsBody}
use Rattle.cpn_syntax.specs.Fragments.{Leaves}
use Rattle.cpn_syntax.specs.Phrases.{Each}
use Rattle.cpn_syntax.specs.Unread.{unread}
use Rattle.cpn_syntax.proofs.Fragments.{More}
use Rattle.cpn_syntax.proofs.declarations.alternatives.Given as goal

abbrev pub invariant-loop-alternatives : goal.invariant-loop-alternatives
invariant-loop-alternatives l =
    Leaves (Each SpellsAlternative sign.Plus) (More SpellsAlternative sign.Plus (map alternative_view l.alternatives.items)) EndsBody (unread l.initial.reader) (unread l.reader)

abbrev pub decreases-loop-alternatives : goal.decreases-loop-alternatives
decreases-loop-alternatives l = length (unread l.reader)
