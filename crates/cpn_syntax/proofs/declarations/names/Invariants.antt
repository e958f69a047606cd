-- Names, each but the first behind the separator.
use Rattle.std.proofs.Common.{map, string_bytes, length}
use Rattle.cpn_syntax.specs.Endings.{No}
use Rattle.cpn_syntax.specs.Fragments.{Leaves}
use Rattle.cpn_syntax.specs.Phrases.{One, Names}
use Rattle.cpn_syntax.specs.Texts.{IsName}
use Rattle.cpn_syntax.specs.Unread.{unread}
use Rattle.cpn_syntax.proofs.Fragments.{More}
use Rattle.cpn_syntax.proofs.declarations.names.Given as goal

abbrev pub invariant-loop-names : goal.invariant-loop-names
invariant-loop-names l = Leaves (Names l.separator) (More (One IsName) l.separator (map string_bytes l.names.items)) (No l.separator) (unread l.initial.reader) (unread l.reader)

abbrev pub decreases-loop-names : goal.decreases-loop-names
decreases-loop-names l = length (unread l.reader)
