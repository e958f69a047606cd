-- Reads an inscription as far as it reaches.
use Rattle.std.proofs.Common.{[]}
use Rattle.cpn_syntax.specs.OpenViews.{opens_view}
use Rattle.cpn_syntax.specs.ReadForms.{want}
use Rattle.cpn_syntax.specs.Steps.{Comes, next_state, steps_left}
use Rattle.cpn_syntax.specs.Unread.{unread}
use Rattle.cpn_syntax.proofs.inscriptions.inscription.Given as goal

abbrev pub invariant-reading : goal.invariant-reading
invariant-reading l = Comes (want []) (unread l.fn.reader) (next_state l.next (opens_view l.open)) (unread l.reader)

abbrev pub decreases-reading : goal.decreases-reading
decreases-reading l = steps_left (next_state l.next (opens_view l.open)) (unread l.reader)
