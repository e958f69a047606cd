-- Nothing but the clock is another, so it is still an index of the same net and marking.
use Rattle.std.proofs.Common.{List, sym, ◌∙◌, subst}
use Rattle.cpn_definitions.specs.Enabled.{Enabled}
use Rattle.cpn_due.specs.Due.{PlainEnabled, entries_in}
use Rattle.cpn_index.specs.Retimed.{AreOfNet}
use Rattle.cpn_index.proofs.index.Index.advance_to.Goals as goal

pub returns-clause-index : goal.returns-clause-index
returns-clause-index c = λ n m is. record {
  knows = record { planned = is.knows.planned; readers = is.knows.readers; places = c.take_due.ensures.places ∙ is.knows.places };
  enabled = subst (λ (es : List PlainEnabled). Enabled n m 0 (entries_in es)) (sym c.take_due.ensures.elements) is.enabled;
  own = subst (AreOfNet n) (sym c.take_due.ensures.elements) is.own;
}
