-- The elements are in the order of the items.
use Rattle.std.proofs.Common.{ap, subst}
use Rattle.cpn_definitions.specs.Lists.{Rises}
use Rattle.cpn_due.specs.Due.{enabled_cmp}
use Rattle.cpn_due.proofs.KeptElements.{enabled_rise}
use Rattle.cpn_due.proofs.due.Due.len.Goals as goal

pub returns-clause-in_order : goal.returns-clause-in_order
returns-clause-in_order c = subst (Rises enabled_cmp) (ap (λ d. d.elements) c.self.view_is) (enabled_rise c.self.inside.tree.items c.summary.ensures.rises)
