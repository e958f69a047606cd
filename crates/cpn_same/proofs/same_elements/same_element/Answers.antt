-- The test is true exactly of what is the same.
use Rattle.std.proofs.lemmas.Bool.Decides.{Decides-at}
use Rattle.cpn_core.specs.Elements.{element_view}
use Rattle.cpn_same.specs.SameElements.{elements_decide}
use Rattle.cpn_same.proofs.same_elements.same_element.Goals as goal

pub returns-clause-same : goal.returns-clause-same
returns-clause-same c = Decides-at _ _ c.same_parts.ensures.exact (elements_decide (element_view c.args.element.now) (element_view c.args.other.now))
