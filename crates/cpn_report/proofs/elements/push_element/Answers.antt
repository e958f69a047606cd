-- The binding of a binding element binds variables of the net.
use Rattle.cpn_core.specs.Nets.{net_view}
use Rattle.cpn_core.specs.Elements.{element_view}
use Rattle.cpn_report.proofs.PrintableNets.{element_bound}
use Rattle.cpn_report.proofs.elements.push_element.Goals as goal

pub push_binding-requires-clause-bound : goal.push_binding-requires-clause-bound
push_binding-requires-clause-bound c = element_bound (net_view c.args.net.now) (element_view c.args.element.now) c.requires.net.sound c.requires.element
