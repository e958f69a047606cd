-- One transition is another now.
use Rattle.std.proofs.Common.{ap}
use Rattle.std.proofs.lemmas.List.{map-set}
use Rattle.cpn_core.specs.Nets.{net_view, transition_view}
use Rattle.cpn_edit_texts.proofs.edits.Edit.make.Goals as goal

pub returns-in-Guard-clause-net : goal.returns-in-Guard-clause-net
returns-in-Guard-clause-net c = rw c.in-Guard.is (ap (λ ts. record (net_view c.args.net.now) { transitions = ts }) (map-set transition_view c.args.net.now.transitions.items c.in-Guard.number c.in-Guard.transition))
