-- A document is accepted as one thing, and what is accepted is well.
use Rattle.cpn_document.specs.Views.{document_view}
use Rattle.cpn_accepted.specs.Views.{accepted_view}
use Rattle.cpn_module_nets.proofs.OneReading.{accepted_one}
use Rattle.cpn_module_nets.proofs.WellAccepted.{well_answered}
use Rattle.cpn_module_nets.proofs.accepting.accept.Goals as goal

pub returns-clause-one : goal.returns-clause-one
returns-clause-one c = accepted_one (document_view c.args.document.now)

pub returns-clause-well : goal.returns-clause-well
returns-clause-well c = well_answered accepted_view c.accepted_of.result (document_view c.args.document.now) c.requires.few_arcs c.accepted_of.ensures.reads c.accepted_of.ensures.numbers
