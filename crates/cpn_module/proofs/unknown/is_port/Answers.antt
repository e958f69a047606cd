-- A place that is not there is no port.
use Rattle.cpn_document.specs.Views.{document_view}
use Rattle.cpn_module.specs.Named.{module_named}
use Rattle.cpn_module.proofs.FoundPlaces.{no_port}
use Rattle.cpn_module.proofs.unknown.is_port.Goals as goal

pub returns-in-None : goal.returns-in-None
returns-in-None c = record { tells = no_port (module_named (document_view c.args.document.now) c.args.of_module.now) c.args.port.now c.in-None.ensures.there }
