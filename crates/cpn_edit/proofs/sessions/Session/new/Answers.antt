-- What is loaded is what the model has.
use Rattle.cpn_flat.specs.Views.{loaded_view}
use Rattle.cpn_model.specs.Views.{model_view}
use Rattle.cpn_edit.proofs.ModelSessions.{its_loaded}
use Rattle.cpn_edit.proofs.sessions.Session.new.Goals as goal

pub of_model-requires-clause-reads : goal.of_model-requires-clause-reads
of_model-requires-clause-reads c = its_loaded (loaded_view c.args.loaded) (model_view c.in_ok-model.model) c.in_ok-model.ensures.reads
