-- The plain model that one of the program stands for.
use Rattle.cpn_edit_texts.specs.Views.{phases_view}
use Rattle.cpn_flat.specs.Views.{loaded_view}
use Rattle.cpn_monitor.specs.Views.{monitors_view}
use Rattle.cpn_model.specs.Reading.{PlainModel}
use Rattle.cpn_model.specs.declared.models.Model.{Model}

abbrev pub model_view : Model → PlainModel
model_view model = record { loaded = loaded_view model.loaded; monitors = monitors_view model.monitors; phases = phases_view model.phases.items }
