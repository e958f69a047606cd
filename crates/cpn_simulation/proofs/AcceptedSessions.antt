-- The session of an accepted document is valid.
use Rattle.std.proofs.Common.{◌≡◌, ℕ, List, Some}
use Rattle.cpn_edit.specs.Standing.{IsValid}
use Rattle.cpn_edit.proofs.StartedSessions.{session_valid}
use Rattle.cpn_model.specs.Models.{IsModel}
use Rattle.cpn_model.specs.Reading.{PlainModel, read}
use Rattle.cpn_model.proofs.AcceptedModels.{model_is_accepted}
use Rattle.cpn_model.proofs.WellModels.{model_is_well}
use Rattle.cpn_simulation.specs.Options.{PlainOptions, options_from}
use Rattle.cpn_simulation.specs.Reported.{limits_from, session_from}
use Rattle.cpn_simulation.proofs.OptionRanges.{options_in_range}

pub accepted_session : (bytes : List ℕ) (words : List (List ℕ)) (model : PlainModel) (options : PlainOptions) → IsModel bytes (read model) → options_from words ≡ Some options → IsValid (session_from model options)
accepted_session bytes words model options reads given =
    let ranges = options_in_range words options given in
    session_valid (limits_from options) model
    (record { steps = ranges.few_steps; until = ranges.in_time; some_seat = ranges.some_worker; few_seats = ranges.few_workers })
    (model_is_accepted bytes model reads).reads (model_is_well bytes model reads).ready
