-- The runs of what is accepted start from where runs may start, and are of as many workers as there are seats; and reports tell their journals,
-- since texts do.
use Rattle.cpn_simulation.proofs.AcceptedRuns.{accepted_is_playable, reports_tell_journals}
use Rattle.cpn_simulation.proofs.FewOpenClaims.{runs_are_of_workers}
use Rattle.cpn_simulation.proofs.laws.accepted_runs.Goals as goal

pub returns-clause-playable : goal.returns-clause-playable
returns-clause-playable c = accepted_is_playable

pub returns-clause-workers : goal.returns-clause-workers
returns-clause-workers c = runs_are_of_workers

pub returns-clause-journals : goal.returns-clause-journals
returns-clause-journals c = reports_tell_journals c.printable_runs.ensures.printable c.told_texts.ensures.journals
