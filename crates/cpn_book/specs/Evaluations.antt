-- When the outputs of a job can be evaluated, and what an evaluation tells. Source: own choice.
use Rattle.std.specs.Prelude.{◌≡◌, ◌≤◌, List, Result, Ok, Err}
use Rattle.cpn_core.specs.declared.faults.EvalFault.{EvalFault}
use Rattle.cpn_core.specs.declared.outputs.Outputs.{Outputs}
use Rattle.cpn_core.specs.Faults.{fault_view}
use Rattle.cpn_definitions.specs.Occurrence.{Made}
use Rattle.cpn_definitions.specs.Outcome.{Outcome, gives, faults, HasMeaning}
use Rattle.cpn_definitions.specs.Times.{last_time}
use Rattle.cpn_jobs.specs.Work.{PlainJob, outputs_by}
use Rattle.cpn_runs.specs.HoleRun.{Status, done_with, faulted_with}
use Rattle.cpn_runs.specs.State.{given_outputs}

-- what the outputs of a job are
abbrev pub outputs_in : PlainJob → Outcome (List Made)
outputs_in job = outputs_by job.work job.element.binding job.time

-- the tokens that they make, none where they have a fault
abbrev pub outputs_told : PlainJob → List Made
outputs_told job = given_outputs (outputs_in job)

-- A job whose outputs can be evaluated: its time is one that a run may reach, and they have a meaning.
pub record IsReadyToEvaluate (job : PlainJob) : Type 0 where
  pub in_time : job.time ≤ last_time
  pub meaning : HasMeaning (outputs_in job)

-- what an evaluation tells
abbrev pub outcome_of : Result Outputs EvalFault → Outcome (List Made)
outcome_of (Ok outputs) = gives outputs
outcome_of (Err fault) = faults (fault_view fault)

-- It tells what the outputs of a job are.
abbrev pub Tells : Result Outputs EvalFault → PlainJob → Type 0
Tells result job = outcome_of result ≡ outputs_in job

-- what becomes of a claim by it
abbrev pub status_by : Result Outputs EvalFault → Status
status_by (Ok outputs) = done_with outputs
status_by (Err fault) = faulted_with (fault_view fault)
