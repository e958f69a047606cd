-- The plain claims that those of the log stand for.
use Rattle.std.specs.Prelude.{ℕ, List, [], ◌∷◌, map}
use Rattle.cpn_definitions.specs.Occurrence.{threshold}
use Rattle.cpn_definitions.specs.Occurrence as plain
use Rattle.cpn_core.specs.Elements.{element_view}
use Rattle.cpn_core.specs.OutputsViews.{made_view}
use Rattle.cpn_core.specs.declared.outputs.Made.{Made}
use Rattle.cpn_core.specs.Faults.{fault_view}
use Rattle.cpn_runs.specs.HoleRun.{PlainClaim, PlainPick, Status, open_claim, done_with, faulted_with}
use Rattle.cpn_jobs.specs.declared.work.Job.{Job}
use Rattle.cpn_log.specs.Logs.{PlainHead}
use Rattle.cpn_log.specs.declared.claims.Claim.{Claim}
use Rattle.cpn_log.specs.declared.claims.Course.{Course}
use Rattle.cpn_log.specs.declared.claims.Head.{Head}
use Rattle.cpn_log.specs.declared.claims.Course.TheVariants as courses

abbrev pub status_view : Course → Status
status_view courses.Open = open_claim
status_view (courses.Done outputs) = done_with outputs
status_view (courses.Failed fault) = faulted_with (fault_view fault)

abbrev pub claim_view : Claim → PlainClaim
claim_view claim = record {
  seat = claim.head.seat;
  element = element_view claim.head.element.value;
  time = claim.head.time;
  needs = claim.needs;
  status = status_view claim.course;
}

abbrev pub claim_views : List Claim → List PlainClaim
claim_views claims = map claim_view claims

-- the pick of a need at a time, with the stamp that it took
abbrev pub pick_with : ℕ → plain.Needed → ℕ → PlainPick
pick_with time need stamp = record { place = need.place; value = need.value; threshold = threshold time need; stamp = stamp }

-- those of needs, one after another
abbrev pub picked_with : ℕ → List plain.Needed → List ℕ → List PlainPick
picked_with time [] stamps = []
picked_with time (need ∷ needs) [] = []
picked_with time (need ∷ needs) (stamp ∷ stamps) = pick_with time need stamp ∷ picked_with time needs stamps

-- a token that was made, with another stamp
abbrev pub with_stamp : ℕ → Made → plain.Made
with_stamp stamp made = record (made_view made) { stamp = stamp }

-- what a claim took
abbrev pub taken_view : Claim → List PlainPick
taken_view claim = picked_with claim.head.time claim.needs claim.stamps.items

abbrev pub taken_views : List Claim → List (List PlainPick)
taken_views claims = map taken_view claims

abbrev pub head_view : Head → PlainHead
head_view head = record { seat = head.seat; element = element_view head.element.value; time = head.time }

-- what a claim of a seat on a job says
abbrev pub head_for : ℕ → Job → PlainHead
head_for seat job = record { seat = seat; element = element_view job.element.value; time = job.time }

-- the job of each claim
abbrev pub jobs_of : List Claim → List Job
jobs_of claims = map (λ claim. claim.job.value) claims
