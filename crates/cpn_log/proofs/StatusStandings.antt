-- What became of a claim, told by how it stands.
use Rattle.std.proofs.Common.{◌≡◌, IsTrue, ◌↔◌, refl, ap}
use Rattle.cpn_definitions.specs.Outcome.{Fault}
use Rattle.cpn_runs.specs.HoleRun.{Status, open_claim, done_with, faulted_with, is_done}
use Rattle.cpn_log.specs.Logs.{standing_of, stands_open, stands_done, stands_failed}

pub open_status : (status : Status) → standing_of status ≡ stands_open → status ≡ open_claim
open_status open_claim h = refl
open_status (done_with outputs) h = cc
open_status (faulted_with fault) h = cc

pub done_status : (status : Status) → IsTrue (is_done status) ↔ (standing_of status ≡ stands_done)
done_status open_claim = (λ h. cc, λ h. cc)
done_status (done_with outputs) = (λ h. refl, λ h. refl)
done_status (faulted_with fault) = (λ h. cc, λ h. cc)

pub failed_status : (status : Status) (fault : Fault) → standing_of status ≡ stands_failed fault → status ≡ faulted_with fault
failed_status open_claim fault h = cc
failed_status (done_with outputs) fault h = cc
failed_status (faulted_with other) fault h = let same : other ≡ fault = cc in ap faulted_with same
