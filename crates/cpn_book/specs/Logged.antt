-- The claims of a run as a log keeps them: those that are committed by what they say and the marking that they leave, the others
-- whole. Source: own choice.
use Rattle.std.specs.Prelude.{◌≡◌, true, List, ◌++◌, map, Some}
use Rattle.std.specs.List.{AllByRecursion}
use Rattle.cpn_definitions.specs.Marking.{Marking}
use Rattle.cpn_runs.specs.HoleRun.{PlainClaim, is_done, marking_left}
use Rattle.cpn_log.specs.Logs.{PlainLog, head_of}

-- The log has the claims of a run from a marking: the first of them, which are all done with their outputs, are committed.
pub record HasClaims (start : Marking) (claims : List PlainClaim) (log : PlainLog) : Type 0 where
  pub committed : List PlainClaim
  pub claims_are : claims ≡ committed ++ log.claims
  pub done : AllByRecursion (λ claim. is_done claim.status ≡ true) committed
  pub heads : map head_of committed ≡ log.committed
  pub left : marking_left start committed ≡ Some log.settled
