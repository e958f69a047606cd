-- The works that a book keeps. Source: own choice.
use Rattle.std.specs.Prelude.{◌≡◌, ℕ, List, length, Some, slice_get}
use Rattle.cpn_definitions.specs.Net.{PlainNet}
use Rattle.cpn_jobs.specs.Work.{PlainWork, work_of}

-- The work of each transition of a net, by its number.
pub record AreWorks (n : PlainNet) (works : List PlainWork) : Type 0 where
  pub count : length works ≡ length n.transitions
  pub each : (t : ℕ) (work : PlainWork) → slice_get works t ≡ Some work → work ≡ work_of n t
