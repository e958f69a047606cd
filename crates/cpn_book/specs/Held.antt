-- Which claims the seats of a run hold. Source: own choice.
use Rattle.std.specs.Prelude.{◌≡◌, ℕ, suc, ◌<◌, if◌then◌else◌, nat_lt, List, [], ◌∷◌, length, Option, Some, None, slice_get}
use Rattle.cpn_runs.specs.HoleRun.{PlainClaim}
use Rattle.cpn_runs.specs.State.{is_held_by}

-- the number of the first claim that a seat has open among claims that are numbered from k on, if it has one
abbrev pub held_from : ℕ → ℕ → List PlainClaim → Option ℕ
held_from k seat [] = None
held_from k seat (claim ∷ claims) = if is_held_by seat claim then Some k else held_from (suc k) seat claims

-- what a seat holds after a cut at a number: the claim that it held, if that is below the number
abbrev pub held_below : ℕ → Option ℕ → Option ℕ
held_below number None = None
held_below number (Some k) = if nat_lt k number then Some k else None

-- Of each seat the number of its open claim, if it has one.
pub record AreHeld (seats : ℕ) (claims : List PlainClaim) (held : List (Option ℕ)) : Type 0 where
  pub each : length held ≡ seats
  pub numbers : (seat : ℕ) → seat < seats → slice_get held seat ≡ Some (held_from 0 seat claims)
