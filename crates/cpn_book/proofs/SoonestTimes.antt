-- The soonest of the times so far and of those that follow.
use Rattle.std.proofs.Common.{ℕ, Option, Some, None}
use Rattle.cpn_definitions.specs.Enabled.{or_sooner}

abbrev pub soonest : Option ℕ → Option ℕ → Option ℕ
soonest None rest = rest
soonest (Some time) rest = Some (or_sooner time rest)
