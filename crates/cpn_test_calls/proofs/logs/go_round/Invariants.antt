-- The log stays kept.
use Rattle.cpn_log.specs.Kept.{IsKept}
use Rattle.cpn_log.specs.LogViews.{log_view}
use Rattle.cpn_test_calls.proofs.logs.go_round.Given as goal

abbrev pub invariant-loop-number : goal.invariant-loop-number
invariant-loop-number l = IsKept (log_view l.log)
