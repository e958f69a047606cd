-- The log stays kept.
use Rattle.cpn_log.specs.Kept.{IsKept}
use Rattle.cpn_log.specs.LogViews.{log_view}
use Rattle.cpn_test_calls.proofs.logs.make_all.Given as goal

abbrev pub invariant-loop-call : goal.invariant-loop-call
invariant-loop-call l = IsKept (log_view l.log)
