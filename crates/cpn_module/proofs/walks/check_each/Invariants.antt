-- A walk over the rest is one over all.
use Rattle.std.proofs.Common.{drop}
use Rattle.cpn_module.specs.Walks.{IsWalk}
use Rattle.cpn_module.proofs.walks.check_each.Given as goal

abbrev pub invariant-loop-number : goal.invariant-loop-number
invariant-loop-number g l = (r : _) → IsWalk (goal.F-post g l.check) l.number (drop l.number l.items) r → IsWalk (goal.F-post g l.check) 0 l.items r
