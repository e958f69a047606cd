-- The variable is declared; and where its colour set is small, it is the first of those.
use Rattle.std.proofs.Common.{length}
use Rattle.cpn_core.specs.Nets.{net_view}
use Rattle.cpn_search.proofs.PlanSteps.{one_of_left, first_is}
use Rattle.cpn_search.proofs.plan.first_small.Goals as goal

pub values_of-requires : goal.values_of-requires
values_of-requires c = record { declared = one_of_left c.args.left.now c.loop-variable.variable-index (length c.args.net.now.variables.items) c.requires.declared c.loop-variable-test.true }

pub returns-in-Some : goal.returns-in-Some
returns-in-Some c = record {
  first = (
    first_is (net_view c.args.net.now) c.args.left.now c.loop-variable.variable-index c.loop-variable-test.true c.loop-variable.invariant (rw c.in-Some.is at c.in_ok-values.ensures.small),
    rw c.in-Some.is at c.in_ok-values.ensures.all,
  );
}
