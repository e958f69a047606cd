-- The latest stamp goes from one of its tokens.
use Rattle.std.proofs.Common.{◌≡◌, ℕ, ◌+◌, List, length, sym, ap, ◌∙◌, arith}
use Rattle.cpn_definitions.specs.Marking.{without_latest}
use Rattle.cpn_tmset.specs.StampCounts.{repeated}
use Rattle.cpn_tmset.proofs.LatestStamps.{none_named, none_taken, one_named, one_taken, length-without}
use Rattle.cpn_tmset.proofs.stamps.Stamps.take_latest.Goals as goal
use Rattle.cpn_tmset.proofs.stamps.Stamps.take_latest.Goals.{After-take_one}

pub returns-in_err-stamp-clause-stamp : goal.returns-in_err-stamp-clause-stamp
returns-in_err-stamp-clause-stamp c = rw (c.from_residual.ensures, ← c.self.view_is) (sym (none_named c.args.latest c.self.inside.counts.entries c.self.invariant.0 c.in_err-stamp.ensures.last))

pub returns-in_err-stamp-clause-taken : goal.returns-in_err-stamp-clause-taken
returns-in_err-stamp-clause-taken c = rw (← c.self.view_is) (sym (none_taken c.args.latest c.self.inside.counts.entries c.self.invariant.0 c.in_err-stamp.ensures.last))

left_is : (c : After-take_one) → repeated c.take_one.new.counts.entries ≡ without_latest c.args.latest (repeated c.self.inside.counts.entries)
left_is c = c.take_one.ensures.left ∙ one_taken c.args.latest c.in_ok-stamp.stamp c.in_ok-stamp.count c.self.inside.counts.entries c.self.invariant.0 c.in_ok-stamp.ensures.last

one_fewer : (c : After-take_one) → length (repeated c.take_one.new.counts.entries) + 1 ≡ c.self.inside.number
one_fewer c =
    ap (λ (ss : List ℕ). length ss + 1) (left_is c)
    ∙ length-without c.args.latest c.in_ok-stamp.stamp (repeated c.self.inside.counts.entries) (one_named c.args.latest c.in_ok-stamp.stamp c.in_ok-stamp.count c.self.inside.counts.entries c.self.invariant.0 c.in_ok-stamp.ensures.last)
    ∙ sym c.self.invariant.1

pub overflow_sub-self : goal.overflow_sub-self
overflow_sub-self c = let fewer = one_fewer c in omega (arith, fewer)

pub invariant_of-self : goal.invariant_of-self
invariant_of-self c = let fewer = one_fewer (goal.at.invariant_of-self c).After-take_one in (c.take_one.ensures.counted, omega (arith, fewer))

pub returns-clause-stamp : goal.returns-clause-stamp
returns-clause-stamp c = rw (← c.self.view_is) (sym (one_named c.args.latest c.in_ok-stamp.stamp c.in_ok-stamp.count c.self.inside.counts.entries c.self.invariant.0 c.in_ok-stamp.ensures.last))

pub returns-clause-taken : goal.returns-clause-taken
returns-clause-taken c = rw (← c.self.view_is) (left_is (goal.at.returns-clause-taken c).After-take_one)
