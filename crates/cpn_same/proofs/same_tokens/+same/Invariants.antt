-- The rows are the same where those that are left are.
use Rattle.std.proofs.Common.{◌≡◌, drop}
use Rattle.cpn_same.specs.Rows.{arc_arms_view, sums_view}
use Rattle.cpn_same.specs.SameTokens.{same_arc_arms, same_sums}
use Rattle.cpn_same.proofs.same_tokens.+same.Given as goal

abbrev pub invariant-same_each-loop-i : goal.invariant-same_each-loop-i
invariant-same_each-loop-i l =
    same_sums (sums_view l.parts.items) (sums_view l.others.items) ≡ same_sums (sums_view (drop l.i l.parts.items)) (sums_view (drop l.i l.others.items))

abbrev pub invariant-same_arms-loop-i : goal.invariant-same_arms-loop-i
invariant-same_arms-loop-i l =
    same_arc_arms (arc_arms_view l.arms.items) (arc_arms_view l.others.items) ≡ same_arc_arms (arc_arms_view (drop l.i l.arms.items)) (arc_arms_view (drop l.i l.others.items))
