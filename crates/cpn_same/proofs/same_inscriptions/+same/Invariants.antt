-- The rows are the same where those that are left are.
use Rattle.std.proofs.Common.{◌≡◌, drop}
use Rattle.cpn_core.specs.Inscriptions.{exprs_view}
use Rattle.cpn_same.specs.Rows.{arms_view}
use Rattle.cpn_same.specs.SameInscriptions.{same_arms, same_exprs}
use Rattle.cpn_same.proofs.same_inscriptions.+same.Given as goal

abbrev pub invariant-same_each-loop-i : goal.invariant-same_each-loop-i
invariant-same_each-loop-i l =
    same_exprs (exprs_view l.exprs.items) (exprs_view l.others.items) ≡ same_exprs (exprs_view (drop l.i l.exprs.items)) (exprs_view (drop l.i l.others.items))

abbrev pub invariant-same_arms-loop-i : goal.invariant-same_arms-loop-i
invariant-same_arms-loop-i l =
    same_arms (arms_view l.arms.items) (arms_view l.others.items) ≡ same_arms (arms_view (drop l.i l.arms.items)) (arms_view (drop l.i l.others.items))
