-- The test is true exactly of what is the same.
use Rattle.std.proofs.lemmas.Bool.Decides.{Decides-at}
use Rattle.cpn_same.specs.SameArcs.{arc_expr_view}
use Rattle.cpn_same.specs.SameArcs.{arc_exprs_decide}
use Rattle.cpn_same.proofs.same_arcs.same_arc_expr.Goals as goal

pub returns-clause-same : goal.returns-clause-same
returns-clause-same c = Decides-at _ _ c.same_parts.ensures.exact (arc_exprs_decide (arc_expr_view c.args.arc.now) (arc_expr_view c.args.other.now))
