-- The test is true exactly of what is the same.
use Rattle.std.proofs.lemmas.Bool.Decides.{Decides-at}
use Rattle.cpn_core.specs.Inscriptions.{expr_view}
use Rattle.cpn_same.specs.SameInscriptions.{exprs_decide}
use Rattle.cpn_same.proofs.same_inscriptions.same_expr.Goals as goal

pub returns-clause-same : goal.returns-clause-same
returns-clause-same c = Decides-at _ _ c.same_form.ensures.exact (exprs_decide (expr_view c.args.expr.now) (expr_view c.args.other.now))
