-- The test is true exactly of what is the same.
use Rattle.std.proofs.lemmas.Bool.Decides.{Decides-at}
use Rattle.cpn_core.specs.Inscriptions.{funs_view}
use Rattle.cpn_same.specs.SameInscriptions.{functions_decide}
use Rattle.cpn_same.proofs.same_functions.same_funs.Goals as goal

pub returns-clause-same : goal.returns-clause-same
returns-clause-same c = Decides-at _ _ c.same_each.ensures.exact (functions_decide (funs_view c.args.funs.now) (funs_view c.args.other.now))
