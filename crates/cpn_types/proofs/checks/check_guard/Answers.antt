-- What is accepted are truth values or faults.
use Rattle.std.proofs.Common.{map, rules}
use Rattle.cpn_core.specs.Inscriptions.{expr_view}
use Rattle.cpn_trees.specs.ParsedViews.{guard_view}
use Rattle.cpn_declared.specs.DeclsViews.{decls_view}
use Rattle.cpn_types.proofs.ValueMeanings.{guard_has_meaning}
use Rattle.cpn_types.proofs.checks.check_guard.Goals as goal

pub returns-clause-means : goal.returns-clause-means
returns-clause-means c = guard_has_meaning (decls_view c.args.decls.now) (guard_view c.args.written.now) (map expr_view c.in_ok-conjuncts.conjuncts.items) (search rules)
