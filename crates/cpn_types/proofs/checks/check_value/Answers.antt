-- What is accepted is an integer or a fault.
use Rattle.cpn_trees.specs.ParsedViews.{inscription_view}
use Rattle.cpn_declared.specs.DeclsViews.{decls_view}
use Rattle.cpn_forms.specs.TypedViews.{typed_view}
use Rattle.cpn_types.proofs.PlainTypes.{view_int}
use Rattle.cpn_types.proofs.ValueMeanings.{value_has_meaning}
use Rattle.cpn_types.proofs.checks.check_value.Goals as goal

pub returns-clause-means : goal.returns-clause-means
returns-clause-means c = value_has_meaning (decls_view c.args.decls.now) (inscription_view c.args.written.now) _ (typed_view c.in_ok-value.value) view_int c.in_ok-value.ensures.exact
