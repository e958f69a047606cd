-- What is accepted as the inscription of an arc has terms or a fault.
use Rattle.cpn_core.specs.Colours.{colour_view}
use Rattle.cpn_core.specs.Inscriptions.{multiset_view}
use Rattle.cpn_trees.specs.ParsedViews.{inscription_view}
use Rattle.cpn_declared.specs.DeclsViews.{decls_view}
use Rattle.cpn_forms.specs.ContextViews.{side_view}
use Rattle.cpn_types.proofs.TokenMeanings.{arc_has_meaning}
use Rattle.cpn_types.proofs.arcs.check_arc.Goals as goal

pub returns-clause-means : goal.returns-clause-means
returns-clause-means c = arc_has_meaning (decls_view c.args.decls.now) (side_view c.args.side) (colour_view c.args.colour.now) (inscription_view c.args.written.now) (multiset_view c.in_ok-expr.expr) c.in_ok-expr.ensures.exact
