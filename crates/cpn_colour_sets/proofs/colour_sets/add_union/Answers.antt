-- The alternatives are accepted, and the union is added.
use Rattle.std.proofs.Common.{◌∙◌, ap, map, refl}
use Rattle.cpn_definitions.specs.Colour.{union_shape}
use Rattle.cpn_core.specs.Colours.{constructors_view}
use Rattle.cpn_trees.specs.DeclTrees.{alternative_view}
use Rattle.cpn_colour_sets.specs.Alternatives.{alternatives_seen}
use Rattle.cpn_declared.specs.DeclsViews.{decls_view}
use Rattle.cpn_colour_sets.proofs.Bodies.{union_added}
use Rattle.cpn_core.proofs.ShapeLevels.{shape_union}
use Rattle.cpn_colour_sets.proofs.GrownDeclared.{grows_same, grows_on, grows_union}
use Rattle.cpn_colour_sets.proofs.colour_sets.add_union.Goals as goal

pub returns-clause-exact : goal.returns-clause-exact
returns-clause-exact c =
    union_added (decls_view c.args.decls.now) (decls_view c.add_alternatives.new.decls) (decls_view c.add_union.new.self) c.args.name.now (map alternative_view c.args.alternatives.now) (alternatives_seen c.in_ok-found.found.shapes.items c.in_ok-found.found.constructors.items) _ c.in_ok-number.number
    c.in_ok-found.ensures.exact c.in_ok-found.ensures.added c.in_ok-add_union.ensures.added c.in_ok-number.ensures.number (shape_union c.in_ok-number.number c.in_ok-arguments.arguments ∙ ap (λ shapes. union_shape c.in_ok-number.number (constructors_view shapes.items)) c.in_ok-arguments.ensures.ok)

pub returns-in_err-number-clause-grown : goal.returns-in_err-number-clause-grown
returns-in_err-number-clause-grown c = grows_same (decls_view c.args.decls.now) (decls_view c.args.decls.now) refl

pub returns-in_err-found-clause-grown : goal.returns-in_err-found-clause-grown
returns-in_err-found-clause-grown c = c.in_err-found.ensures.grown

pub returns-in_err-arguments-clause-grown : goal.returns-in_err-arguments-clause-grown
returns-in_err-arguments-clause-grown c = c.in_ok-found.ensures.grown

pub returns-in_err-add_union-clause-grown : goal.returns-in_err-add_union-clause-grown
returns-in_err-add_union-clause-grown c = grows_on (decls_view c.args.decls.now) (decls_view c.add_alternatives.new.decls) (decls_view c.add_union.new.self) c.in_ok-found.ensures.grown (grows_same (decls_view c.add_alternatives.new.decls) (decls_view c.add_union.new.self) c.in_err-add_union.ensures.unchanged)

pub returns-clause-grown : goal.returns-clause-grown
returns-clause-grown c = grows_union (decls_view c.args.decls.now) (decls_view c.add_alternatives.new.decls) (decls_view c.add_union.new.self) _ c.in_ok-found.ensures.grown c.in_ok-add_union.ensures.added
