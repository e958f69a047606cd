-- What was declared is there.
use Rattle.std.proofs.Common.{refl}
use Rattle.cpn_declared.specs.DeclsViews.{decls_view}
use Rattle.cpn_colour_sets.proofs.GrownDeclared.{grows_same, grows_on, grows_colour}
use Rattle.cpn_colour_sets.proofs.colour_sets.declare_colour_set.Goals as goal

pub returns-in_err-from_str-clause-grown : goal.returns-in_err-from_str-clause-grown
returns-in_err-from_str-clause-grown c = grows_same (decls_view c.args.decls.now) (decls_view c.args.decls.now) refl

pub returns-then-not-is_new_colour-clause-grown : goal.returns-then-not-is_new_colour-clause-grown
returns-then-not-is_new_colour-clause-grown c = grows_same (decls_view c.args.decls.now) (decls_view c.args.decls.now) refl

pub returns-in_err-shape-clause-grown : goal.returns-in_err-shape-clause-grown
returns-in_err-shape-clause-grown c = c.in_err-shape.ensures.grown

pub returns-in_err-check_limits-clause-grown : goal.returns-in_err-check_limits-clause-grown
returns-in_err-check_limits-clause-grown c = c.in_ok-shape.ensures.grown

pub returns-in_err-add_colour-clause-grown : goal.returns-in_err-add_colour-clause-grown
returns-in_err-add_colour-clause-grown c = grows_on (decls_view c.args.decls.now) (decls_view c.add_body.new.decls) (decls_view c.add_colour.new.self) c.in_ok-shape.ensures.grown (grows_same (decls_view c.add_body.new.decls) (decls_view c.add_colour.new.self) c.in_err-add_colour.ensures.unchanged)

pub returns-clause-grown : goal.returns-clause-grown
returns-clause-grown c = grows_colour (decls_view c.args.decls.now) (decls_view c.add_body.new.decls) (decls_view c.add_colour.new.self) _ _ c.in_ok-shape.ensures.grown c.in_ok-add_colour.ensures.added
