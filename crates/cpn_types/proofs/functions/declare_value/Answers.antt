-- What was declared is there.
use Rattle.std.proofs.Common.{refl}
use Rattle.cpn_declared.specs.DeclsViews.{decls_view}
use Rattle.cpn_colour_sets.proofs.GrownDeclared.{grows_same}
use Rattle.cpn_types.proofs.functions.declare_value.Goals as goal

pub returns-in_err-from_str-clause-grown : goal.returns-in_err-from_str-clause-grown
returns-in_err-from_str-clause-grown c = grows_same (decls_view c.args.decls.now) (decls_view c.args.decls.now) refl

pub returns-then-not-is_new_name-clause-grown : goal.returns-then-not-is_new_name-clause-grown
returns-then-not-is_new_name-clause-grown c = grows_same (decls_view c.args.decls.now) (decls_view c.args.decls.now) refl

pub returns-in_err-body-clause-grown : goal.returns-in_err-body-clause-grown
returns-in_err-body-clause-grown c = grows_same (decls_view c.args.decls.now) (decls_view c.args.decls.now) refl

pub returns-clause-grown : goal.returns-clause-grown
returns-clause-grown c = c.add_call.ensures.grown
