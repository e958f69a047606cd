-- What was declared is there.
use Rattle.std.proofs.Common.{refl}
use Rattle.cpn_declared.specs.DeclsViews.{decls_view}
use Rattle.cpn_colour_sets.proofs.GrownDeclared.{grows_same}
use Rattle.cpn_colour_sets.proofs.colour_sets.declare_variables.Goals as goal

pub returns-in_err-colour-in-Some-clause-grown : goal.returns-in_err-colour-in-Some-clause-grown
returns-in_err-colour-in-Some-clause-grown c = grows_same (decls_view c.args.decls.now) (decls_view c.args.decls.now) refl

pub returns-in_err-check_new-in-None-clause-grown : goal.returns-in_err-check_new-in-None-clause-grown
returns-in_err-check_new-in-None-clause-grown c = grows_same (decls_view c.args.decls.now) (decls_view c.args.decls.now) refl

pub returns-in_err-name-in-None-clause-grown : goal.returns-in_err-name-in-None-clause-grown
returns-in_err-name-in-None-clause-grown c = grows_same (decls_view c.args.decls.now) (decls_view c.args.decls.now) refl

pub returns-in_ok-name-in-None-clause-grown : goal.returns-in_ok-name-in-None-clause-grown
returns-in_ok-name-in-None-clause-grown c = grows_same (decls_view c.args.decls.now) (decls_view c.args.decls.now) refl

pub returns-in_ok-colour-in-Some-clause-grown : goal.returns-in_ok-colour-in-Some-clause-grown
returns-in_ok-colour-in-Some-clause-grown c = c.declare_coloured.ensures.grown
