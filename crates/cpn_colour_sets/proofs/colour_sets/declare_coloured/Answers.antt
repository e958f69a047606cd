-- The names are new, and the variables are added.
use Rattle.std.proofs.Common.{map, string_bytes, refl}
use Rattle.cpn_core.specs.Colours.{colour_view}
use Rattle.cpn_declared.specs.DeclsViews.{decls_view}
use Rattle.cpn_declared.specs.TypeViews.{ty_view}
use Rattle.cpn_colour_sets.proofs.NameLists.{variables_declared}
use Rattle.cpn_colour_sets.proofs.GrownDeclared.{grows_same, grows_on}
use Rattle.cpn_colour_sets.proofs.colour_sets.declare_coloured.Goals as goal

pub returns-clause-exact : goal.returns-clause-exact
returns-clause-exact c =
    variables_declared (decls_view c.args.decls.now) (decls_view c.add_names.new.decls) (decls_view c.add_coloured.new.decls) (map string_bytes c.args.names.now) (colour_view c.args.colour.now) (ty_view c.in_ok-ty.ty) c.in_ok-first.first _
    c.in_ok-add_names.ensures.exact c.in_ok-add_names.ensures.added c.in_ok-add_coloured.ensures.added c.in_ok-ty.ensures.exact c.in_ok-first.ensures.number

pub returns-in_err-first-clause-grown : goal.returns-in_err-first-clause-grown
returns-in_err-first-clause-grown c = grows_same (decls_view c.args.decls.now) (decls_view c.args.decls.now) refl

pub returns-in_err-ty-clause-grown : goal.returns-in_err-ty-clause-grown
returns-in_err-ty-clause-grown c = grows_same (decls_view c.args.decls.now) (decls_view c.args.decls.now) refl

pub returns-in_err-add_names-clause-grown : goal.returns-in_err-add_names-clause-grown
returns-in_err-add_names-clause-grown c = c.in_err-add_names.ensures.grown

pub returns-in_err-add_coloured-clause-grown : goal.returns-in_err-add_coloured-clause-grown
returns-in_err-add_coloured-clause-grown c = grows_on (decls_view c.args.decls.now) (decls_view c.add_names.new.decls) (decls_view c.add_coloured.new.decls) c.in_ok-add_names.ensures.grown c.in_err-add_coloured.ensures.grown

pub returns-clause-grown : goal.returns-clause-grown
returns-clause-grown c = grows_on (decls_view c.args.decls.now) (decls_view c.add_names.new.decls) (decls_view c.add_coloured.new.decls) c.in_ok-add_names.ensures.grown c.in_ok-add_coloured.ensures.grown
