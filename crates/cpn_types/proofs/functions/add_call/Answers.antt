-- What was declared is there.
use Rattle.std.proofs.Common.{refl, ◌∙◌}
use Rattle.cpn_declared.specs.DeclsViews.{decls_view}
use Rattle.cpn_colour_sets.proofs.GrownDeclared.{grows_same, grows_names, grows_function}
use Rattle.cpn_types.proofs.AddedFunctions.{memory_told}
use Rattle.cpn_types.proofs.functions.add_call.Goals as goal

pub returns-in_err-number-clause-grown : goal.returns-in_err-number-clause-grown
returns-in_err-number-clause-grown c = grows_same (decls_view c.args.decls.now) (decls_view c.args.decls.now) refl

pub returns-in_err-parameters-clause-grown : goal.returns-in_err-parameters-clause-grown
returns-in_err-parameters-clause-grown c = grows_same (decls_view c.args.decls.now) (decls_view c.args.decls.now) refl

pub returns-in_err-types-clause-grown : goal.returns-in_err-types-clause-grown
returns-in_err-types-clause-grown c = grows_same (decls_view c.args.decls.now) (decls_view c.args.decls.now) refl

pub returns-in_err-body-clause-grown : goal.returns-in_err-body-clause-grown
returns-in_err-body-clause-grown c = grows_same (decls_view c.args.decls.now) (decls_view c.args.decls.now) refl

pub returns-in_err-add_name-clause-grown : goal.returns-in_err-add_name-clause-grown
returns-in_err-add_name-clause-grown c = grows_same (decls_view c.args.decls.now) (decls_view c.add_name.new.self) c.in_err-add_name.ensures.unchanged

pub returns-in_err-add_function-clause-grown : goal.returns-in_err-add_function-clause-grown
returns-in_err-add_function-clause-grown c = grows_names (decls_view c.args.decls.now) (decls_view c.add_function.new.self) _ (c.in_err-add_function.ensures.unchanged ∙ c.in_ok-add_name.ensures.added)

pub returns-clause-grown : goal.returns-clause-grown
returns-clause-grown c = grows_function (decls_view c.args.decls.now) (decls_view c.add_name.new.self) (decls_view c.add_function.new.self) _ (grows_names (decls_view c.args.decls.now) (decls_view c.add_name.new.self) _ c.in_ok-add_name.ensures.added) c.in_ok-add_function.ensures.added

pub returns-in_err-add_name-clause-memory : goal.returns-in_err-add_name-clause-memory
returns-in_err-add_name-clause-memory c = memory_told c.from_residual-in_err-add_name.result c.in_err-add_name.field-0.0 c.from_residual-in_err-add_name.ensures.1 _ _ _ c.requires.new c.in_err-add_name.ensures.exact
