-- What is declared stays consistent.
use Rattle.cpn_trees.specs.ParsedViews.{declaration_view}
use Rattle.cpn_typing.proofs.Consistent.{declared_consistent}
use Rattle.cpn_declared.specs.DeclsViews.{decls_view}
use Rattle.cpn_types.proofs.declaring.declare.Goals as goal

pub returns-in-Ok-clause-consistent : goal.returns-in-Ok-clause-consistent
returns-in-Ok-clause-consistent c = λ good. declared_consistent (decls_view c.args.decls.now) (declaration_view c.args.declaration.now) (decls_view c.declare_form.new.decls) good c.in-Ok.ensures.exact
