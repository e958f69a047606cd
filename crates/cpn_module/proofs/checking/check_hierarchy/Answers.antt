-- What the parts of the call say is what the document is checked as.
use Rattle.std.proofs.Common.{rules}
use Rattle.cpn_declared.specs.DeclsViews.{decls_view}
use Rattle.cpn_document.specs.Views.{document_view}
use Rattle.cpn_module.specs.Views.{hierarchy_view}
use Rattle.cpn_module.specs.Answers.{refusal_of}
use Rattle.cpn_module.specs.OneHierarchy.{one_checked}
use Rattle.cpn_module.proofs.OneHierarchy.{refused_by_names, refused_in_itself, refused_by_relations, accepted, refused_at_exit}
use Rattle.cpn_module.proofs.checking.check_hierarchy.Goals as goal

pub returns-in_err-hierarchy-clause-refused : goal.returns-in_err-hierarchy-clause-refused
returns-in_err-hierarchy-clause-refused c =
    refused_at_exit (decls_view c.args.decls.now) (document_view c.args.document.now) c.from_residual.result c.in_err-hierarchy.field-0.0 c.from_residual.ensures.1
    (refused_by_names (decls_view c.args.decls.now) (document_view c.args.document.now) (refusal_of c.in_err-hierarchy.field-0.0) c.in_err-hierarchy.ensures.checks)

pub returns-in_err-hierarchy-clause-one : goal.returns-in_err-hierarchy-clause-one
returns-in_err-hierarchy-clause-one c = one_checked (decls_view c.args.decls.now) (document_view c.args.document.now)

pub returns-in_err-number-clause-one : goal.returns-in_err-number-clause-one
returns-in_err-number-clause-one c = one_checked (decls_view c.args.decls.now) (document_view c.args.document.now)

pub returns-in-Some-clause-refused : goal.returns-in-Some-clause-refused
returns-in-Some-clause-refused c =
    refused_in_itself (decls_view c.args.decls.now) (document_view c.args.document.now) (hierarchy_view c.in_ok-hierarchy.hierarchy) c.in_ok-hierarchy.ensures.named c.in_ok-hierarchy.ensures.checks c.in-Some.number (search rules)

pub returns-in-Some-clause-one : goal.returns-in-Some-clause-one
returns-in-Some-clause-one c = one_checked (decls_view c.args.decls.now) (document_view c.args.document.now)

pub returns-in_err-check_relations-clause-refused : goal.returns-in_err-check_relations-clause-refused
returns-in_err-check_relations-clause-refused c =
    refused_at_exit (decls_view c.args.decls.now) (document_view c.args.document.now) c.from_residual-in_err-check_relations.result c.in_err-check_relations.field-0.0 c.from_residual-in_err-check_relations.ensures.1
    (refused_by_relations (decls_view c.args.decls.now) (document_view c.args.document.now) (hierarchy_view c.in_ok-hierarchy.hierarchy) c.in_ok-hierarchy.ensures.named c.in_ok-hierarchy.ensures.checks (search rules) (refusal_of c.in_err-check_relations.field-0.0) c.in_err-check_relations.ensures.checks)

pub returns-in_err-check_relations-clause-one : goal.returns-in_err-check_relations-clause-one
returns-in_err-check_relations-clause-one c = one_checked (decls_view c.args.decls.now) (document_view c.args.document.now)

pub returns-clause-checked : goal.returns-clause-checked
returns-clause-checked c =
    accepted (decls_view c.args.decls.now) (document_view c.args.document.now) (hierarchy_view c.in_ok-hierarchy.hierarchy) c.in_ok-hierarchy.ensures.named c.in_ok-hierarchy.ensures.checks (search rules) c.in_ok-check_relations.ensures.checks

pub returns-clause-one : goal.returns-clause-one
returns-clause-one c = one_checked (decls_view c.args.decls.now) (document_view c.args.document.now)
