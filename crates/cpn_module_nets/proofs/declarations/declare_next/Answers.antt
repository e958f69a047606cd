-- What the check refuses is refused where it stands.
use Rattle.cpn_trees.specs.ParsedViews.{declaration_view}
use Rattle.cpn_declared.specs.Answers.{refusal_of}
use Rattle.cpn_declared.specs.DeclsViews.{decls_view}
use Rattle.cpn_document.specs.declared.pointers.Pointer.TheVariants as pointers
use Rattle.cpn_typing.specs.Declarations.{declared}
use Rattle.cpn_module_nets.specs.Answers.{net_refusal_of}
use Rattle.cpn_module_nets.specs.Accepted.{declared_with}
use Rattle.cpn_module_nets.proofs.CheckedTexts.{refused_there}
use Rattle.cpn_module_nets.proofs.declarations.declare_next.Goals as goal

pub returns-in-Err-declare : goal.returns-in-Err-declare
unfolding declared_with
returns-in-Err-declare c = record { reads = rw c.in-Ok.is (refused_there (pointers.Declaration c.args.number) (declared (decls_view c.args.decls.now) (declaration_view c.in-Ok.tree)) (refusal_of c.in-Err-declare.error) (net_refusal_of c.not_accepted.result) c.not_accepted.ensures.refused c.in-Err-declare.ensures.exact) }
