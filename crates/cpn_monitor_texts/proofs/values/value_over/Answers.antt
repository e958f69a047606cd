-- The rules of the text come first, and then its variables.
use Rattle.std.proofs.Common.{refl}
use Rattle.cpn_core.specs.Inscriptions.{expr_view}
use Rattle.cpn_declared.specs.Answers.{refusal_of}
use Rattle.cpn_declared.specs.DeclsViews.{decls_view}
use Rattle.cpn_trees.specs.ParsedViews.{inscription_view}
use Rattle.cpn_typing.specs.GuardsAndDelays.{checked_value}
use Rattle.cpn_typing.proofs.Answered.{answers_on, refuses_through}
use Rattle.cpn_monitor_texts.specs.Variables.{value_over}
use Rattle.cpn_monitor_texts.proofs.ValuesOver.{variables_declared}
use Rattle.cpn_monitor_texts.proofs.values.value_over.Goals as goal

pub returns-in_err-value : goal.returns-in_err-value
returns-in_err-value c =
    let ds = decls_view c.args.decls.now in
    let tree = inscription_view c.args.tree.now in
    record {
      exact = answers_on refusal_of expr_view c.from_residual.result c.in_err-value.field-0.0 (value_over ds c.args.vars.now tree) c.from_residual.ensures.1
          (refuses_through (refusal_of c.in_err-value.field-0.0) (checked_value ds tree) (value_over ds c.args.vars.now tree) (λ r e. rw e refl) c.in_err-value.ensures.exact);
    }

pub check_over-requires : goal.check_over-requires
check_over-requires c = record { declared = variables_declared (decls_view c.args.decls.now) c.requires.consistent (inscription_view c.args.tree.now) (expr_view c.in_ok-value.value) c.in_ok-value.ensures.exact }
