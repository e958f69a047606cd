-- What is begun means what the inscription means, form by form.
use Rattle.std.proofs.Common.{◌∙◌, ap, sym}
use Rattle.cpn_definitions.specs.Inscription.{operation, apply, tupling, listing, calling}
use Rattle.cpn_core.specs.declared.inscriptions.Expr.TheViews as exprs
use Rattle.cpn_core.specs.Inscriptions.{op_view, expr_view, exprs_view}
use Rattle.cpn_eval.specs.Frames.{after_outcome, meant_at, locals_of}
use Rattle.cpn_core.proofs.InscriptionLevels.{view_op, view_tuple, view_list, view_call, view_applied, view_and, view_or, view_if, view_case, view_let, view_fold}
use Rattle.cpn_eval.proofs.Turns.{goes_same, all_parts_goes, argument_goes, also_goes, otherwise_goes, if_goes, let_goes, case_goes, begin_fold_goes}
use Rattle.cpn_eval.proofs.frames.Machine.open.Goals as goal

pub returns-in-Op : goal.returns-in-Op
returns-in-Op c =
    goes_same c.args.world.now c.operation.new.self c.operation.result _ _
    (ap (λ e. after_outcome c.args.world.now c.args.self.now (meant_at c.args.world.now c.args.self.now.visible (locals_of c.args.self.now) e))
    (sym (ap expr_view c.in-Op.is ∙ view_op c.in-Op.op c.in-Op.parts ∙ ap (λ es. apply (operation (op_view c.in-Op.op)) (exprs_view es)) (sym c.deref.ensures.value))))
    c.operation.ensures

pub returns-in-Tuple : goal.returns-in-Tuple
returns-in-Tuple c =
    goes_same c.args.world.now c.all_parts.new.self c.all_parts.result _ _ (all_parts_goes c.args.world.now c.args.self.now tupling c.deref-in-Tuple.result.now c.in-Tuple.parts.items (expr_view c.args.expr.now) c.deref-in-Tuple.ensures.value (ap expr_view c.in-Tuple.is ∙ view_tuple c.in-Tuple.parts)) c.all_parts.ensures

pub returns-in-List : goal.returns-in-List
returns-in-List c =
    goes_same c.args.world.now c.all_parts-in-List.new.self c.all_parts-in-List.result _ _ (all_parts_goes c.args.world.now c.args.self.now listing c.deref-in-List.result.now c.in-List.parts.items (expr_view c.args.expr.now) c.deref-in-List.ensures.value (ap expr_view c.in-List.is ∙ view_list c.in-List.parts)) c.all_parts-in-List.ensures

pub returns-in-Call : goal.returns-in-Call
returns-in-Call c =
    goes_same c.args.world.now c.all_parts-in-Call.new.self c.all_parts-in-Call.result _ _ (all_parts_goes c.args.world.now c.args.self.now (calling c.in-Call.function) c.deref-in-Call.result.now c.in-Call.parts.items (expr_view c.args.expr.now) c.deref-in-Call.ensures.value (ap expr_view c.in-Call.is ∙ view_call c.in-Call.function c.in-Call.parts)) c.all_parts-in-Call.ensures

pub returns-in-If : goal.returns-in-If
returns-in-If c =
    goes_same c.args.world.now c.test-in-If.new.self c.test-in-If.result _ _ (if_goes c.args.world.now c.args.self.now (expr_view c.args.expr.now) c.deref-in-If-3.result.now c.deref-in-If.result.now c.deref-in-If-2.result.now c.in-If.condition.value c.in-If.yes.value c.in-If.no.value (ap expr_view c.in-If.is ∙ view_if c.in-If.condition c.in-If.yes c.in-If.no) c.deref-in-If-3.ensures c.deref-in-If.ensures c.deref-in-If-2.ensures) c.test-in-If.ensures

pub returns-in-And : goal.returns-in-And
returns-in-And c =
    goes_same c.args.world.now c.test.new.self c.test.result _ _ (also_goes c.args.world.now c.args.self.now (expr_view c.args.expr.now) c.deref-in-And-2.result.now c.deref-in-And.result.now c.in-And.first.value c.in-And.second.value (ap expr_view c.in-And.is ∙ view_and c.in-And.first c.in-And.second) c.deref-in-And-2.ensures c.deref-in-And.ensures) c.test.ensures

pub returns-in-Or : goal.returns-in-Or
returns-in-Or c =
    goes_same c.args.world.now c.test-in-Or.new.self c.test-in-Or.result _ _ (otherwise_goes c.args.world.now c.args.self.now (expr_view c.args.expr.now) c.deref-in-Or-2.result.now c.deref-in-Or.result.now c.in-Or.first.value c.in-Or.second.value (ap expr_view c.in-Or.is ∙ view_or c.in-Or.first c.in-Or.second) c.deref-in-Or-2.ensures c.deref-in-Or.ensures) c.test-in-Or.ensures

pub returns-in-Some : goal.returns-in-Some
returns-in-Some c =
    goes_same c.args.world.now c.wait.new.self c.wait.result _ _ (argument_goes c.args.world.now c.args.self.now c.in-Con.position (expr_view c.args.expr.now) c.deref-in-Some.result.now c.in-Some.inner.value (ap expr_view c.in-Con.is ∙ ap (λ a. expr_view (exprs.Con c.in-Con.position a)) c.in-Some.is ∙ view_applied c.in-Con.position c.in-Some.inner) c.deref-in-Some.ensures) c.wait.ensures

pub returns-in-Case : goal.returns-in-Case
returns-in-Case c =
    goes_same c.args.world.now c.select.new.self c.select.result _ _ (case_goes c.args.world.now c.args.self.now (expr_view c.args.expr.now) c.deref-in-Case.result.now c.in-Case.subject.value c.deref-in-Case-2.result.now c.in-Case.arms.items (ap expr_view c.in-Case.is ∙ view_case c.in-Case.subject c.in-Case.arms) c.deref-in-Case.ensures c.deref-in-Case-2.ensures.value) c.select.ensures

pub returns-in-Let : goal.returns-in-Let
returns-in-Let c =
    goes_same c.args.world.now c.wait-in-Let.new.self c.wait-in-Let.result _ _ (let_goes c.args.world.now c.args.self.now (expr_view c.args.expr.now) c.deref-in-Let-2.result.now c.deref-in-Let.result.now c.in-Let.bound.value c.in-Let.body.value (ap expr_view c.in-Let.is ∙ view_let c.in-Let.bound c.in-Let.body) c.deref-in-Let-2.ensures c.deref-in-Let.ensures) c.wait-in-Let.ensures

pub returns-in-Fold : goal.returns-in-Fold
returns-in-Fold c =
    goes_same c.args.world.now c.wait-in-Fold.new.self c.wait-in-Fold.result _ _ (begin_fold_goes c.args.world.now c.args.self.now (expr_view c.args.expr.now) c.deref-in-Fold-3.result.now c.deref-in-Fold.result.now c.deref-in-Fold-2.result.now c.in-Fold.list.value c.in-Fold.start.value c.in-Fold.body.value (ap expr_view c.in-Fold.is ∙ view_fold c.in-Fold.list c.in-Fold.start c.in-Fold.body) c.deref-in-Fold-3.ensures c.deref-in-Fold.ensures c.deref-in-Fold-2.ensures) c.wait-in-Fold.ensures
