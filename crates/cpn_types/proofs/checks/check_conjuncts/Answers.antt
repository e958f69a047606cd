-- One conjunct more is a truth value.
use Rattle.std.proofs.Common.{◌∙◌, sym, refl, map, arith}
use Rattle.cpn_core.specs.Inscriptions.{expr_view}
use Rattle.cpn_trees.specs.Trees.{asts_from}
use Rattle.cpn_trees.specs.AstViews.{ast_view}
use Rattle.cpn_typing.specs.GuardsAndDelays.{checked_guard}
use Rattle.cpn_declared.specs.Answers.{refusal_of}
use Rattle.cpn_declared.specs.DeclsViews.{decls_view}
use Rattle.cpn_forms.specs.TypedViews.{typed_view}
use Rattle.cpn_typing.proofs.Answered.{answers_on}
use Rattle.cpn_types.proofs.Conjuncts.{conjunct_more, conjuncts_done, conjunct_refused}
use Rattle.cpn_types.proofs.PlainTypes.{view_bool}
use Rattle.cpn_types.proofs.checks.check_conjuncts.Goals as goal

pub loop-tree-preserved : goal.loop-tree-preserved
loop-tree-preserved c =
    conjunct_more (decls_view c.args.decls.now) c.args.trees.now c.loop-tree.tree-index c.tree-item.result _ c.loop-tree.conjuncts.items c.push.new.self.items c.in_ok-conjunct.conjunct.expr (typed_view c.in_ok-conjunct.conjunct)
    (checked_guard (decls_view c.args.decls.now) (asts_from (map ast_view c.args.trees.now)))
    view_bool c.in_ok-push.ensures.items refl (omega arith) c.tree-item.is c.in_ok-conjunct.ensures.exact c.loop-tree.invariant

pub returns-in_err-conjunct : goal.returns-in_err-conjunct
returns-in_err-conjunct c = record {
  exact = answers_on refusal_of _ c.from_residual.result c.in_err-conjunct.field-0.0 (checked_guard (decls_view c.args.decls.now) (asts_from (map ast_view c.args.trees.now))) c.from_residual.ensures.1
      (conjunct_refused (refusal_of c.in_err-conjunct.field-0.0) (decls_view c.args.decls.now) c.args.trees.now c.loop-tree.tree-index c.tree-item.result _ (map expr_view c.loop-tree.conjuncts.items)
      (checked_guard (decls_view c.args.decls.now) (asts_from (map ast_view c.args.trees.now))) view_bool (omega arith) c.tree-item.is c.in_err-conjunct.ensures.exact c.loop-tree.invariant);
}

pub returns : goal.returns
returns c = record { exact = sym c.loop-tree.invariant ∙ conjuncts_done (decls_view c.args.decls.now) c.args.trees.now c.loop-tree.tree-index (map expr_view c.loop-tree.conjuncts.items) (omega arith) }
