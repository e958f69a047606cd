-- One value more is checked in the scope of those before it.
use Rattle.std.proofs.Common.{◌∙◌, ◌∷◌, [], map, ap, None, string_bytes}
use Rattle.std.proofs.lemmas.List.{map-append}
use Rattle.cpn_core.specs.Inscriptions.{expr_view}
use Rattle.cpn_trees.specs.AstViews.{ast_view, local_view, locals_from}
use Rattle.cpn_typing.specs.Multisets.{marked_let}
use Rattle.cpn_declared.specs.Answers.{refusal_of}
use Rattle.cpn_forms.specs.ScopeViews.{scope_view}
use Rattle.cpn_forms.specs.TypedViews.{typed_view}
use Rattle.cpn_types.specs.Sites.{site_view, value_at}
use Rattle.cpn_typing.proofs.Answered.{refuses_through}
use Rattle.cpn_types.proofs.LetValues.{next_value, no_value, let_refused, scope_more, outer_kept}
use Rattle.cpn_types.proofs.sites.Site.let_values.Goals as goal

pub returns-in_err-value-clause-exact : goal.returns-in_err-value-clause-exact
returns-in_err-value-clause-exact c =
    let g = site_view c.args.self.now in
    let_refused c.from_residual.result c.in_err-value.field-0.0 (scope_view c.value.new.scope.items) (marked_let g (locals_from (map local_view c.args.values.now)) (scope_view c.args.scope.now.items)) c.from_residual.ensures.1
    (λ body. refuses_through (refusal_of c.in_err-value.field-0.0) (value_at g (ast_view c.local-item.result.value) (scope_view c.loop-local.scope.items) None) (marked_let g (locals_from (map local_view c.args.values.now)) (scope_view c.args.scope.now.items) body)
    (λ r h. no_value g c.args.values.now c.loop-local.local-index c.local-item.result (scope_view c.loop-local.scope.items) r (map expr_view c.loop-local.exprs.items) body (marked_let g (locals_from (map local_view c.args.values.now)) (scope_view c.args.scope.now.items) body)
    c.loop-local-test.true
    c.local-item.is
    h
    (c.loop-local.invariant.left body))
    c.in_err-value.ensures.exact)

pub loop-local-preserved : goal.loop-local-preserved
loop-local-preserved c =
    let g = site_view c.args.self.now in
    record {
      left = λ body. next_value g c.args.values.now c.loop-local.local-index c.local-item.result (scope_view c.loop-local.scope.items) (scope_view c.push-in-loop-local.new.self.items) (typed_view c.in_ok-value.value) (map expr_view c.loop-local.exprs.items) (map expr_view c.push.new.self.items) body
          (marked_let g (locals_from (map local_view c.args.values.now)) (scope_view c.args.scope.now.items) body)
          c.loop-local-test.true
          c.local-item.is
          c.in_ok-value.ensures.exact
          (scope_more c.push-in-loop-local.new.self.items c.value.new.scope.items c.loop-local.scope.items (record { name = c.as_str.result; ty = c.in_ok-value.value.ty }) (string_bytes c.local-item.result.name) c.in_ok-push-2.ensures.items c.in_ok-value.ensures.locals c.as_str.ensures.value)
          (ap (map expr_view) c.in_ok-push.ensures.items ∙ map-append expr_view c.loop-local.exprs.items (c.in_ok-value.value.expr ∷ []))
          (c.loop-local.invariant.left body);
      outer = outer_kept c.args.scope.now.items c.loop-local.scope.items c.value.new.scope.items c.push-in-loop-local.new.self.items (record { name = c.as_str.result; ty = c.in_ok-value.value.ty }) c.in_ok-push-2.ensures.items c.in_ok-value.ensures.locals c.loop-local.invariant.outer;
    }
