-- The next parameter is a local more, or refused with all.
use Rattle.std.proofs.Common.{◌≡◌, ◌∙◌, ◌+◌, true, false, [], map, drop, ap, sym, arith}
use Rattle.std.proofs.lemmas.List.{map-append}
use Rattle.cpn_trees.specs.DeclTrees.{parameter_view}
use Rattle.cpn_typing.specs.Declarations.{scope_of, type_named}
use Rattle.cpn_typing.specs.Names.{is_local, refused, duplicate}
use Rattle.cpn_typing.proofs.Answered.{answers_on, refuses_through}
use Rattle.cpn_declared.specs.Answers.{refusal_of}
use Rattle.cpn_declared.specs.DeclsViews.{decls_view}
use Rattle.cpn_declared.specs.TypeViews.{ty_view}
use Rattle.cpn_forms.specs.ScopeViews.{local_view, scope_view}
use Rattle.cpn_types.proofs.ParameterScopes.{name_taken, no_type, local_more, scope_ends}
use Rattle.cpn_types.proofs.functions.scope_of.Goals as goal

pub loop-parameter-init : goal.loop-parameter-init
loop-parameter-init c = ap (λ ls. scope_of (decls_view c.args.decls.now) (map parameter_view c.args.parameters.now) (scope_view ls)) c.in_ok-scope.ensures.items

pub returns-then-is_local : goal.returns-then-is_local
returns-then-is_local c =
    let sc = scope_view c.loop-parameter.scope.items in
    let n = c.as_str-name.result.now in
    let taken : is_local n sc ≡ true = ap (λ ls. is_local n (scope_view ls)) (sym c.as_slice.ensures.value) ∙ sym c.is_local.ensures.exact ∙ c.if-is_local.true in
    record {
      exact = sym c.loop-parameter.invariant
          ∙ name_taken (decls_view c.args.decls.now) c.args.parameters.now c.loop-parameter.parameter-index sc c.parameter-item.result c.loop-parameter-test.true c.parameter-item.is n c.as_str-name.ensures.value taken
          ∙ ap (λ m. refused (duplicate m)) (sym c.in_ok-from_str.ensures.ok);
    }

pub returns-in_err-ty : goal.returns-in_err-ty
returns-in_err-ty c =
    let ds = decls_view c.args.decls.now in
    let sc = scope_view c.loop-parameter.scope.items in
    let n = c.as_str-name.result.now in
    let new : is_local n sc ≡ false = ap (λ ls. is_local n (scope_view ls)) (sym c.as_slice.ensures.value) ∙ sym c.is_local.ensures.exact ∙ c.if-is_local.false in
    record {
      exact = answers_on refusal_of _ c.from_residual-in_err-ty.result c.in_err-ty.field-0.0 (scope_of ds (map parameter_view c.args.parameters.now) []) c.from_residual-in_err-ty.ensures.1
          (refuses_through (refusal_of c.in_err-ty.field-0.0) (type_named ds c.as_str.result.now) _
          (λ r h. sym c.loop-parameter.invariant
          ∙ no_type ds c.args.parameters.now c.loop-parameter.parameter-index sc c.parameter-item.result c.loop-parameter-test.true c.parameter-item.is n c.as_str-name.ensures.value new r (ap (type_named ds) (sym c.as_str.ensures.value) ∙ h))
          c.in_err-ty.ensures.exact);
    }

pub loop-parameter-preserved : goal.loop-parameter-preserved
loop-parameter-preserved c =
    let ds = decls_view c.args.decls.now in
    let sc = scope_view c.loop-parameter.scope.items in
    let n = c.as_str-name.result.now in
    let new : is_local n sc ≡ false = ap (λ ls. is_local n (scope_view ls)) (sym c.as_slice.ensures.value) ∙ sym c.is_local.ensures.exact ∙ c.if-is_local.false in
    ap (scope_of ds (map parameter_view (drop (c.loop-parameter.parameter-index + 1) c.args.parameters.now))) (ap scope_view c.in_ok-push.ensures.items ∙ map-append local_view c.loop-parameter.scope.items _)
    ∙ local_more ds c.args.parameters.now c.loop-parameter.parameter-index sc c.parameter-item.result c.loop-parameter-test.true c.parameter-item.is n c.as_str-name.ensures.value new
    (ty_view c.in_ok-ty.ty) (ap (type_named ds) (sym c.as_str.ensures.value) ∙ c.in_ok-ty.ensures.exact)
    ∙ c.loop-parameter.invariant

pub returns : goal.returns
returns c = record {
  exact = sym c.loop-parameter.invariant ∙ scope_ends (decls_view c.args.decls.now) c.args.parameters.now c.loop-parameter.parameter-index (scope_view c.loop-parameter.scope.items) (omega arith);
}
