-- The name is new, and the argument is there; or one of them is refused.
use Rattle.std.proofs.Common.{◌∙◌, sym, ap}
use Rattle.cpn_trees.specs.DeclTrees.{alternative_view}
use Rattle.cpn_typing.specs.Names.{refused, duplicate}
use Rattle.cpn_typing.proofs.Answered.{answers_on, refuses_through}
use Rattle.cpn_declared.specs.Answers.{refusal_of}
use Rattle.cpn_declared.specs.DeclsViews.{decls_view}
use Rattle.cpn_colour_sets.specs.Alternatives.{argument_in, alternative_in}
use Rattle.cpn_colour_sets.proofs.OneAlternative.{none_refused, name_new, name_old, constructor_is}
use Rattle.cpn_colour_sets.proofs.colour_sets.add_alternative.Goals as goal

pub returns-then-not-is_new_name-clause-exact : goal.returns-then-not-is_new_name-clause-exact
returns-then-not-is_new_name-clause-exact c =
    name_old (decls_view c.args.decls.now) (alternative_view c.args.alternative.now) c.as_str-name.result.now c.as_str-name.ensures.value (sym c.is_new_name.ensures.exact ∙ c.if-not-is_new_name.true)
    ∙ ap (λ m. refused (duplicate m)) (sym c.in_ok-from_str.ensures.ok)

pub returns-in_err-shape-clause-exact : goal.returns-in_err-shape-clause-exact
returns-in_err-shape-clause-exact c =
    let ds = decls_view c.args.decls.now in
    let a = alternative_view c.args.alternative.now in
    answers_on refusal_of _ c.from_residual-in_err-shape.result c.in_err-shape.field-0.0 (alternative_in ds a) c.from_residual-in_err-shape.ensures.1
    (refuses_through (refusal_of c.in_err-shape.field-0.0) (argument_in ds a.argument) (alternative_in ds a)
    (λ r h. name_new ds a c.as_str-name.result.now c.as_str-name.ensures.value (sym c.is_new_name.ensures.exact ∙ c.if-not-is_new_name.false) ∙ h)
    c.in_err-shape.ensures.exact)

pub returns-in_err-add_name-clause-exact : goal.returns-in_err-add_name-clause-exact
returns-in_err-add_name-clause-exact c =
    let whole = alternative_in (decls_view c.args.decls.now) (alternative_view c.args.alternative.now) in
    answers_on refusal_of _ c.from_residual-in_err-add_name.result c.in_err-add_name.field-0.0 whole c.from_residual-in_err-add_name.ensures.1
    (none_refused (refusal_of c.in_err-add_name.field-0.0) _ _ _ (sym c.is_new_name.ensures.exact ∙ c.if-not-is_new_name.false) c.in_err-add_name.ensures.exact whole)

pub returns-clause-exact : goal.returns-clause-exact
returns-clause-exact c =
    name_new (decls_view c.args.decls.now) (alternative_view c.args.alternative.now) c.as_str-name.result.now c.as_str-name.ensures.value (sym c.is_new_name.ensures.exact ∙ c.if-not-is_new_name.false)
    ∙ c.in_ok-shape.ensures.exact

pub returns-clause-added : goal.returns-clause-added
returns-clause-added c =
    constructor_is (decls_view c.args.decls.now) (decls_view c.add_name.new.self) c.args.union _ c.args.position c.as_str-name.result.now _ _ _ c.in_ok-add_name.ensures.added c.in_ok-position.ensures.same
    (sym c.in_ok-from_str-2.ensures.ok) (c.in_ok-argument.ensures.exact ∙ sym c.in_ok-type_of_argument.ensures.exact)
