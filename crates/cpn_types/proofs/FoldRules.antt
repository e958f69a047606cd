-- The rule of `foldl`, once its list and its start are typed.
use Rattle.std.proofs.Common.{◌≡◌, List, [], ◌∷◌, ◌++◌, refl, sym, subst, Option, Some, None}
use Rattle.cpn_definitions.specs.Inscription.{accumulate}
use Rattle.cpn_trees.specs.AstViews.{ast_view}
use Rattle.cpn_trees.specs.declared.trees.Ast.{Ast}
use Rattle.cpn_typing.specs.Types.{PlainTy}
use Rattle.cpn_typing.specs.Names.{Name, Scope, local_of, Refusal, ok, ◌>>=◌}
use Rattle.cpn_typing.specs.Rules.{Typed, part, fold_rule, item_of}
use Rattle.cpn_typing.specs.Answers.{Refuses}
use Rattle.cpn_types.specs.Around.{typed_in, typed_then, body_in}
use Rattle.cpn_forms.specs.ScopeViews.{scope_view}
use Rattle.cpn_forms.specs.declared.scopes.Local.{Local}
use Rattle.cpn_types.specs.declared.surroundings.Surroundings.{Surroundings}
use Rattle.cpn_types.proofs.CallFronts.{refused_behind, offset_there}

pub fold_apart : (around : Surroundings) (item total : Name) (list start body : Ast) (scope : List Local) (w : Option PlainTy) (xs s : Typed) (t : PlainTy) (inner : Scope)
    → typed_in around list scope None ≡ ok xs → item_of xs.type_of list.at ≡ ok t → typed_in around start scope w ≡ ok s → inner ≡ scope_view scope ++ local_of item t ∷ local_of total s.type_of ∷ []
    → fold_rule w (part (ast_view list) (typed_in around list scope)) (part (ast_view start) (typed_in around start scope)) (body_in around item total body scope)
    ≡ (typed_then around body (Some s.type_of) inner >>= λ b. ok (record { expr = accumulate xs.expr s.expr b.expr; type_of = s.type_of }))
fold_apart around item total list start body scope w xs s t inner e f g n = rw (e, offset_there list, f, g, n) refl

pub fold_refused : (q : Option Refusal) (around : Surroundings) (item total : Name) (list start body : Ast) (scope : List Local) (w : Option PlainTy) (xs s : Typed) (t : PlainTy) (inner : Scope)
    → typed_in around list scope None ≡ ok xs → item_of xs.type_of list.at ≡ ok t → typed_in around start scope w ≡ ok s → inner ≡ scope_view scope ++ local_of item t ∷ local_of total s.type_of ∷ []
    → Refuses q (typed_then around body (Some s.type_of) inner)
    → Refuses q (fold_rule w (part (ast_view list) (typed_in around list scope)) (part (ast_view start) (typed_in around start scope)) (body_in around item total body scope))
fold_refused q around item total list start body scope w xs s t inner e f g n h =
    subst (Refuses q) (sym (fold_apart around item total list start body scope w xs s t inner e f g n))
    (refused_behind q (typed_then around body (Some s.type_of) inner) (λ b. ok (record { expr = accumulate xs.expr s.expr b.expr; type_of = s.type_of })) h)
