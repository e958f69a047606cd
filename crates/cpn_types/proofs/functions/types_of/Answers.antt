-- The types so far, and at the end those of all locals.
use Rattle.std.proofs.Common.{◌≡◌, ◌∙◌, map, take, sym, ap, arith}
use Rattle.std.proofs.lemmas.List.{take_all}
use Rattle.cpn_typing.specs.Types.{types_from}
use Rattle.cpn_declared.specs.TypeViews.{ty_view}
use Rattle.cpn_types.proofs.ScopeTypes.{types_of_locals}
use Rattle.cpn_types.proofs.functions.types_of.Goals as goal

pub returns : goal.returns
returns c =
    let all : take c.loop-local.local-index c.args.scope.now ≡ c.args.scope.now = take_all c.loop-local.local-index c.args.scope.now (omega arith) in
    record { exact = ap types_from (c.loop-local.invariant ∙ ap (map (λ local. ty_view local.ty)) all) ∙ sym (types_of_locals c.args.scope.now) }

pub loop-local-init : goal.loop-local-init
loop-local-init c = ap (map ty_view) c.in_ok-types.ensures.items
