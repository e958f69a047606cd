-- The types so far are those of the locals so far.
use Rattle.std.proofs.Common.{◌≡◌, map, take}
use Rattle.cpn_declared.specs.TypeViews.{ty_view}
use Rattle.cpn_types.proofs.functions.types_of.Given as goal

abbrev pub invariant-loop-local : goal.invariant-loop-local
invariant-loop-local l = map ty_view l.types.items ≡ map (λ local. ty_view local.ty) (take l.local-index l.scope)
