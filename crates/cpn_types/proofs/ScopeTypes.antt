-- The types of locals, one after another.
use Rattle.std.proofs.Common.{◌≡◌, List, [], ◌∷◌, map, refl, ap}
use Rattle.cpn_typing.specs.Types.{more_types, types_from}
use Rattle.cpn_typing.specs.Names.{types_of_scope}
use Rattle.cpn_declared.specs.TypeViews.{ty_view}
use Rattle.cpn_forms.specs.ScopeViews.{scope_view}
use Rattle.cpn_forms.specs.declared.scopes.Local.{Local}

pub types_of_locals : (ls : List Local) → types_of_scope (scope_view ls) ≡ types_from (map (λ local. ty_view local.ty) ls)
types_of_locals [] = refl
types_of_locals (l ∷ ls) = ap (more_types (ty_view l.ty)) (types_of_locals ls)
