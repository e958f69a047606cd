-- The plain parts of forms that those of the program stand for, and where a form of the program stands.
use Rattle.std.specs.Prelude.{map, Option}
use Rattle.std.specs.Option.{option_map}
use Rattle.std.specs.Borrow.{Bor}
use Rattle.cpn_definitions.specs.Inscription.{arms_from}
use Rattle.cpn_core.specs.Inscriptions.{expr_view, exprs_view, arm_view}
use Rattle.cpn_typing.specs.Types.{PlainTy}
use Rattle.cpn_typing.specs.Rules as rules
use Rattle.cpn_declared.specs.TypeViews.{ty_view, tys_view}
use Rattle.cpn_forms.specs.ContextViews.{context_view}
use Rattle.cpn_declared.specs.declared.types.Ty.{Ty}
use Rattle.cpn_forms.specs.declared.forms.Parts.{Parts}
use Rattle.cpn_forms.specs.declared.forms.Items.{Items}
use Rattle.cpn_forms.specs.declared.forms.Arms.{Arms}
use Rattle.cpn_forms.specs.declared.forms.Branches.{Branches}
use Rattle.cpn_forms.specs.declared.forms.Spot.{Spot}
use Rattle.cpn_forms.specs.declared.operators.Sides.{Sides}
use Rattle.cpn_forms.specs.Operators.{TypedSides}

abbrev pub parts_view : Parts → rules.Parts
parts_view p = record { exprs = exprs_view p.exprs.items; types = tys_view p.types.items }

abbrev pub items_view : Items → rules.Items
items_view r = record { items = exprs_view r.exprs.items; item_type = option_map ty_view r.ty }

abbrev pub arms_view : Arms → rules.Arms
arms_view r = record { arms = arms_from (map arm_view r.arms.items); arm_type = option_map ty_view r.ty }

-- a type that is wanted, or none
abbrev pub wanted_view : Option (Bor Ty) → Option PlainTy
wanted_view = option_map (λ t. ty_view t.now)

abbrev pub spot_view : Spot → rules.Spot
spot_view s = record { context = context_view s.context; at = s.at; wanted = wanted_view s.wanted }

abbrev pub sides_view : Sides → TypedSides
sides_view s = record { left = expr_view s.left; right = expr_view s.right; first = ty_view s.first; last = ty_view s.last }

abbrev pub branches_view : Branches → rules.Sides
branches_view b = record { left = expr_view b.left; right = expr_view b.right; side = ty_view b.ty }
