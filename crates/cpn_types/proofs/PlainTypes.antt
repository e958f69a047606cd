-- The types of truth values and of integers.
use Rattle.std.proofs.Common.{◌≡◌, rules}
use Rattle.cpn_typing.specs.Types.{bool_type, int_type}
use Rattle.cpn_declared.specs.TypeViews.{ty_view}
use Rattle.cpn_declared.specs.declared.types.Ty.{the_lemmas}
use Rattle.cpn_declared.specs.declared.types.Ty.TheVariants as kinds

pub view_bool : ty_view kinds.Bool ≡ bool_type
view_bool = search (rules, the_lemmas)

pub view_int : ty_view kinds.Int ≡ int_type
view_int = search (rules, the_lemmas)
