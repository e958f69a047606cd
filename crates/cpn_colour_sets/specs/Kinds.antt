-- What the names of a kind mean, by their positions.
use Rattle.std.specs.Prelude.{ℕ, ◌+◌}
use Rattle.cpn_typing.specs.Names.{Meant, a_variable, a_constant}
use Rattle.cpn_declared.specs.TypeViews.{ty_view}
use Rattle.cpn_colour_sets.specs.declared.kinds.Kind.{Kind}
use Rattle.cpn_colour_sets.specs.declared.kinds.Kind.TheVariants as kinds

abbrev pub kind_view : Kind → ℕ → Meant
kind_view (kinds.Constants enumeration) k = a_constant enumeration k
kind_view (kinds.Variables first ty) k = a_variable (first + k) (ty_view ty.now)
