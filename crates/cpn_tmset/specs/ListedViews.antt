-- What references to values, and groups of tokens of the program, stand for.
use Rattle.std.specs.Prelude.{List, map}
use Rattle.std.specs.Borrow.{Bor}
use Rattle.cpn_definitions.specs.Value.{PlainValue}
use Rattle.cpn_definitions.specs.Marking.{token_at}
use Rattle.cpn_core.specs.Views.{value_view}
use Rattle.cpn_core.specs.declared.values.Value.{Value}
use Rattle.cpn_tmset.specs.Listed.{Group}
use Rattle.cpn_tmset.specs.declared.listing.TokenGroup.{TokenGroup}

-- the values that references lead to
abbrev pub pointed_view : List (Bor Value) → List PlainValue
pointed_view values = map (λ v. value_view v.now) values

abbrev pub group_view : TokenGroup → Group
group_view g = record { token = token_at (value_view g.value.now) g.stamp; count = g.count }

abbrev pub groups_view : List TokenGroup → List Group
groups_view gs = map group_view gs
