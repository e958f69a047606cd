-- Where the needs for one value on one place begin among needs in order.
use Rattle.std.specs.Prelude.{◌≡◌, ℕ, Bool, true, false, List}
use Rattle.std.specs.List.Sorted.{IsPartitionPoint}
use Rattle.std.specs.Ordering.{ordering_then, nat_cmp, is_lt}
use Rattle.cpn_definitions.specs.Order.{value_cmp}
use Rattle.cpn_definitions.specs.Occurrence.{Needed}

-- whether a need comes before another by place and value
abbrev pub need_before : Needed → Needed → Bool
need_before need other = is_lt (ordering_then (nat_cmp need.place other.place) (value_cmp need.value other.value))

-- where the needs for the value of a need on its place begin: those ahead of it come before the need by place and value,
-- and none from there on does
abbrev pub IsStartOfNeed : Needed → List Needed → ℕ → Type 0
IsStartOfNeed need needs = IsPartitionPoint (λ other. need_before other need ≡ true) (λ other. need_before other need ≡ false) needs
