-- Of which values on which places the time stamps changed from one marking to another. Source: own choice.
use Rattle.std.specs.Prelude.{◌≡◌, ◌≢◌, ℕ, ◌==◌, Bool, true, false, ◌&&◌, List}
use Rattle.std.specs.List.{list_any}
use Rattle.std.specs.declared.cmp.Ordering.{Ordering}
use Rattle.std.specs.Ordering.{ordering_then, nat_cmp}
use Rattle.cpn_definitions.specs.Value.{PlainValue}
use Rattle.cpn_definitions.specs.Order.{value_cmp, same_value}
use Rattle.cpn_definitions.specs.Lists.{Rises}
use Rattle.cpn_definitions.specs.Marking.{Marking, tokens_at, stamps}

-- A place and a value.
pub record PlainChange : Type 0 where
  pub place : ℕ
  pub value : PlainValue

-- how two of them compare: by place, then by value
abbrev pub change_cmp : PlainChange → PlainChange → Ordering
change_cmp change other = ordering_then (nat_cmp change.place other.place) (value_cmp change.value other.value)

-- whether it is the value on the place
abbrev pub is_change : ℕ → PlainValue → PlainChange → Bool
is_change p v change = (p == change.place) && same_value v change.value

-- whether the value on the place is among them
abbrev pub is_told : ℕ → PlainValue → List PlainChange → Bool
is_told p v changes = list_any (is_change p v) changes

-- Others stay: each value on a place that is not told has the same stamps in both markings. So all that changed is told, and perhaps more.
abbrev pub OthersStay : List PlainChange → Marking → Marking → Type 0
OthersStay told old new = (p : ℕ) (v : PlainValue) → is_told p v told ≡ false → stamps v (tokens_at new p) ≡ stamps v (tokens_at old p)

-- Changes: the places and values whose stamps differ in the two markings, and no other, each once, in their order.
pub record AreChanges (old new : Marking) (changes : List PlainChange) : Type 0 where
  pub rise : Rises change_cmp changes
  pub told : (p : ℕ) (v : PlainValue) → is_told p v changes ≡ true → stamps v (tokens_at new p) ≢ stamps v (tokens_at old p)
  pub others : OthersStay changes old new
