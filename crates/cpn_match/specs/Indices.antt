-- Where a variable stands among the pairs of a partial binding, and which of the values are known.
use Rattle.std.specs.Prelude.{ℕ, suc, ◌==◌, Bool, if◌then◌else◌, List, [], ◌∷◌, map, Option, Some, None}
use Rattle.std.specs.Option.{option_map, is_some}
use Rattle.cpn_stages.specs.Partial.{PlainPartial}

-- the index of a variable among the pairs, from 0
abbrev pub index_among : ℕ → PlainPartial → Option ℕ
index_among x [] = None
index_among x (pair ∷ b) = if x == pair.0 then Some 0 else option_map (λ (k : ℕ). suc k) (index_among x b)

-- of which of the variables the value is known
abbrev pub known_in : PlainPartial → List Bool
known_in b = map (λ pair. is_some pair.1) b

-- the partial binding without the values that are not known
abbrev pub forgotten : List Bool → PlainPartial → PlainPartial
forgotten (known ∷ knowns) (pair ∷ b) = (pair.0, if known then pair.1 else None) ∷ forgotten knowns b
forgotten knowns b = b
