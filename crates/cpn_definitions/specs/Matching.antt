-- What a pattern of a `case` binds in a value: the values of its variables from left to right, or nothing where it does
-- not match. Source: our own profile of CPN ML.
use Rattle.std.specs.Prelude.{◌==◌, if◌then◌else◌, List, [], ◌∷◌, ◌++◌, Option, Some, None}
use Rattle.cpn_definitions.specs.Value.{PlainValue, PlainValues, tuple, bare, applied, list, none, more}
use Rattle.cpn_definitions.specs.Order.{same_value}
use Rattle.cpn_definitions.specs.Inscription.{PlainPattern, any_pattern, variable_pattern, literal_pattern, tuple_pattern, list_pattern, cons_pattern, bare_pattern, applied_pattern, PlainPatterns, no_patterns, more_patterns}

-- what the two bind, the first before the second
abbrev pub both_bound : Option (List PlainValue) → Option (List PlainValue) → Option (List PlainValue)
both_bound None second = None
both_bound (Some vs) None = None
both_bound (Some vs) (Some ws) = Some (vs ++ ws)

abbrev mutual
  -- what a pattern binds in a value, if it matches
  pub matched : PlainPattern → PlainValue → Option (List PlainValue)
  matched any_pattern v = Some []
  matched (variable_pattern k) v = Some (v ∷ [])
  matched (literal_pattern w) v = if same_value w v then Some [] else None
  matched (tuple_pattern ps) (tuple vs) = matched_each ps vs
  matched (list_pattern ps) (list vs) = matched_each ps vs
  matched (cons_pattern p q) (list (more v vs)) = both_bound (matched p v) (matched q (list vs))
  matched (bare_pattern k) (bare j) = if k == j then Some [] else None
  matched (applied_pattern k p) (applied j v) = if k == j then matched p v else None
  matched p v = None

  -- the patterns against the values, one for one
  pub matched_each : PlainPatterns → PlainValues → Option (List PlainValue)
  matched_each no_patterns none = Some []
  matched_each (more_patterns p ps) (more v vs) = both_bound (matched p v) (matched_each ps vs)
  matched_each ps vs = None
