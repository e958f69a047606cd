-- What a partial binding becomes where a pattern is made a value, part by part from left to right, or that it cannot be.
use Rattle.std.specs.Prelude.{ℕ, ◌==◌, if◌then◌else◌, [], ◌∷◌, Option, Some, None}
use Rattle.std.specs.Option.{option_map, option_and_then}
use Rattle.cpn_definitions.specs.Value.{PlainValue, PlainValues, tuple, bare, applied, list, none, more}
use Rattle.cpn_definitions.specs.Order.{same_value}
use Rattle.cpn_definitions.specs.Inscription.{PlainPattern, any_pattern, variable_pattern, literal_pattern, tuple_pattern, list_pattern, cons_pattern, bare_pattern, applied_pattern, PlainPatterns, no_patterns, more_patterns}
use Rattle.cpn_stages.specs.Partial.{PlainPartial}

-- the value, if nothing is there or the same
abbrev pub agreed : Option PlainValue → PlainValue → Option (Option PlainValue)
agreed None v = Some (Some v)
agreed (Some w) v = if same_value w v then Some (Some w) else None

-- the partial binding with the value for a variable, if the variable is one of its own and has no other
abbrev pub held : ℕ → PlainValue → PlainPartial → Option PlainPartial
held x v [] = None
held x v (pair ∷ b) = if x == pair.0 then option_map (λ value. (pair.0, value) ∷ b) (agreed pair.1 v) else option_map (λ rest. pair ∷ rest) (held x v b)

abbrev mutual
  -- the partial binding in which the pattern is the value
  pub fitted : PlainPattern → PlainValue → PlainPartial → Option PlainPartial
  fitted any_pattern v b = Some b
  fitted (variable_pattern x) v b = held x v b
  fitted (literal_pattern w) v b = if same_value w v then Some b else None
  fitted (tuple_pattern ps) (tuple vs) b = fitted_each ps vs b
  fitted (list_pattern ps) (list vs) b = fitted_each ps vs b
  fitted (cons_pattern p q) (list (more v vs)) b = option_and_then (fitted q (list vs)) (fitted p v b)
  fitted (bare_pattern k) (bare j) b = if k == j then Some b else None
  fitted (applied_pattern k p) (applied j v) b = if k == j then fitted p v b else None
  fitted p v b = None

  -- the patterns and the values, one for one
  pub fitted_each : PlainPatterns → PlainValues → PlainPartial → Option PlainPartial
  fitted_each no_patterns none b = Some b
  fitted_each (more_patterns p ps) (more v vs) b = option_and_then (fitted_each ps vs) (fitted p v b)
  fitted_each ps vs b = None
