-- Which value a pattern of a binding term is under a partial binding, and the extension that makes a pattern a value.
-- Source: the binding of variables to token colours, Jensen and Kristensen, chapter 4; the patterns are our own profile's.
use Rattle.std.specs.Prelude.{◌≡◌, Some}
use Rattle.cpn_definitions.specs.Value.{PlainValue, PlainValues, tuple, bare, applied, list, none, more}
use Rattle.cpn_definitions.specs.Inscription.{PlainPattern, any_pattern, variable_pattern, literal_pattern, tuple_pattern, list_pattern, cons_pattern, bare_pattern, applied_pattern, PlainPatterns, no_patterns, more_patterns}
use Rattle.cpn_stages.specs.Partial.{PlainPartial, value_in, Extends}

abbrev mutual
  -- The pattern is the value under the partial binding: each variable in it has a value and stands for it, and `_` stands for
  -- any value.
  pub IsInstance : PlainPartial → PlainPattern → PlainValue → Type 0
  IsInstance b any_pattern v = Unit {0}
  IsInstance b (variable_pattern x) v = value_in x b ≡ Some v
  IsInstance b (literal_pattern w) v = w ≡ v
  IsInstance b (tuple_pattern ps) (tuple vs) = AreInstances b ps vs
  IsInstance b (list_pattern ps) (list vs) = AreInstances b ps vs
  IsInstance b (cons_pattern p q) (list (more v vs)) = IsInstance b p v × IsInstance b q (list vs)
  IsInstance b (bare_pattern k) (bare j) = k ≡ j
  IsInstance b (applied_pattern k p) (applied j v) = (k ≡ j) × IsInstance b p v
  IsInstance b p v = ⊥

  -- the same of patterns and values, one for one
  pub AreInstances : PlainPartial → PlainPatterns → PlainValues → Type 0
  AreInstances b no_patterns none = Unit {0}
  AreInstances b (more_patterns p ps) (more v vs) = IsInstance b p v × AreInstances b ps vs
  AreInstances b ps vs = ⊥

-- an extension of the partial binding that makes the pattern the value
pub record Makes (b : PlainPartial) (p : PlainPattern) (v : PlainValue) (c : PlainPartial) : Type 0 where
  pub extends : Extends b c
  pub is_instance : IsInstance c p v

-- Matches: it is the one that binds no more than the pattern asks for, so each other one extends it. There is at most one.
pub record Matches (b : PlainPartial) (p : PlainPattern) (v : PlainValue) (c : PlainPartial) : Type 0 where
  pub makes : Makes b p v c
  pub least : (d : PlainPartial) → Makes b p v d → Extends c d

-- No extension of the partial binding makes the pattern the value.
abbrev pub MatchesNot : PlainPartial → PlainPattern → PlainValue → Type 0
MatchesNot b p v = (c : PlainPartial) → Makes b p v c → ⊥
