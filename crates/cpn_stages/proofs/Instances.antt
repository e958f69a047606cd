-- What a pattern is under a partial binding it is under each extension; and there is at most one match.
use Rattle.std.proofs.Common.{◌≡◌}
use Rattle.cpn_definitions.specs.Value.{PlainValue, PlainValues, tuple, bare, applied, list, none, more}
use Rattle.cpn_definitions.specs.Inscription.{PlainPattern, any_pattern, variable_pattern, literal_pattern, tuple_pattern, list_pattern, cons_pattern, bare_pattern, applied_pattern, PlainPatterns, no_patterns, more_patterns}
use Rattle.cpn_stages.specs.Partial.{PlainPartial, Extends}
use Rattle.cpn_stages.specs.Instances.{IsInstance, AreInstances, Matches}
use Rattle.cpn_stages.proofs.Partials.{value_stays, same_extension}

mutual
  pub instance_stays : (b c : PlainPartial) (p : PlainPattern) (v : PlainValue) → Extends b c → IsInstance b p v → IsInstance c p v
  instance_stays b c any_pattern v is h = tt
  instance_stays b c (variable_pattern x) v is h = value_stays x v b c is h
  instance_stays b c (literal_pattern w) v is h = h
  instance_stays b c (tuple_pattern ps) (tuple vs) is h = instances_stay b c ps vs is h
  instance_stays b c (list_pattern ps) (list vs) is h = instances_stay b c ps vs is h
  instance_stays b c (cons_pattern p q) (list (more v vs)) is h = (instance_stays b c p v is h.0, instance_stays b c q (list vs) is h.1)
  instance_stays b c (bare_pattern k) (bare j) is h = h
  instance_stays b c (applied_pattern k p) (applied j v) is h = (h.0, instance_stays b c p v is h.1)
  instance_stays b c p v is h = absurd h

  pub instances_stay : (b c : PlainPartial) (ps : PlainPatterns) (vs : PlainValues) → Extends b c → AreInstances b ps vs → AreInstances c ps vs
  instances_stay b c no_patterns none is h = tt
  instances_stay b c (more_patterns p ps) (more v vs) is h = (instance_stays b c p v is h.0, instances_stay b c ps vs is h.1)
  instances_stay b c ps vs is h = absurd h

-- there is at most one match
pub one_match : (b : PlainPartial) (p : PlainPattern) (v : PlainValue) (c d : PlainPartial) → Matches b p v c → Matches b p v d → c ≡ d
one_match b p v c d first second = same_extension c d (first.least d second.makes) (second.least c first.makes)
