-- What a pattern binds: one value for each of its names.
use Rattle.std.proofs.Common.{◌≡◌, ◌+◌, Bool, true, false, cond, ◌==◌, List, [], ◌∷◌, ◌++◌, length, Option, Some, None, refl, sym, ap, ◌∙◌, length-append}
use Rattle.std.proofs.Math.Path.{ap₂}
use Rattle.cpn_definitions.specs.Value.{PlainValue, PlainValues, tuple, bare, applied, list, none, more}
use Rattle.cpn_definitions.specs.Order.{same_value}
use Rattle.cpn_definitions.specs.Inscription.{PlainPattern, any_pattern, variable_pattern, literal_pattern, tuple_pattern, list_pattern, cons_pattern, bare_pattern, applied_pattern, PlainPatterns, no_patterns, more_patterns}
use Rattle.cpn_definitions.specs.Matching.{matched, matched_each, both_bound}
use Rattle.cpn_definitions.specs.Bindable.{pattern_variables, patterns_variables}

same_some : (vs ws : List PlainValue) → Some vs ≡ Some ws → vs ≡ ws
same_some vs ws is = cc

-- what two bind is what the first binds, and then what the second does
both_parts : (o p : Option (List PlainValue)) (ws : List PlainValue) → both_bound o p ≡ Some ws → (us : List PlainValue) × (vs : List PlainValue) × (o ≡ Some us) × (p ≡ Some vs) × (us ++ vs ≡ ws)
both_parts None p ws is = cc
both_parts (Some us) None ws is = cc
both_parts (Some us) (Some vs) ws is = (us, vs, refl, refl, same_some (us ++ vs) ws is)

-- a test binds nothing
nothing_bound : (b : Bool) (ws : List PlainValue) → cond b (Some []) None ≡ Some ws → length ws ≡ 0
nothing_bound true ws is = ap length (sym (same_some [] ws is))
nothing_bound false ws is = cc

bound_where : (b : Bool) (o : Option (List PlainValue)) (ws : List PlainValue) → cond b o None ≡ Some ws → o ≡ Some ws
bound_where true o ws is = is
bound_where false o ws is = cc

mutual
  pub one_for_each : (p : PlainPattern) (v : PlainValue) (ws : List PlainValue) → matched p v ≡ Some ws → length ws ≡ length (pattern_variables p)
  one_for_each any_pattern v ws is = ap length (sym (same_some [] ws is))
  one_for_each (variable_pattern k) v ws is = ap length (sym (same_some (v ∷ []) ws is))
  one_for_each (literal_pattern w) v ws is = nothing_bound (same_value w v) ws is
  one_for_each (tuple_pattern ps) (tuple vs) ws is = one_for_all ps vs ws is
  one_for_each (list_pattern ps) (list vs) ws is = one_for_all ps vs ws is
  one_for_each (cons_pattern p q) (list (more v vs)) ws is =
      let parts = both_parts (matched p v) (matched q (list vs)) ws is in
      sym (ap length parts.4) ∙ length-append parts.0 parts.1 ∙ ap₂ (λ m n. m + n) (one_for_each p v parts.0 parts.2) (one_for_each q (list vs) parts.1 parts.3) ∙ sym (length-append (pattern_variables p) (pattern_variables q))
  one_for_each (bare_pattern k) (bare j) ws is = nothing_bound (k == j) ws is
  one_for_each (applied_pattern k p) (applied j v) ws is = one_for_each p v ws (bound_where (k == j) (matched p v) ws is)
  one_for_each p v ws is = cc

  one_for_all : (ps : PlainPatterns) (vs : PlainValues) (ws : List PlainValue) → matched_each ps vs ≡ Some ws → length ws ≡ length (patterns_variables ps)
  one_for_all no_patterns none ws is = ap length (sym (same_some [] ws is))
  one_for_all (more_patterns p ps) (more v vs) ws is =
      let parts = both_parts (matched p v) (matched_each ps vs) ws is in
      sym (ap length parts.4) ∙ length-append parts.0 parts.1 ∙ ap₂ (λ m n. m + n) (one_for_each p v parts.0 parts.2) (one_for_all ps vs parts.1 parts.3) ∙ sym (length-append (pattern_variables p) (patterns_variables ps))
  one_for_all ps vs ws is = cc
