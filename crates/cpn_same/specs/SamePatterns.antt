-- When two patterns are the same.
use Rattle.std.proofs.Common.{◌≡◌, ◌==◌, Bool, true, false, ◌&&◌, refl, ap, ap₂}
use Rattle.std.specs.Cmp.{unsigned_Decides}
use Rattle.std.proofs.lemmas.Bool.{and_parts, and_from}
use Rattle.cpn_definitions.specs.Order.{same_value}
use Rattle.cpn_definitions.specs.ValueOrder.{same_value_true, same_value_refl}
use Rattle.cpn_definitions.specs.Inscription.{PlainPattern, PlainPatterns, any_pattern, variable_pattern, literal_pattern, tuple_pattern, list_pattern, cons_pattern, bare_pattern, applied_pattern, no_patterns, more_patterns}
use Rattle.cpn_same.specs.Equality.{DecidesEquality, decides_from}

abbrev mutual
  -- whether two patterns are the same: of one form, with the same numbers, values and parts
  pub same_pattern : PlainPattern → PlainPattern → Bool
  same_pattern any_pattern any_pattern = true
  same_pattern (variable_pattern x) (variable_pattern y) = x == y
  same_pattern (literal_pattern v) (literal_pattern w) = same_value v w
  same_pattern (tuple_pattern ps) (tuple_pattern qs) = same_patterns ps qs
  same_pattern (list_pattern ps) (list_pattern qs) = same_patterns ps qs
  same_pattern (cons_pattern p ps) (cons_pattern q qs) = same_pattern p q && same_pattern ps qs
  same_pattern (bare_pattern k) (bare_pattern m) = k == m
  same_pattern (applied_pattern k p) (applied_pattern m q) = (k == m) && same_pattern p q
  same_pattern p q = false

  -- whether the patterns of two rows are the same, one for one
  pub same_patterns : PlainPatterns → PlainPatterns → Bool
  same_patterns no_patterns no_patterns = true
  same_patterns (more_patterns p ps) (more_patterns q qs) = same_pattern p q && same_patterns ps qs
  same_patterns ps qs = false

-- ---- laws

mutual
  pattern_itself : (p : PlainPattern) → same_pattern p p ≡ true
  pattern_itself any_pattern = refl
  pattern_itself (variable_pattern x) = (unsigned_Decides x x).1 refl
  pattern_itself (literal_pattern v) = same_value_refl v
  pattern_itself (tuple_pattern ps) = patterns_itself ps
  pattern_itself (list_pattern ps) = patterns_itself ps
  pattern_itself (cons_pattern p ps) = and_from (same_pattern p p) (same_pattern ps ps) (pattern_itself p) (pattern_itself ps)
  pattern_itself (bare_pattern k) = (unsigned_Decides k k).1 refl
  pattern_itself (applied_pattern k p) = and_from (k == k) (same_pattern p p) ((unsigned_Decides k k).1 refl) (pattern_itself p)

  patterns_itself : (ps : PlainPatterns) → same_patterns ps ps ≡ true
  patterns_itself no_patterns = refl
  patterns_itself (more_patterns p ps) = and_from (same_pattern p p) (same_patterns ps ps) (pattern_itself p) (patterns_itself ps)

mutual
  pattern_one : (p q : PlainPattern) → same_pattern p q ≡ true → p ≡ q
  pattern_one any_pattern any_pattern h = refl
  pattern_one (variable_pattern x) (variable_pattern y) h = ap variable_pattern ((unsigned_Decides x y).0 h)
  pattern_one (literal_pattern v) (literal_pattern w) h = ap literal_pattern (same_value_true v w h)
  pattern_one (tuple_pattern ps) (tuple_pattern qs) h = ap tuple_pattern (patterns_one ps qs h)
  pattern_one (list_pattern ps) (list_pattern qs) h = ap list_pattern (patterns_one ps qs h)
  pattern_one (cons_pattern p ps) (cons_pattern q qs) h = let both = and_parts (same_pattern p q) (same_pattern ps qs) h in ap₂ cons_pattern (pattern_one p q both.0) (pattern_one ps qs both.1)
  pattern_one (bare_pattern k) (bare_pattern m) h = ap bare_pattern ((unsigned_Decides k m).0 h)
  pattern_one (applied_pattern k p) (applied_pattern m q) h = let both = and_parts (k == m) (same_pattern p q) h in ap₂ applied_pattern ((unsigned_Decides k m).0 both.0) (pattern_one p q both.1)
  pattern_one p q h = cc

  patterns_one : (ps qs : PlainPatterns) → same_patterns ps qs ≡ true → ps ≡ qs
  patterns_one no_patterns no_patterns h = refl
  patterns_one (more_patterns p ps) (more_patterns q qs) h = let both = and_parts (same_pattern p q) (same_patterns ps qs) h in ap₂ more_patterns (pattern_one p q both.0) (patterns_one ps qs both.1)
  patterns_one ps qs h = cc

pub patterns_decide : DecidesEquality same_pattern
patterns_decide = decides_from same_pattern pattern_itself pattern_one
