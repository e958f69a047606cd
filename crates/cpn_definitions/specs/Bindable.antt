-- Which variables of a transition can be found from tokens, from its guard, or by trying all values: those that are
-- bindable. Source: our own profile of CPN ML.
use Rattle.std.specs.Prelude.{◌≡◌, ◌⊎◌, ◌↔◌, ℕ, suc, pos, ◌≤◌, true, List, [], ◌∷◌, ◌++◌, length, Option, Some, None, Contains}
use Rattle.std.specs.List.{AllByRecursion}
use Rattle.std.specs.Option.{option_map, option_and_then}
use Rattle.cpn_definitions.specs.Value.{PlainValue, int}
use Rattle.cpn_definitions.specs.Order.{value_cmp}
use Rattle.cpn_definitions.specs.Colour.{PlainColour, admits}
use Rattle.cpn_definitions.specs.Lists.{Rises}
use Rattle.cpn_definitions.specs.Inscription.{operation, equality, cons, tupling, listing, constructing, PlainPattern, any_pattern, variable_pattern, literal_pattern, tuple_pattern, list_pattern, cons_pattern, bare_pattern, applied_pattern, PlainPatterns, no_patterns, more_patterns, PlainExpr, literal, variable, local, the_time, apply, conjunction, disjunction, choose, select, bind, accumulate, PlainExprs, no_exprs, more_exprs, PlainArms, no_arms, more_arms, ArcInscription, one, times, sum_of, ArcInscriptions, no_inscriptions, more_inscriptions, Functions}
use Rattle.cpn_definitions.specs.Net.{BindingTerm, PlainArc, PlainTransition, PlainNet, variable_at}

-- ---- binding terms

-- the pattern of a constructor without or with its argument
abbrev pub constructor_pattern : ℕ → PlainPatterns → Option PlainPattern
constructor_pattern k no_patterns = Some (bare_pattern k)
constructor_pattern k (more_patterns p no_patterns) = Some (applied_pattern k p)
constructor_pattern k (more_patterns p (more_patterns q ps)) = None

-- the pattern of a head and a tail
abbrev pub list_of_two : PlainPatterns → Option PlainPattern
list_of_two no_patterns = None
list_of_two (more_patterns p no_patterns) = None
list_of_two (more_patterns p (more_patterns q no_patterns)) = Some (cons_pattern p q)
list_of_two (more_patterns p (more_patterns q (more_patterns r ps))) = None

abbrev mutual
  -- an inscription read as a pattern, where it is made of variables, literals, constants, constructors, tuples, lists and
  -- `::` alone
  pub pattern_of : PlainExpr → Option PlainPattern
  pattern_of (literal v) = Some (literal_pattern v)
  pattern_of (variable x) = Some (variable_pattern x)
  pattern_of (apply tupling es) = option_map tuple_pattern (patterns_of es)
  pattern_of (apply listing es) = option_map list_pattern (patterns_of es)
  pattern_of (apply (constructing k) es) = option_and_then (constructor_pattern k) (patterns_of es)
  pattern_of (apply (operation cons) es) = option_and_then list_of_two (patterns_of es)
  pattern_of e = None

  pub patterns_of : PlainExprs → Option PlainPatterns
  patterns_of no_exprs = Some no_patterns
  patterns_of (more_exprs e es) = option_and_then (λ p. option_map (more_patterns p) (patterns_of es)) (pattern_of e)

-- so many tokens that a pattern fits, if the inscription is one
abbrev pub term_with : ℕ → Option PlainPattern → List BindingTerm
term_with count None = []
term_with count (Some p) = record { count = count; pattern = p } ∷ []

-- the binding term of a part of the root sum: a pattern, alone or behind a positive literal and a backtick
abbrev pub binding_term : ArcInscription → List BindingTerm
binding_term (one e) = term_with 1 (pattern_of e)
binding_term (times (literal (int (pos (suc k)))) e) = term_with (suc k) (pattern_of e)
binding_term m = []

abbrev pub binding_terms_of_each : ArcInscriptions → List BindingTerm
binding_terms_of_each no_inscriptions = []
binding_terms_of_each (more_inscriptions m ms) = binding_term m ++ binding_terms_of_each ms

-- Binding terms: those among the parts of the root sum, or the root itself.
abbrev pub binding_terms : ArcInscription → List BindingTerm
binding_terms (sum_of ms) = binding_terms_of_each ms
binding_terms m = binding_term m

-- the variables of a pattern, and of several
abbrev mutual
  pub pattern_variables : PlainPattern → List ℕ
  pattern_variables any_pattern = []
  pattern_variables (variable_pattern x) = x ∷ []
  pattern_variables (literal_pattern v) = []
  pattern_variables (tuple_pattern ps) = patterns_variables ps
  pattern_variables (list_pattern ps) = patterns_variables ps
  pattern_variables (cons_pattern p q) = pattern_variables p ++ pattern_variables q
  pattern_variables (bare_pattern k) = []
  pattern_variables (applied_pattern k p) = pattern_variables p

  pub patterns_variables : PlainPatterns → List ℕ
  patterns_variables no_patterns = []
  patterns_variables (more_patterns p ps) = pattern_variables p ++ patterns_variables ps

-- the variable stands in a binding term of an input arc
pub record IsInTerm (t : PlainTransition) (x : ℕ) : Type 0 where
  pub arc : PlainArc
  pub is_input : Contains t.inputs arc
  pub term : BindingTerm
  pub is_term : Contains (binding_terms arc.expr) term
  pub is_in : Contains (pattern_variables term.pattern) x

-- ---- variables and guards

abbrev mutual
  -- the variables of an inscription, as they stand in it
  pub variables_of : PlainExpr → List ℕ
  variables_of (literal v) = []
  variables_of (variable x) = x ∷ []
  variables_of (local k) = []
  variables_of the_time = []
  variables_of (apply head es) = variables_of_each es
  variables_of (conjunction e f) = variables_of e ++ variables_of f
  variables_of (disjunction e f) = variables_of e ++ variables_of f
  variables_of (choose c e f) = variables_of c ++ variables_of e ++ variables_of f
  variables_of (select e arms) = variables_of e ++ variables_of_arms arms
  variables_of (bind e body) = variables_of e ++ variables_of body
  variables_of (accumulate xs start body) = variables_of xs ++ variables_of start ++ variables_of body

  pub variables_of_each : PlainExprs → List ℕ
  variables_of_each no_exprs = []
  variables_of_each (more_exprs e es) = variables_of e ++ variables_of_each es

  pub variables_of_arms : PlainArms → List ℕ
  variables_of_arms no_arms = []
  variables_of_arms (more_arms p e arms) = variables_of e ++ variables_of_arms arms

-- Closed: no body of a function has a variable, so that a call means the same under each binding.
abbrev pub AreClosed : Functions → Type 0
AreClosed funs = AllByRecursion (λ f. variables_of f.body ≡ []) funs

-- the conjuncts of an inscription: split where `andalso` stands at its root
abbrev pub conjuncts_of : PlainExpr → List PlainExpr
conjuncts_of (conjunction e f) = conjuncts_of e ++ conjuncts_of f
conjuncts_of e = e ∷ []

-- e = f
abbrev pub equation : PlainExpr → PlainExpr → PlainExpr
equation e f = apply (operation equality) (more_exprs e (more_exprs f no_exprs))

-- the guard makes a variable equal to an inscription, by a conjunct x = e or e = x
pub record IsEquated (t : PlainTransition) (x : ℕ) (e : PlainExpr) : Type 0 where
  pub conjunct : PlainExpr
  pub is_conjunct : Contains t.guard conjunct
  pub part : PlainExpr
  pub is_part : Contains (conjuncts_of conjunct) part
  pub is_equation : (part ≡ equation (variable x) e) ⊎ (part ≡ equation e (variable x))

-- ---- small colour sets

-- these are all the values of a colour set, in order
pub record AreAll (colour : PlainColour) (vs : List PlainValue) : Type 0 where
  pub in_order : Rises value_cmp vs
  pub all : (v : PlainValue) → (admits colour v ≡ true) ↔ Contains vs v

-- Small: the colour set has at most 256 values.
abbrev pub IsSmall : PlainColour → Type 0
IsSmall colour = (vs : List PlainValue) × AreAll colour vs × (length vs ≤ 256)

-- ---- bindable

mutual
  -- Bindable: the least set with the variables of the binding terms, those whose colour set is small, and each variable that
  -- the guard makes equal to an inscription whose variables are bindable.
  pub data IsBindable (n : PlainNet) (t : PlainTransition) : ℕ → Type 0 where
    by_term : (x : ℕ) → IsInTerm t x → IsBindable n t x
    by_size : (x : ℕ) → IsSmall (variable_at n x).colour → IsBindable n t x
    by_guard : (x : ℕ) (e : PlainExpr) → IsEquated t x e → AreBindable n t (variables_of e) → IsBindable n t x

  -- each of them is
  pub data AreBindable (n : PlainNet) (t : PlainTransition) : List ℕ → Type 0 where
    no_more : AreBindable n t []
    and_more : (x : ℕ) (xs : List ℕ) → IsBindable n t x → AreBindable n t xs → AreBindable n t (x ∷ xs)
