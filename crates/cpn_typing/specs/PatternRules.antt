-- The rules of the patterns of a `case`. A pattern is checked against the type of what it has to match, from the outside
-- inwards. It gives the typed pattern and the locals that it binds, from left to right, or its first refusal.
-- Source: own choice, after CPN ML.
use Rattle.std.specs.Prelude.{ℕ, ◌+◌, Bool, true, false, [], ◌∷◌, ◌++◌, length, Some, None}
use Rattle.cpn_definitions.specs.Value as value
use Rattle.cpn_definitions.specs.Inscription.{PlainPattern, any_pattern, variable_pattern, literal_pattern, tuple_pattern, list_pattern, cons_pattern, bare_pattern, applied_pattern, PlainPatterns, no_patterns, more_patterns}
use Rattle.cpn_trees.specs.Trees.{PlainPat, pat, PlainPatForm, any, pat_name, pat_number, pat_text, pat_truth, pat_call, pat_unit, pat_tuple, pat_list, pat_cons, PlainPats, no_pat, more_pats}
use Rattle.cpn_typing.specs.Types.{PlainTy, unit_type, bool_type, int_type, text_type, enumeration, union, tuples, lists, PlainTys, no_types, more_types, same_type}
use Rattle.cpn_typing.specs.Names.{Name, a_constant, a_constructor, Declared, Scope, local_of, Found, declared, found, is_local, Refusal, unknown, duplicate, mismatch, Checked, ok, refused, ◌>>=◌, accepted_if}

-- What is around a pattern: what is declared, and its locals.
pub record Around : Type 0 where
  pub declared : Declared
  pub scope : Scope

-- A typed pattern, or several, with the locals bound so far.
pub record BoundPattern : Type 0 where
  pub pattern : PlainPattern
  pub locals : Scope

pub record BoundPatterns : Type 0 where
  pub patterns : PlainPatterns
  pub locals : Scope

-- a pattern that binds nothing, if it is of the type of what it has to match
abbrev pub holding : Bool → ℕ → PlainPattern → Scope → Checked BoundPattern
holding fits at p bound = accepted_if fits (mismatch at) (record { pattern = p; locals = bound })

-- a new local, which the pattern has not bound yet
abbrev pub binding : Bool → Around → Name → PlainTy → Scope → Checked BoundPattern
binding true around n t bound = refused (duplicate n)
binding false around n t bound =
    ok (record { pattern = variable_pattern (length around.scope + length bound); locals = bound ++ local_of n t ∷ [] })

-- A lone name that means a constant of `with` or a constructor of `union` where it stands is that one; any other binds a
-- local.
abbrev pub name_pattern : Found → Around → ℕ → Name → PlainTy → Scope → Checked BoundPattern
name_pattern (declared (a_constant id k)) around at n t bound =
    holding (same_type (enumeration id) t) at (literal_pattern (value.constant k)) bound
name_pattern (declared (a_constructor id k None)) around at n t bound = holding (same_type (union id) t) at (bare_pattern k) bound
name_pattern (declared (a_constructor id k (Some u))) around at n t bound = refused (unknown n)
name_pattern f around at n t bound = binding (is_local n bound) around n t bound

-- the offset of the first of several
abbrev pub first_at : ℕ → PlainPats → ℕ
first_at at no_pat = at
first_at at (more_pats (pat first form) ps) = first

-- A name in front of a parenthesis: a constructor of the type, by its position and with the type of its argument.
pub data Constructor : Type 0 where
  takes : ℕ → PlainTy → Constructor
  refuses : Refusal → Constructor

abbrev pub constructor_of : Bool → ℕ → ℕ → PlainTy → Constructor
constructor_of true at k u = takes k u
constructor_of false at k u = refuses (mismatch at)

abbrev pub constructor_named : Found → Name → ℕ → PlainTy → Constructor
constructor_named (declared (a_constructor id k (Some u))) n at t = constructor_of (same_type (union id) t) at k u
constructor_named f n at t = refuses (unknown n)

abbrev pub applied_rule : Constructor → (PlainTy → Checked BoundPattern) → Checked BoundPattern
applied_rule (refuses r) inside = refused r
applied_rule (takes k u) inside = inside u >>= λ b. ok (record { pattern = applied_pattern k b.pattern; locals = b.locals })

-- a tuple, by its parts
abbrev pub tuple_rule : PlainTy → ℕ → (PlainTys → Checked BoundPatterns) → Checked BoundPattern
tuple_rule (tuples ts) at parts = parts ts >>= λ b. ok (record { pattern = tuple_pattern b.patterns; locals = b.locals })
tuple_rule t at parts = refused (mismatch at)

-- the argument of a constructor: one part is the argument, several are the parts of a tuple
abbrev pub argument_rule : PlainPats → ℕ → (PlainTy → Checked BoundPattern) → (PlainTys → Checked BoundPatterns) → PlainTy → Checked BoundPattern
argument_rule (more_pats p no_pat) at one parts u = one u
argument_rule ps at one parts u = tuple_rule u at parts

-- a list, by its items, or by its head and its tail
abbrev pub list_rule : PlainTy → ℕ → (PlainTy → Checked BoundPatterns) → Checked BoundPattern
list_rule (lists t) at items = items t >>= λ b. ok (record { pattern = list_pattern b.patterns; locals = b.locals })
list_rule t at items = refused (mismatch at)

abbrev pub cons_rule : PlainTy → ℕ → (PlainTy → Checked BoundPattern) → (Scope → Checked BoundPattern) → Checked BoundPattern
cons_rule (lists t) at front behind =
    front t >>= λ p. behind p.locals >>= λ q. ok (record { pattern = cons_pattern p.pattern q.pattern; locals = q.locals })
cons_rule t at front behind = refused (mismatch at)

abbrev mutual
  -- a pattern, behind the locals that were bound before it
  pub bound_by : Around → PlainPat → PlainTy → Scope → Checked BoundPattern
  bound_by around (pat at form) t bound = bound_by_form around form at t bound

  pub bound_by_form : Around → PlainPatForm → ℕ → PlainTy → Scope → Checked BoundPattern
  bound_by_form around any at t bound = ok (record { pattern = any_pattern; locals = bound })
  bound_by_form around (pat_name n) at t bound = name_pattern (found n around.scope around.declared) around at n t bound
  bound_by_form around (pat_number z) at t bound = holding (same_type int_type t) at (literal_pattern (value.int z)) bound
  bound_by_form around (pat_text bytes) at t bound = holding (same_type text_type t) at (literal_pattern (value.text bytes)) bound
  bound_by_form around (pat_truth b) at t bound = holding (same_type bool_type t) at (literal_pattern (value.boolean b)) bound
  bound_by_form around pat_unit at t bound = holding (same_type unit_type t) at (literal_pattern value.unit) bound
  bound_by_form around (pat_call n ps) at t bound =
      applied_rule (constructor_named (found n around.scope around.declared) n at t)
      (argument_rule ps (first_at at ps) (λ u. bound_by_first around ps at u bound) (λ ts. bound_by_parts around ps (first_at at ps) ts bound))
  bound_by_form around (pat_tuple ps) at t bound = tuple_rule t at (λ ts. bound_by_parts around ps at ts bound)
  bound_by_form around (pat_list ps) at t bound = list_rule t at (λ u. bound_by_items around ps u bound)
  bound_by_form around (pat_cons p q) at t bound =
      cons_rule t at (λ u. bound_by around p u bound) (λ now. bound_by around q t now)

  -- the first of several
  pub bound_by_first : Around → PlainPats → ℕ → PlainTy → Scope → Checked BoundPattern
  bound_by_first around no_pat at t bound = refused (mismatch at)
  bound_by_first around (more_pats p ps) at t bound = bound_by around p t bound

  -- the parts, each against its own type; where there are too many or too few, the whole is refused
  pub bound_by_parts : Around → PlainPats → ℕ → PlainTys → Scope → Checked BoundPatterns
  bound_by_parts around no_pat at no_types bound = ok (record { patterns = no_patterns; locals = bound })
  bound_by_parts around (more_pats p ps) at (more_types t ts) bound =
      bound_by around p t bound >>= λ first. bound_by_parts around ps at ts first.locals >>= λ rest. ok (record { patterns = more_patterns first.pattern rest.patterns; locals = rest.locals })
  bound_by_parts around ps at ts bound = refused (mismatch at)

  -- the items of a list, all against one type
  pub bound_by_items : Around → PlainPats → PlainTy → Scope → Checked BoundPatterns
  bound_by_items around no_pat t bound = ok (record { patterns = no_patterns; locals = bound })
  bound_by_items around (more_pats p ps) t bound =
      bound_by around p t bound >>= λ first. bound_by_items around ps t first.locals >>= λ rest. ok (record { patterns = more_patterns first.pattern rest.patterns; locals = rest.locals })

-- Typed, of a pattern in a scope, against the type of what it has to match.
abbrev pub typed_pattern : Declared → PlainPat → Scope → PlainTy → Checked BoundPattern
typed_pattern ds p sc t = bound_by (record { declared = ds; scope = sc }) p t []
