-- That each form has as many parts as the grammar gives it: a tuple and a sum two, a call an argument, a `let` a value
-- and a `case` an arm, at least; and in declarations a name, a parameter, an alternative, and two components.
use Rattle.std.specs.Prelude.{Bool, true, false, ◌&&◌, List, [], ◌∷◌}
use Rattle.cpn_trees.specs.Trees.{PlainPat, pat, PlainPatForm, any, pat_name, pat_number, pat_text, pat_truth, pat_call, pat_unit, pat_tuple, pat_list, pat_cons, PlainPats, no_pat, more_pats, PlainAst, ast, PlainForm, number, text, truth, empty, time, name, call, unit, tuple, list, let_in, prefixed, infixed, stamped, sum, if_else, case_of, fold, PlainAsts, no_ast, more_asts, PlainArms, no_arm, more_arms, PlainLocals, no_local, more_locals}
use Rattle.cpn_trees.specs.DeclTrees.{PlainBody, enumeration, product, union, PlainDecl, decl, PlainDeclForm, colour_set, variables, value, function}

-- ---- how many there are, at least

abbrev pub is_some : {A : Type 0} → List A → Bool
is_some [] = false
is_some (a ∷ rest) = true

abbrev pub are_two : {A : Type 0} → List A → Bool
are_two [] = false
are_two (a ∷ rest) = is_some rest

abbrev pub has_pat : PlainPats → Bool
has_pat no_pat = false
has_pat (more_pats p rest) = true

abbrev pub has_two_pats : PlainPats → Bool
has_two_pats no_pat = false
has_two_pats (more_pats p rest) = has_pat rest

abbrev pub has_part : PlainAsts → Bool
has_part no_ast = false
has_part (more_asts a rest) = true

abbrev pub has_two_parts : PlainAsts → Bool
has_two_parts no_ast = false
has_two_parts (more_asts a rest) = has_part rest

abbrev pub has_arm : PlainArms → Bool
has_arm no_arm = false
has_arm (more_arms p a rest) = true

abbrev pub has_local : PlainLocals → Bool
has_local no_local = false
has_local (more_locals n a rest) = true

-- ---- patterns

abbrev mutual
  pub is_pat_shaped : PlainPat → Bool
  is_pat_shaped (pat at form) = is_pat_form_shaped form

  pub is_pat_form_shaped : PlainPatForm → Bool
  is_pat_form_shaped any = true
  is_pat_form_shaped (pat_name n) = true
  is_pat_form_shaped (pat_number z) = true
  is_pat_form_shaped (pat_text bytes) = true
  is_pat_form_shaped (pat_truth b) = true
  is_pat_form_shaped (pat_call n ps) = has_pat ps && are_pats_shaped ps
  is_pat_form_shaped pat_unit = true
  is_pat_form_shaped (pat_tuple ps) = has_two_pats ps && are_pats_shaped ps
  is_pat_form_shaped (pat_list ps) = are_pats_shaped ps
  is_pat_form_shaped (pat_cons p q) = is_pat_shaped p && is_pat_shaped q

  pub are_pats_shaped : PlainPats → Bool
  are_pats_shaped no_pat = true
  are_pats_shaped (more_pats p ps) = is_pat_shaped p && are_pats_shaped ps

-- ---- inscriptions

abbrev mutual
  pub is_shaped : PlainAst → Bool
  is_shaped (ast at form) = is_form_shaped form

  pub is_form_shaped : PlainForm → Bool
  is_form_shaped (number z) = true
  is_form_shaped (text bytes) = true
  is_form_shaped (truth b) = true
  is_form_shaped empty = true
  is_form_shaped time = true
  is_form_shaped (name n) = true
  is_form_shaped (call n parts) = has_part parts && are_shaped parts
  is_form_shaped unit = true
  is_form_shaped (tuple parts) = has_two_parts parts && are_shaped parts
  is_form_shaped (list parts) = are_shaped parts
  is_form_shaped (let_in locals a) = has_local locals && are_locals_shaped locals && is_shaped a
  is_form_shaped (prefixed p a) = is_shaped a
  is_form_shaped (infixed o s a b) = is_shaped a && is_shaped b
  is_form_shaped (stamped a s z) = is_shaped a
  is_form_shaped (sum parts) = has_two_parts parts && are_shaped parts
  is_form_shaped (if_else c a b) = is_shaped c && is_shaped a && is_shaped b
  is_form_shaped (case_of a arms) = is_shaped a && has_arm arms && are_arms_shaped arms
  is_form_shaped (fold item total a s b) = is_shaped a && is_shaped s && is_shaped b

  pub are_shaped : PlainAsts → Bool
  are_shaped no_ast = true
  are_shaped (more_asts a rest) = is_shaped a && are_shaped rest

  pub are_arms_shaped : PlainArms → Bool
  are_arms_shaped no_arm = true
  are_arms_shaped (more_arms p a rest) = is_pat_shaped p && is_shaped a && are_arms_shaped rest

  pub are_locals_shaped : PlainLocals → Bool
  are_locals_shaped no_local = true
  are_locals_shaped (more_locals n a rest) = is_shaped a && are_locals_shaped rest

-- conjuncts, at least one
abbrev pub is_guard_shaped : PlainAsts → Bool
is_guard_shaped parts = has_part parts && are_shaped parts

-- ---- declarations

abbrev pub is_body_shaped : PlainBody → Bool
is_body_shaped (enumeration names) = is_some names
is_body_shaped (product names) = are_two names
is_body_shaped (union alternatives) = is_some alternatives
is_body_shaped _ = true

abbrev pub is_declared_shaped : PlainDeclForm → Bool
is_declared_shaped (colour_set n body timed) = is_body_shaped body
is_declared_shaped (variables names colour) = is_some names
is_declared_shaped (value n a) = is_shaped a
is_declared_shaped (function n parameters r a) = is_some parameters && is_shaped a

abbrev pub is_decl_shaped : PlainDecl → Bool
is_decl_shaped (decl at form) = is_declared_shaped form
