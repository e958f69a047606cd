-- How deep trees are: 1 for a form without parts, else one more than its deepest part. A sum, a list, a tuple and a
-- call are one level over all their parts; an arm of a `case` and a value of a `let` are none of their own.
use Rattle.std.specs.Prelude.{ℕ, ◌+◌, max}
use Rattle.cpn_trees.specs.Trees.{PlainPat, pat, PlainPatForm, any, pat_name, pat_number, pat_text, pat_truth, pat_call, pat_unit, pat_tuple, pat_list, pat_cons, PlainPats, no_pat, more_pats, PlainAst, ast, PlainForm, number, text, truth, empty, time, name, call, unit, tuple, list, let_in, prefixed, infixed, stamped, sum, if_else, case_of, fold, PlainAsts, no_ast, more_asts, PlainArms, no_arm, more_arms, PlainLocals, no_local, more_locals}
use Rattle.cpn_trees.specs.DeclTrees.{PlainDecl, decl, PlainDeclForm, colour_set, variables, value, function}

-- patterns; the deepest of several, or 0
abbrev mutual
  pub pat_depth : PlainPat → ℕ
  pat_depth (pat at form) = 1 + deepest_in_pat form

  pub deepest_in_pat : PlainPatForm → ℕ
  deepest_in_pat any = 0
  deepest_in_pat (pat_name n) = 0
  deepest_in_pat (pat_number z) = 0
  deepest_in_pat (pat_text bytes) = 0
  deepest_in_pat (pat_truth b) = 0
  deepest_in_pat (pat_call n ps) = deepest_pat ps
  deepest_in_pat pat_unit = 0
  deepest_in_pat (pat_tuple ps) = deepest_pat ps
  deepest_in_pat (pat_list ps) = deepest_pat ps
  deepest_in_pat (pat_cons p q) = max (pat_depth p) (pat_depth q)

  pub deepest_pat : PlainPats → ℕ
  deepest_pat no_pat = 0
  deepest_pat (more_pats p ps) = max (pat_depth p) (deepest_pat ps)

-- inscriptions
abbrev mutual
  pub depth : PlainAst → ℕ
  depth (ast at form) = 1 + deepest_in form

  pub deepest_in : PlainForm → ℕ
  deepest_in (number z) = 0
  deepest_in (text bytes) = 0
  deepest_in (truth b) = 0
  deepest_in empty = 0
  deepest_in time = 0
  deepest_in (name n) = 0
  deepest_in (call n parts) = deepest parts
  deepest_in unit = 0
  deepest_in (tuple parts) = deepest parts
  deepest_in (list parts) = deepest parts
  deepest_in (let_in locals a) = max (deepest_local locals) (depth a)
  deepest_in (prefixed p a) = depth a
  deepest_in (infixed o s a b) = max (depth a) (depth b)
  deepest_in (stamped a s z) = depth a
  deepest_in (sum parts) = deepest parts
  deepest_in (if_else c a b) = max (max (depth c) (depth a)) (depth b)
  deepest_in (case_of a arms) = max (depth a) (deepest_arm arms)
  deepest_in (fold item total a s b) = max (max (depth a) (depth s)) (depth b)

  pub deepest : PlainAsts → ℕ
  deepest no_ast = 0
  deepest (more_asts a rest) = max (depth a) (deepest rest)

  pub deepest_arm : PlainArms → ℕ
  deepest_arm no_arm = 0
  deepest_arm (more_arms p a rest) = max (max (pat_depth p) (depth a)) (deepest_arm rest)

  pub deepest_local : PlainLocals → ℕ
  deepest_local no_local = 0
  deepest_local (more_locals n a rest) = max (depth a) (deepest_local rest)

-- declarations: `val` and `fun` are one level over their inscription
abbrev pub deepest_declared : PlainDeclForm → ℕ
deepest_declared (colour_set n b timed) = 0
deepest_declared (variables ns c) = 0
deepest_declared (value n a) = depth a
deepest_declared (function n ps r a) = depth a

abbrev pub decl_depth : PlainDecl → ℕ
decl_depth (decl at form) = 1 + deepest_declared form
