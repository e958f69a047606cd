-- One level of an inscription of a value and of one of tokens.
use Rattle.std.proofs.Common.{◌≡◌, ℕ, ℤ, map, Some, None, Vec, Box, Global, rules}
use Rattle.cpn_definitions.specs.Inscription.{cons_pattern, applied_pattern, operation, tupling, listing, constructing, calling, apply, conjunction, disjunction, choose, select, bind, accumulate, no_exprs, more_exprs, arms_from, one, times, sum_of, later, stamped, chosen, selected, bound, inscriptions_from, arc_arms_from}
use Rattle.cpn_core.specs.declared.inscriptions.Op.{Op}
use Rattle.cpn_core.specs.declared.inscriptions.Pat.{Pat}
use Rattle.cpn_core.specs.declared.inscriptions.Pat as pattern
use Rattle.cpn_core.specs.declared.inscriptions.Pat.TheViews as pats
use Rattle.cpn_core.specs.declared.inscriptions.Arm.{Arm}
use Rattle.cpn_core.specs.declared.inscriptions.Expr.{Expr, the_lemmas}
use Rattle.cpn_core.specs.declared.inscriptions.Expr.TheViews as exprs
use Rattle.cpn_core.specs.declared.inscriptions.MArm.{MArm}
use Rattle.cpn_core.specs.declared.inscriptions.MExpr.{MExpr}
use Rattle.cpn_core.specs.declared.inscriptions.MExpr as multiset
use Rattle.cpn_core.specs.declared.inscriptions.MExpr.TheVariants as terms
use Rattle.cpn_core.specs.declared.inscriptions.MExpr.TheViews as tokens
use Rattle.cpn_core.specs.Inscriptions.{op_view, pattern_view, expr_view, exprs_view, arm_view, multiset_view, arc_arm_view}

-- ---- of a value

pub view_op : (o : Op) (es : Vec Expr Global) → expr_view (exprs.Op o es) ≡ apply (operation (op_view o)) (exprs_view es.items)
view_op o es = search (rules, the_lemmas)

pub view_tuple : (es : Vec Expr Global) → expr_view (exprs.Tuple es) ≡ apply tupling (exprs_view es.items)
view_tuple es = search (rules, the_lemmas)

pub view_list : (es : Vec Expr Global) → expr_view (exprs.List es) ≡ apply listing (exprs_view es.items)
view_list es = search (rules, the_lemmas)

pub view_call : (k : ℕ) (es : Vec Expr Global) → expr_view (exprs.Call k es) ≡ apply (calling k) (exprs_view es.items)
view_call k es = search (rules, the_lemmas)

pub view_bare : (k : ℕ) → expr_view (exprs.Con k None) ≡ apply (constructing k) no_exprs
view_bare k = search (rules, the_lemmas)

pub view_applied : (k : ℕ) (e : Box Expr Global) → expr_view (exprs.Con k (Some e)) ≡ apply (constructing k) (more_exprs (expr_view e.value) no_exprs)
view_applied k e = search (rules, the_lemmas)

pub view_and : (e f : Box Expr Global) → expr_view (exprs.And e f) ≡ conjunction (expr_view e.value) (expr_view f.value)
view_and e f = search (rules, the_lemmas)

pub view_or : (e f : Box Expr Global) → expr_view (exprs.Or e f) ≡ disjunction (expr_view e.value) (expr_view f.value)
view_or e f = search (rules, the_lemmas)

pub view_if : (c x y : Box Expr Global) → expr_view (exprs.If c x y) ≡ choose (expr_view c.value) (expr_view x.value) (expr_view y.value)
view_if c x y = search (rules, the_lemmas)

pub view_case : (e : Box Expr Global) (arms : Vec Arm Global) → expr_view (exprs.Case e arms) ≡ select (expr_view e.value) (arms_from (map arm_view arms.items))
view_case e arms = search (rules, the_lemmas)

pub view_let : (e body : Box Expr Global) → expr_view (exprs.Let e body) ≡ bind (expr_view e.value) (expr_view body.value)
view_let e body = search (rules, the_lemmas)

pub view_fold : (xs start body : Box Expr Global) → expr_view (exprs.Fold xs start body) ≡ accumulate (expr_view xs.value) (expr_view start.value) (expr_view body.value)
view_fold xs start body = search (rules, the_lemmas)

pub view_arm : (arm : Arm) → arm_view arm ≡ (pattern_view arm.pat, expr_view arm.result)
view_arm arm = search (rules, the_lemmas)

-- ---- of a pattern

pub view_con_pattern : (k : ℕ) (p : Box Pat Global) → pattern_view (pats.Con k (Some p)) ≡ applied_pattern k (pattern_view p.value)
view_con_pattern k p = search (rules, pattern.the_lemmas)

pub view_cons_pattern : (p q : Box Pat Global) → pattern_view (pats.Cons p q) ≡ cons_pattern (pattern_view p.value) (pattern_view q.value)
view_cons_pattern p q = search (rules, pattern.the_lemmas)

-- ---- of tokens

pub tokens_one : (e : Expr) → multiset_view (terms.One e) ≡ one (expr_view e)
tokens_one e = search (rules, multiset.the_lemmas)

pub tokens_times : (k e : Expr) → multiset_view (terms.Times k e) ≡ times (expr_view k) (expr_view e)
tokens_times k e = search (rules, multiset.the_lemmas)

pub tokens_sum : (ms : Vec MExpr Global) → multiset_view (tokens.Sum ms) ≡ sum_of (inscriptions_from (map multiset_view ms.items))
tokens_sum ms = search (rules, multiset.the_lemmas)

pub tokens_later : (m : Box MExpr Global) (d : Expr) → multiset_view (tokens.Later m d) ≡ later (multiset_view m.value) (expr_view d)
tokens_later m d = search (rules, multiset.the_lemmas)

pub tokens_at : (m : Box MExpr Global) (z : ℤ) → multiset_view (tokens.At m z) ≡ stamped (multiset_view m.value) z
tokens_at m z = search (rules, multiset.the_lemmas)

pub tokens_if : (c : Expr) (m n : Box MExpr Global) → multiset_view (tokens.If c m n) ≡ chosen (expr_view c) (multiset_view m.value) (multiset_view n.value)
tokens_if c m n = search (rules, multiset.the_lemmas)

pub tokens_case : (e : Expr) (arms : Vec MArm Global) → multiset_view (tokens.Case e arms) ≡ selected (expr_view e) (arc_arms_from (map arc_arm_view arms.items))
tokens_case e arms = search (rules, multiset.the_lemmas)

pub tokens_let : (e : Expr) (m : Box MExpr Global) → multiset_view (tokens.Let e m) ≡ bound (expr_view e) (multiset_view m.value)
tokens_let e m = search (rules, multiset.the_lemmas)

pub tokens_arm : (arm : MArm) → arc_arm_view arm ≡ (pattern_view arm.pat, multiset_view arm.result)
tokens_arm arm = search (rules, multiset.the_lemmas)
