-- The plain inscriptions that the inscriptions of the program stand for.
use Rattle.std.specs.Prelude.{List, map, Some, None}
use Rattle.cpn_definitions.specs.Inscription.{Operation, addition, subtraction, multiplication, division, remainder, negation, concatenation, equality, inequality, less_than, at_most, greater_than, at_least, complement, cons, appending, head, tail, list_length, reversal, membership, string_size, component, operation, tupling, listing, constructing, calling, PlainPattern, PlainPatterns, any_pattern, variable_pattern, literal_pattern, tuple_pattern, list_pattern, cons_pattern, bare_pattern, applied_pattern, PlainExpr, PlainExprs, literal, variable, local, the_time, apply, conjunction, disjunction, choose, select, bind, accumulate, no_exprs, more_exprs, ArcInscription, no_token, one, times, sum_of, later, stamped, chosen, selected, bound, PlainFunction, Functions, patterns_from, exprs_from, arms_from, inscriptions_from, arc_arms_from}
use Rattle.cpn_definitions.specs.Net as plain
use Rattle.cpn_core.specs.declared.inscriptions.Op.{Op}
use Rattle.cpn_core.specs.declared.inscriptions.Op.TheVariants as ops
use Rattle.cpn_core.specs.declared.inscriptions.Pat.{Pat, fold-Pat}
use Rattle.cpn_core.specs.declared.inscriptions.Pat.TheOpen.{Pat-F}
use Rattle.cpn_core.specs.declared.inscriptions.Arm.{Arm, fold-Arm}
use Rattle.cpn_core.specs.declared.inscriptions.Expr.{Expr, fold-Expr}
use Rattle.cpn_core.specs.declared.inscriptions.Expr.TheOpen.{Expr-F, Arm-F}
use Rattle.cpn_core.specs.declared.inscriptions.Function.{Function}
use Rattle.cpn_core.specs.declared.inscriptions.Funs.{Funs}
use Rattle.cpn_core.specs.declared.inscriptions.MArm.{MArm, fold-MArm}
use Rattle.cpn_core.specs.declared.inscriptions.MExpr.{MExpr, fold-MExpr}
use Rattle.cpn_core.specs.declared.inscriptions.MExpr.TheOpen.{MExpr-F, MArm-F}
use Rattle.cpn_core.specs.declared.inscriptions.BindingTerm.{BindingTerm}
use Rattle.cpn_core.specs.Views.{value_view}

abbrev pub op_view : Op → Operation
op_view ops.Add = addition
op_view ops.Sub = subtraction
op_view ops.Mul = multiplication
op_view ops.Div = division
op_view ops.Mod = remainder
op_view ops.Neg = negation
op_view ops.Cat = concatenation
op_view ops.Eq = equality
op_view ops.Ne = inequality
op_view ops.Lt = less_than
op_view ops.Le = at_most
op_view ops.Gt = greater_than
op_view ops.Ge = at_least
op_view ops.Not = complement
op_view ops.Cons = cons
op_view ops.Append = appending
op_view ops.Head = head
op_view ops.Tail = tail
op_view ops.Length = list_length
op_view ops.Rev = reversal
op_view ops.Mem = membership
op_view ops.Size = string_size
op_view (ops.Nth k) = component k

-- ---- patterns

-- one level, with each pattern inside already seen as its plain one
abbrev pub pattern_step : Pat-F PlainPattern → PlainPattern
pattern_step Pat-F.Any = any_pattern
pattern_step (Pat-F.Var x) = variable_pattern x
pattern_step (Pat-F.Lit v) = literal_pattern (value_view v)
pattern_step (Pat-F.Tuple ps) = tuple_pattern (patterns_from ps.items)
pattern_step (Pat-F.List ps) = list_pattern (patterns_from ps.items)
pattern_step (Pat-F.Cons p q) = cons_pattern p.value q.value
pattern_step (Pat-F.Con k None) = bare_pattern k
pattern_step (Pat-F.Con k (Some p)) = applied_pattern k p.value

abbrev pub pattern_view : Pat → PlainPattern
pattern_view = fold-Pat PlainPattern pattern_step

abbrev pub patterns_view : List Pat → PlainPatterns
patterns_view ps = patterns_from (map pattern_view ps)

-- ---- inscriptions of values

-- one level, with each inscription inside already seen as its plain one
abbrev pub expr_step : Expr-F PlainExpr (PlainPattern × PlainExpr) → PlainExpr
expr_step (Expr-F.Lit v) = literal (value_view v)
expr_step (Expr-F.Var x) = variable x
expr_step (Expr-F.Local k) = local k
expr_step Expr-F.Time = the_time
expr_step (Expr-F.Op o es) = apply (operation (op_view o)) (exprs_from es.items)
expr_step (Expr-F.And e f) = conjunction e.value f.value
expr_step (Expr-F.Or e f) = disjunction e.value f.value
expr_step (Expr-F.If c e f) = choose c.value e.value f.value
expr_step (Expr-F.Case e arms) = select e.value (arms_from arms.items)
expr_step (Expr-F.Let e body) = bind e.value body.value
expr_step (Expr-F.Fold xs start body) = accumulate xs.value start.value body.value
expr_step (Expr-F.Tuple es) = apply tupling (exprs_from es.items)
expr_step (Expr-F.List es) = apply listing (exprs_from es.items)
expr_step (Expr-F.Con k None) = apply (constructing k) no_exprs
expr_step (Expr-F.Con k (Some e)) = apply (constructing k) (more_exprs e.value no_exprs)
expr_step (Expr-F.Call k es) = apply (calling k) (exprs_from es.items)

abbrev pub arm_step : Arm-F PlainExpr (PlainPattern × PlainExpr) → PlainPattern × PlainExpr
arm_step arm = (pattern_view arm.pat, arm.result)

abbrev pub expr_view : Expr → PlainExpr
expr_view = fold-Expr PlainExpr (PlainPattern × PlainExpr) expr_step arm_step

abbrev pub arm_view : Arm → PlainPattern × PlainExpr
arm_view = fold-Arm PlainExpr (PlainPattern × PlainExpr) expr_step arm_step

abbrev pub exprs_view : List Expr → PlainExprs
exprs_view es = exprs_from (map expr_view es)

abbrev pub function_view : Function → PlainFunction
function_view f = record { parameters = f.parameters; body = expr_view f.body.value }

abbrev pub funs_view : Funs → Functions
funs_view funs = map function_view funs.functions.items

-- ---- inscriptions of tokens

abbrev pub multiset_step : MExpr-F ArcInscription (PlainPattern × ArcInscription) → ArcInscription
multiset_step MExpr-F.Empty = no_token
multiset_step (MExpr-F.One e) = one (expr_view e)
multiset_step (MExpr-F.Times k e) = times (expr_view k) (expr_view e)
multiset_step (MExpr-F.Sum ms) = sum_of (inscriptions_from ms.items)
multiset_step (MExpr-F.Later m delay) = later m.value (expr_view delay)
multiset_step (MExpr-F.At m stamp) = stamped m.value stamp
multiset_step (MExpr-F.If c m n) = chosen (expr_view c) m.value n.value
multiset_step (MExpr-F.Case e arms) = selected (expr_view e) (arc_arms_from arms.items)
multiset_step (MExpr-F.Let e m) = bound (expr_view e) m.value

abbrev pub arc_arm_step : MArm-F ArcInscription (PlainPattern × ArcInscription) → PlainPattern × ArcInscription
arc_arm_step arm = (pattern_view arm.pat, arm.result)

abbrev pub multiset_view : MExpr → ArcInscription
multiset_view = fold-MExpr ArcInscription (PlainPattern × ArcInscription) multiset_step arc_arm_step

abbrev pub arc_arm_view : MArm → PlainPattern × ArcInscription
arc_arm_view = fold-MArm ArcInscription (PlainPattern × ArcInscription) multiset_step arc_arm_step

abbrev pub term_view : BindingTerm → plain.BindingTerm
term_view term = record { count = term.count; pattern = pattern_view term.pattern }
