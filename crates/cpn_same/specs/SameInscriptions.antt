-- When two inscriptions of values are the same, and two functions.
use Rattle.std.proofs.Common.{◌≡◌, ◌==◌, Bool, true, false, ◌&&◌, refl, ap, ap₂, ◌∙◌}
use Rattle.std.specs.Cmp.{unsigned_Decides}
use Rattle.std.proofs.lemmas.Bool.{and_parts, and_from}
use lib.Pointwise.{pointwise}
use Rattle.cpn_definitions.specs.Order.{same_value}
use Rattle.cpn_definitions.specs.ValueOrder.{same_value_true, same_value_refl}
use Rattle.cpn_definitions.specs.Inscription.{PlainExpr, PlainExprs, PlainArms, literal, variable, local, the_time, apply, conjunction, disjunction, choose, select, bind, accumulate, no_exprs, more_exprs, no_arms, more_arms, PlainFunction, Functions}
use Rattle.cpn_same.specs.Equality.{DecidesEquality, decides_from, lists_decide}
use Rattle.cpn_same.specs.SamePatterns.{same_pattern, patterns_decide}
use Rattle.cpn_same.specs.SameOperations.{same_head, heads_decide}

abbrev mutual
  -- whether two inscriptions are the same: of one form, with the same numbers, values and parts
  pub same_expr : PlainExpr → PlainExpr → Bool
  same_expr (literal v) (literal w) = same_value v w
  same_expr (variable x) (variable y) = x == y
  same_expr (local k) (local m) = k == m
  same_expr the_time the_time = true
  same_expr (apply h es) (apply g fs) = same_head h g && same_exprs es fs
  same_expr (conjunction e e') (conjunction f f') = same_expr e f && same_expr e' f'
  same_expr (disjunction e e') (disjunction f f') = same_expr e f && same_expr e' f'
  same_expr (choose c e e') (choose d f f') = same_expr c d && (same_expr e f && same_expr e' f')
  same_expr (select e arms) (select f brms) = same_expr e f && same_arms arms brms
  same_expr (bind e e') (bind f f') = same_expr e f && same_expr e' f'
  same_expr (accumulate c e e') (accumulate d f f') = same_expr c d && (same_expr e f && same_expr e' f')
  same_expr e f = false

  -- whether the parts of two rows are the same, one for one
  pub same_exprs : PlainExprs → PlainExprs → Bool
  same_exprs no_exprs no_exprs = true
  same_exprs (more_exprs e es) (more_exprs f fs) = same_expr e f && same_exprs es fs
  same_exprs es fs = false

  -- whether the arms of two rows have the same patterns and the same results, one for one
  pub same_arms : PlainArms → PlainArms → Bool
  same_arms no_arms no_arms = true
  same_arms (more_arms p e arms) (more_arms q f brms) = (same_pattern p q && same_expr e f) && same_arms arms brms
  same_arms arms brms = false

-- whether two functions are the same: of as many parameters, and with the same body
abbrev pub same_function : PlainFunction → PlainFunction → Bool
same_function f g = (f.parameters == g.parameters) && same_expr f.body g.body

abbrev pub same_functions : Functions → Functions → Bool
same_functions funs other = pointwise same_function funs other

-- ---- laws

mutual
  expr_itself : (e : PlainExpr) → same_expr e e ≡ true
  expr_itself (literal v) = same_value_refl v
  expr_itself (variable x) = (unsigned_Decides x x).1 refl
  expr_itself (local k) = (unsigned_Decides k k).1 refl
  expr_itself the_time = refl
  expr_itself (apply h es) = and_from (same_head h h) (same_exprs es es) ((heads_decide h h).1 refl) (exprs_itself es)
  expr_itself (conjunction e e') = and_from (same_expr e e) (same_expr e' e') (expr_itself e) (expr_itself e')
  expr_itself (disjunction e e') = and_from (same_expr e e) (same_expr e' e') (expr_itself e) (expr_itself e')
  expr_itself (choose c e e') = and_from (same_expr c c) (same_expr e e && same_expr e' e') (expr_itself c) (and_from (same_expr e e) (same_expr e' e') (expr_itself e) (expr_itself e'))
  expr_itself (select e arms) = and_from (same_expr e e) (same_arms arms arms) (expr_itself e) (arms_itself arms)
  expr_itself (bind e e') = and_from (same_expr e e) (same_expr e' e') (expr_itself e) (expr_itself e')
  expr_itself (accumulate c e e') = and_from (same_expr c c) (same_expr e e && same_expr e' e') (expr_itself c) (and_from (same_expr e e) (same_expr e' e') (expr_itself e) (expr_itself e'))

  exprs_itself : (es : PlainExprs) → same_exprs es es ≡ true
  exprs_itself no_exprs = refl
  exprs_itself (more_exprs e es) = and_from (same_expr e e) (same_exprs es es) (expr_itself e) (exprs_itself es)

  arms_itself : (arms : PlainArms) → same_arms arms arms ≡ true
  arms_itself no_arms = refl
  arms_itself (more_arms p e arms) = and_from (same_pattern p p && same_expr e e) (same_arms arms arms) (and_from (same_pattern p p) (same_expr e e) ((patterns_decide p p).1 refl) (expr_itself e)) (arms_itself arms)

mutual
  expr_one : (e f : PlainExpr) → same_expr e f ≡ true → e ≡ f
  expr_one (literal v) (literal w) is = ap literal (same_value_true v w is)
  expr_one (variable x) (variable y) is = ap variable ((unsigned_Decides x y).0 is)
  expr_one (local k) (local m) is = ap local ((unsigned_Decides k m).0 is)
  expr_one the_time the_time is = refl
  expr_one (apply h es) (apply g fs) is = let both = and_parts (same_head h g) (same_exprs es fs) is in ap₂ apply ((heads_decide h g).0 both.0) (exprs_one es fs both.1)
  expr_one (conjunction e e') (conjunction f f') is = let both = and_parts (same_expr e f) (same_expr e' f') is in ap₂ conjunction (expr_one e f both.0) (expr_one e' f' both.1)
  expr_one (disjunction e e') (disjunction f f') is = let both = and_parts (same_expr e f) (same_expr e' f') is in ap₂ disjunction (expr_one e f both.0) (expr_one e' f' both.1)
  expr_one (choose c e e') (choose d f f') is =
      let all = and_parts (same_expr c d) (same_expr e f && same_expr e' f') is in
      let both = and_parts (same_expr e f) (same_expr e' f') all.1 in
      ap (λ x. choose x e e') (expr_one c d all.0) ∙ ap₂ (choose d) (expr_one e f both.0) (expr_one e' f' both.1)
  expr_one (select e arms) (select f brms) is = let both = and_parts (same_expr e f) (same_arms arms brms) is in ap₂ select (expr_one e f both.0) (arms_one arms brms both.1)
  expr_one (bind e e') (bind f f') is = let both = and_parts (same_expr e f) (same_expr e' f') is in ap₂ bind (expr_one e f both.0) (expr_one e' f' both.1)
  expr_one (accumulate c e e') (accumulate d f f') is =
      let all = and_parts (same_expr c d) (same_expr e f && same_expr e' f') is in
      let both = and_parts (same_expr e f) (same_expr e' f') all.1 in
      ap (λ x. accumulate x e e') (expr_one c d all.0) ∙ ap₂ (accumulate d) (expr_one e f both.0) (expr_one e' f' both.1)
  expr_one e f is = cc

  exprs_one : (es fs : PlainExprs) → same_exprs es fs ≡ true → es ≡ fs
  exprs_one no_exprs no_exprs is = refl
  exprs_one (more_exprs e es) (more_exprs f fs) is = let both = and_parts (same_expr e f) (same_exprs es fs) is in ap₂ more_exprs (expr_one e f both.0) (exprs_one es fs both.1)
  exprs_one es fs is = cc

  arms_one : (arms brms : PlainArms) → same_arms arms brms ≡ true → arms ≡ brms
  arms_one no_arms no_arms is = refl
  arms_one (more_arms p e arms) (more_arms q f brms) is =
      let all = and_parts (same_pattern p q && same_expr e f) (same_arms arms brms) is in
      let both = and_parts (same_pattern p q) (same_expr e f) all.0 in
      ap (λ x. more_arms x e arms) ((patterns_decide p q).0 both.0) ∙ ap₂ (more_arms q) (expr_one e f both.1) (arms_one arms brms all.1)
  arms_one arms brms is = cc

pub exprs_decide : DecidesEquality same_expr
exprs_decide = decides_from same_expr expr_itself expr_one

pub functions_decide : DecidesEquality same_functions
functions_decide = lists_decide same_function (decides_from same_function itself one)
  where
    itself : (f : PlainFunction) → same_function f f ≡ true
    itself f = and_from (f.parameters == f.parameters) (same_expr f.body f.body) ((unsigned_Decides f.parameters f.parameters).1 refl) (expr_itself f.body)

    one : (f g : PlainFunction) → same_function f g ≡ true → f ≡ g
    one f g is = let both = and_parts (f.parameters == g.parameters) (same_expr f.body g.body) is in ap₂ (λ parameters body. record { parameters = parameters; body = body }) ((unsigned_Decides f.parameters g.parameters).0 both.0) (expr_one f.body g.body both.1)
