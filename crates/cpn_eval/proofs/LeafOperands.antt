-- What an operation means whose operands stand somewhere.
use Rattle.std.proofs.Common.{◌≡◌, ℕ, List, [], ◌∷◌, length, get_or, subst, sym, ap, ◌∙◌, refl, arith, Option, Result}
use Rattle.cpn_definitions.specs.Value.{PlainValue}
use Rattle.cpn_definitions.specs.Outcome.{Outcome, gives, ◌>>=◌}
use Rattle.cpn_definitions.specs.Inscription.{Operation, operation, apply, PlainExpr, more_exprs, no_exprs}
use Rattle.cpn_definitions.specs.Operations.{operated}
use Rattle.cpn_definitions.specs.Meaning.{meant_each, with_first}
use Rattle.cpn_core.specs.declared.values.Value.{Value}
use Rattle.cpn_core.specs.declared.inscriptions.Expr.{Expr}
use Rattle.cpn_core.specs.Views.{value_view}
use Rattle.cpn_core.specs.Inscriptions.{expr_view, exprs_view}
use Rattle.cpn_eval.specs.declared.frames.World.{World}
use Rattle.cpn_eval.specs.declared.frames.Machine.{Machine}
use Rattle.cpn_eval.specs.declared.refusals.NoValue.{NoValue}
use Rattle.cpn_eval.specs.Answers.{MayTell}
use Rattle.cpn_eval.specs.Frames.{parts, beside, local_beside, meant_at, locals_of, setting_in, after_value, after_outcome, after_frame, after_waiting}
use Rattle.cpn_eval.specs.Leaves.{one_given, two_given, second_given, local_given}
use Rattle.cpn_eval.proofs.Binds.{bind_assoc, bind_ext}
use Rattle.cpn_eval.proofs.Turns.{waiting_goes, back_goes}

-- one part, and two
one_part : (es : List Expr) (e : Expr) → length es ≡ 1 → e ≡ get_or es 0 e → exprs_view es ≡ more_exprs (expr_view e) no_exprs
one_part [] e h is = absurd (omega arith)
one_part (d ∷ []) e h is = rw is refl
one_part (d ∷ f ∷ es) e h is = absurd (omega arith)

two_parts : (es : List Expr) (e d : Expr) → length es ≡ 2 → e ≡ get_or es 0 e → d ≡ get_or es 1 d → exprs_view es ≡ more_exprs (expr_view e) (more_exprs (expr_view d) no_exprs)
two_parts [] e d h ie id = absurd (omega arith)
two_parts (f ∷ []) e d h ie id = absurd (omega arith)
two_parts (f ∷ g ∷ []) e d h ie id = rw (ie, id) refl
two_parts (f ∷ g ∷ k ∷ es) e d h ie id = absurd (omega arith)

-- the value of one operand, and of two
one_meant : (w : World) (m : Machine) (o : Operation) (e : PlainExpr) → meant_at w m.visible (locals_of m) (apply (operation o) (more_exprs e no_exprs)) ≡ one_given w m e (operated o)
one_meant w m o e = bind_assoc (meant_at w m.visible (locals_of m) e) (λ v. gives (v ∷ [])) (operated o)

two_meant
    : (w : World) (n : ℕ) (ls : List PlainValue) (o : Operation) (e d : PlainExpr)
    → meant_at w n ls (apply (operation o) (more_exprs e (more_exprs d no_exprs))) ≡ (meant_at w n ls e >>= (λ v. meant_at w n ls d >>= (λ x. operated o (v ∷ x ∷ []))))
two_meant w n ls o e d =
    let second = meant_each (more_exprs d no_exprs) (setting_in w n) ls in
    bind_assoc (meant_at w n ls e) (λ v. second >>= with_first v) (operated o)
    ∙ bind_ext (meant_at w n ls e) _ _ (λ v.
    bind_assoc second (with_first v) (operated o)
    ∙ bind_assoc (meant_at w n ls d) (λ x. gives (x ∷ [])) (λ vs. with_first v vs >>= operated o))

-- an answer for the operands is one for the operation
pub one_read
    : (answer : Result (Option Value) NoValue) (w : World) (m : Machine) (o : Operation) (es : List Expr) (e : Expr)
    → length es ≡ 1
    → e ≡ get_or es 0 e
    → MayTell value_view answer (one_given w m (expr_view e) (operated o))
    → MayTell value_view answer (meant_at w m.visible (locals_of m) (apply (operation o) (exprs_view es)))
one_read answer w m o es e h is told =
    let P : Outcome PlainValue → Type 0 = λ x. MayTell value_view answer x in
    subst P (sym (ap (λ ds. meant_at w m.visible (locals_of m) (apply (operation o) ds)) (one_part es e h is) ∙ one_meant w m o (expr_view e))) told

pub two_read
    : (answer : Result (Option Value) NoValue) (w : World) (m : Machine) (o : Operation) (es : List Expr) (e d : Expr)
    → length es ≡ 2
    → e ≡ get_or es 0 e
    → d ≡ get_or es 1 d
    → MayTell value_view answer (two_given w m (expr_view e) (expr_view d) (operated o))
    → MayTell value_view answer (meant_at w m.visible (locals_of m) (apply (operation o) (exprs_view es)))
two_read answer w m o es e d h ie id told =
    let P : Outcome PlainValue → Type 0 = λ x. MayTell value_view answer x in
    subst P (sym (ap (λ ds. meant_at w m.visible (locals_of m) (apply (operation o) ds)) (two_parts es e d h ie id) ∙ two_meant w m.visible (locals_of m) o (expr_view e) (expr_view d))) told

-- the second operand beside the value of the first
pub second_read
    : (w : World) (n : ℕ) (ls : List PlainValue) (o : Operation) (es : List Expr) (e d : Expr) (v : PlainValue)
    → length es ≡ 2
    → e ≡ get_or es 0 e
    → d ≡ get_or es 1 d
    → meant_at w n ls (expr_view e) ≡ gives v
    → meant_at w n ls (apply (operation o) (exprs_view es)) ≡ second_given w n ls v (expr_view d) (operated o)
second_read w n ls o es e d v h ie id given =
    ap (λ ds. meant_at w n ls (apply (operation o) ds)) (two_parts es e d h ie id)
    ∙ two_meant w n ls o (expr_view e) (expr_view d)
    ∙ ap (λ x. x >>= (λ u. meant_at w n ls (expr_view d) >>= (λ z. operated o (u ∷ z ∷ [])))) given

pub beside_goes
    : (w : World) (m : Machine) (o : Operation) (p : Outcome PlainValue) (v : PlainValue) (e : PlainExpr)
    → p ≡ second_given w m.visible (locals_of m) v e (operated o)
    → after_waiting w m (parts (operation o) (v ∷ []) no_exprs) (meant_at w m.visible (locals_of m) e) ≡ after_outcome w m p
beside_goes w m o p v e h = waiting_goes w m (parts (operation o) (v ∷ []) no_exprs) (meant_at w m.visible (locals_of m) e) p (λ x. operated o (v ∷ x ∷ [])) (λ x. refl) h

pub beside_given
    : (w : World) (m : Machine) (o : Operation) (v x y r : PlainValue)
    → x ≡ y
    → operated o (v ∷ x ∷ []) ≡ gives r
    → after_value w m r ≡ after_frame w m (parts (operation o) (v ∷ []) no_exprs) y
beside_given w m o v x y r same h =
    ap (after_outcome w m) (sym h ∙ ap (λ z. operated o (v ∷ z ∷ [])) same) ∙ back_goes w m (parts (operation o) (v ∷ []) no_exprs) y (operated o (v ∷ y ∷ [])) refl

-- the second operand beside a local
pub local_goes
    : (w : World) (m : Machine) (o : Operation) (p : Outcome PlainValue) (k : ℕ) (e : PlainExpr)
    → p ≡ local_given w m o k e
    → after_waiting w m (beside o k) (meant_at w m.visible (locals_of m) e) ≡ after_outcome w m p
local_goes w m o p k e h = waiting_goes w m (beside o k) (meant_at w m.visible (locals_of m) e) p (local_beside o k (locals_of m)) (λ x. refl) h
