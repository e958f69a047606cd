-- Values of a `let` around its body, the last one first.
use Rattle.std.proofs.Common.{◌≡◌, List, [], ◌∷◌, ◌++◌, length, map, refl, sym, ap, ◌∙◌, arith, Box, Global}
use Rattle.cpn_definitions.specs.Inscription.{PlainExpr, bind}
use Rattle.cpn_definitions.proofs.ListItems.{map_more}
use Rattle.cpn_core.specs.Inscriptions.{expr_view}
use Rattle.cpn_core.specs.declared.inscriptions.Expr.{Expr}
use Rattle.cpn_core.specs.declared.inscriptions.Expr.TheVariants as exprs
use Rattle.cpn_core.proofs.InscriptionLevels.{view_let}
use Rattle.cpn_typing.specs.Types.{PlainTy}
use Rattle.cpn_typing.specs.Names.{Checked, ok}
use Rattle.cpn_typing.specs.Rules.{Typed}
use Rattle.cpn_typing.specs.Bindings.{bind_all}
use Rattle.cpn_typing.proofs.Bindings.{bind_more}

-- the last of the values around what has been made
pub bind_last : (es rest : List Expr) (v e : Expr) (a b : Box Expr Global) (all : PlainExpr) → es ≡ rest ++ v ∷ [] → a.value ≡ v → b.value ≡ e
    → bind_all (map expr_view es) (expr_view e) ≡ all → bind_all (map expr_view rest) (expr_view (exprs.Let a b)) ≡ all
bind_last es rest v e a b all s p q h =
    ap (bind_all (map expr_view rest)) (view_let a b ∙ ap (λ x. bind (expr_view x) (expr_view b.value)) p ∙ ap (λ x. bind (expr_view v) (expr_view x)) q)
    ∙ sym (bind_more (map expr_view rest) (expr_view v) (expr_view e))
    ∙ ap (λ xs. bind_all xs (expr_view e)) (sym (ap (map expr_view) s ∙ map_more expr_view rest v))
    ∙ h

pub bind_none : (es : List Expr) (e : PlainExpr) → length es ≡ 0 → bind_all (map expr_view es) e ≡ e
bind_none [] e h = refl
bind_none (x ∷ es) e h = absurd (omega arith)

abbrev pub made_of : PlainExpr → PlainTy → Checked Typed
made_of e t = ok (record { expr = e; type_of = t })

pub bind_done : (es : List Expr) (e all : PlainExpr) (t u : PlainTy) → length es ≡ 0 → bind_all (map expr_view es) e ≡ all → t ≡ u → made_of all t ≡ made_of e u
bind_done es e all t u z h s = ap (λ x. made_of x t) (sym h ∙ bind_none es e z) ∙ ap (made_of e) s
