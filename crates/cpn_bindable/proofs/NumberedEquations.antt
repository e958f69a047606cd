-- What is reached in a row of two rows, and in the equations of a guard, conjunct by conjunct.
use Rattle.std.proofs.Common.{◌≡◌, ℕ, zero, suc, ◌+◌, ◌<◌, List, [], ◌∷◌, ◌++◌, map, take, length, get_or, Option, Some, None, slice_get, refl, sym, ap, ◌∙◌, subst, arith}
use Rattle.std.specs.List.{flat_map}
use Rattle.std.proofs.lemmas.Grind.{flat_map-append}
use Rattle.std.proofs.lemmas.List.{map-append, length-append}
use Rattle.cpn_definitions.specs.Inscription.{PlainExpr}
use Rattle.cpn_definitions.specs.Bindable.{conjuncts_of}
use Rattle.cpn_core.specs.Inscriptions.{expr_view}
use Rattle.cpn_core.specs.declared.inscriptions.Expr.{Expr}
use Rattle.cpn_stages.specs.Stages.{Equation, equations_at}
use Rattle.cpn_bindable.specs.Equations.{inscriptions_of, IsReached}

-- what stands in the first row stands in both
front_at : (xs ys : List PlainExpr) (k : ℕ) (e : PlainExpr) → slice_get xs k ≡ Some e → slice_get (xs ++ ys) k ≡ Some e
front_at [] ys k e is = cc
front_at (x ∷ xs) ys zero e is = is
front_at (x ∷ xs) ys (suc k) e is = front_at xs ys k e is

-- and what stands in the second, past the first
behind_at : (xs ys : List PlainExpr) (k : ℕ) → slice_get (xs ++ ys) (length xs + k) ≡ slice_get ys k
behind_at [] ys k = let same : length {A = PlainExpr} [] + k ≡ k = omega arith in ap (slice_get ys) same
behind_at (x ∷ xs) ys k = let next : length (x ∷ xs) + k ≡ suc (length xs + k) = omega arith in ap (slice_get (x ∷ (xs ++ ys))) next ∙ behind_at xs ys k

reached_behind : (xs ys : List PlainExpr) (passed between left : ℕ) (o : Option PlainExpr) → passed ≡ length xs + between → IsReached ys between left o → IsReached (xs ++ ys) passed left o
reached_behind xs ys passed between left None first second = let both = length-append xs ys in omega (arith, both, first, second)
reached_behind xs ys passed between left (Some e) first second = ap (slice_get (xs ++ ys)) first ∙ behind_at xs ys between ∙ second

inscriptions_both : (qs rs : List Equation) → inscriptions_of (qs ++ rs) ≡ inscriptions_of qs ++ inscriptions_of rs
inscriptions_both qs rs = map-append (λ (q : Equation). q.1) qs rs

-- none is reached in the first equations, and then in the others what is reached
pub reached_both
    : (qs rs : List Equation) (passed between left : ℕ) (o : Option PlainExpr)
    → IsReached (inscriptions_of qs) passed between None → IsReached (inscriptions_of rs) between left o → IsReached (inscriptions_of (qs ++ rs)) passed left o
reached_both qs rs passed between left o first second =
    subst (λ row. IsReached row passed left o) (sym (inscriptions_both qs rs)) (reached_behind (inscriptions_of qs) (inscriptions_of rs) passed between left o first second)

-- one is reached in the first
pub reached_first
    : (qs rs : List Equation) (passed : ℕ) (e : PlainExpr)
    → slice_get (inscriptions_of qs) passed ≡ Some e → slice_get (inscriptions_of (qs ++ rs)) passed ≡ Some e
reached_first qs rs passed e is = ap (λ row. slice_get row passed) (inscriptions_both qs rs) ∙ front_at (inscriptions_of qs) (inscriptions_of rs) passed e is

-- ---- conjuncts

abbrev row_of : List PlainExpr → List PlainExpr
row_of parts = inscriptions_of (flat_map equations_at parts)

row_both : (xs ys : List PlainExpr) → row_of (xs ++ ys) ≡ row_of xs ++ row_of ys
row_both xs ys = ap inscriptions_of (flat_map-append equations_at xs ys) ∙ inscriptions_both (flat_map equations_at xs) (flat_map equations_at ys)

pub in_first_conjunct
    : (e f : PlainExpr) (passed : ℕ) (g : PlainExpr)
    → slice_get (row_of (conjuncts_of e)) passed ≡ Some g
    → slice_get (row_of (conjuncts_of e ++ conjuncts_of f)) passed ≡ Some g
in_first_conjunct e f passed g is =
    ap (λ row. slice_get row passed) (row_both (conjuncts_of e) (conjuncts_of f)) ∙ front_at (row_of (conjuncts_of e)) (row_of (conjuncts_of f)) passed g is

pub in_second_conjunct
    : (e f : PlainExpr) (passed between left : ℕ) (o : Option PlainExpr)
    → IsReached (row_of (conjuncts_of e)) passed between None
    → IsReached (row_of (conjuncts_of f)) between left o
    → IsReached (row_of (conjuncts_of e ++ conjuncts_of f)) passed left o
in_second_conjunct e f passed between left o first second =
    subst (λ row. IsReached row passed left o) (sym (row_both (conjuncts_of e) (conjuncts_of f)))
    (reached_behind (row_of (conjuncts_of e)) (row_of (conjuncts_of f)) passed between left o first second)

-- where none is reached in the conjuncts before one, and one in this, it is that of all
pub in_all_conjuncts
    : (es : List Expr) (i : ℕ) (e : Expr) (number passed : ℕ) (g : PlainExpr)
    → i < length es → e ≡ get_or es i e
    → IsReached (row_of (flat_map conjuncts_of (map expr_view (take i es)))) number passed None
    → slice_get (row_of (conjuncts_of (expr_view e))) passed ≡ Some g
    → slice_get (row_of (flat_map conjuncts_of (map expr_view es))) number ≡ Some g
in_all_conjuncts [] i e number passed g lt is none here = absurd (omega arith)
in_all_conjuncts (x ∷ es) zero e number passed g lt is none here =
    let all : number ≡ length {A = PlainExpr} [] + passed = none in
    let same : number ≡ passed = omega (arith, all) in
    let own : slice_get (row_of (conjuncts_of (expr_view x))) number ≡ Some g = subst (λ (k : ℕ). slice_get (row_of (conjuncts_of (expr_view x))) k ≡ Some g) (sym same) (subst (λ (y : Expr). slice_get (row_of (conjuncts_of (expr_view y))) passed ≡ Some g) is here) in
    ap (λ row. slice_get row number) (row_both (conjuncts_of (expr_view x)) (flat_map conjuncts_of (map expr_view es)))
    ∙ front_at (row_of (conjuncts_of (expr_view x))) (row_of (flat_map conjuncts_of (map expr_view es))) number g own
in_all_conjuncts (x ∷ es) (suc i) e number passed g lt is none here =
    let own = row_of (conjuncts_of (expr_view x)) in
    let before = row_of (flat_map conjuncts_of (map expr_view (take i es))) in
    let all = row_of (flat_map conjuncts_of (map expr_view es)) in
    let count : number ≡ length (own ++ before) + passed = subst (λ row. number ≡ length row + passed) (row_both (conjuncts_of (expr_view x)) (flat_map conjuncts_of (map expr_view (take i es)))) none in
    let both = length-append own before in
    let at : number ≡ length own + (length before + passed) = omega (arith, count, both) in
    let later : slice_get all (length before + passed) ≡ Some g = in_all_conjuncts es i e (length before + passed) passed g (omega arith) is refl here in
    ap (λ row. slice_get row number) (row_both (conjuncts_of (expr_view x)) (flat_map conjuncts_of (map expr_view es)))
    ∙ ap (slice_get (own ++ all)) at ∙ behind_at own all (length before + passed) ∙ later
