-- The first equation that gives a variable a value, by its number.
use Rattle.std.proofs.Common.{◌≡◌, ℕ, zero, suc, ◌+◌, ◌<◌, ◌≤◌, true, false, if◌then◌else◌, List, [], ◌∷◌, map, drop, length, get_or, Some, None, slice_get, refl, sym, ap, ◌∙◌, subst, arith}
use Rattle.std.specs.List.{AllByRecursion}
use Rattle.std.proofs.lemmas.List.{length-map}
use Rattle.cpn_definitions.specs.Inscription.{PlainExpr}
use Rattle.cpn_definitions.specs.Net.{PlainNet, PlainTransition}
use Rattle.cpn_core.specs.Inscriptions.{expr_view}
use Rattle.cpn_bindable.specs.Equations.{equation_pair, HasItsSources}
use Rattle.cpn_bindable.specs.declared.equations.Equation as program
use Rattle.cpn_stages.specs.Stages.{by_equation, equations_in, solves, first_solving}
use Rattle.cpn_search.specs.Plans.{IsNext}
use Rattle.cpn_search.specs.SharedViews.{inscription_at}
use Rattle.cpn_search.proofs.PlanSteps.{equation_is_next}
use Rattle.cpn_search.proofs.SharedParts.{inscription_among}

pub pair_at : (es : List program.Equation) (k : ℕ) (q : program.Equation) → k < length es → q ≡ get_or es k q → slice_get (map equation_pair es) k ≡ Some (equation_pair q)
pair_at [] k q lt is = absurd (omega arith)
pair_at (e ∷ es) zero q lt is = ap (λ (f : program.Equation). Some (equation_pair f)) (sym is)
pair_at (e ∷ es) (suc k) q lt is = pair_at es k q (omega arith) is

pub sources_at : (es : List program.Equation) (k : ℕ) (q : program.Equation) → k < length es → q ≡ get_or es k q → AllByRecursion HasItsSources es → HasItsSources q
sources_at [] k q lt is all = absurd (omega arith)
sources_at (e ∷ es) zero q lt is all = subst HasItsSources (sym is) all.0
sources_at (e ∷ es) (suc k) q lt is all = sources_at es k q (omega arith) is all.1

-- one that does is the first of those from its number on
pub solving_at
    : (t : PlainTransition) (left : List ℕ) (es : List program.Equation) (k : ℕ) (q : program.Equation)
    → k < length es → q ≡ get_or es k q → solves t left (equation_pair q) ≡ true
    → first_solving t left (drop k (map equation_pair es)) ≡ slice_get (map equation_pair es) k
solving_at t left [] k q lt is does = absurd (omega arith)
solving_at t left (e ∷ es) zero q lt is does =
    let own : solves t left (equation_pair e) ≡ true = subst (λ (f : program.Equation). solves t left (equation_pair f) ≡ true) is does in
    ap (λ b. if b then Some (equation_pair e) else first_solving t left (map equation_pair es)) own
solving_at t left (e ∷ es) (suc k) q lt is does = solving_at t left es k q (omega arith) is does

-- one that does not is passed over
pub passed_over
    : (t : PlainTransition) (left : List ℕ) (es : List program.Equation) (k : ℕ) (q : program.Equation)
    → k < length es → q ≡ get_or es k q → solves t left (equation_pair q) ≡ false
    → first_solving t left (drop k (map equation_pair es)) ≡ first_solving t left (drop (k + 1) (map equation_pair es))
passed_over t left [] k q lt is not = absurd (omega arith)
passed_over t left (e ∷ es) zero q lt is not =
    let own : solves t left (equation_pair e) ≡ false = subst (λ (f : program.Equation). solves t left (equation_pair f) ≡ false) is not in
    ap (λ b. if b then Some (equation_pair e) else first_solving t left (map equation_pair es)) own
passed_over t left (e ∷ es) (suc k) q lt is not = passed_over t left es k q (omega arith) is not ∙ ap (first_solving t left) (deeper k)
  where
    deeper : (k : ℕ) → drop (k + 1) (map equation_pair es) ≡ drop (suc k + 1) (map equation_pair (e ∷ es))
    deeper k = let more : suc k + 1 ≡ suc (k + 1) = omega arith in ap (λ (j : ℕ). drop j (map equation_pair (e ∷ es))) (sym more)

-- and past the last there is none
pub none_solving : (t : PlainTransition) (left : List ℕ) (es : List program.Equation) (k : ℕ) → length es ≤ k → first_solving t left (drop k (map equation_pair es)) ≡ None
none_solving t left [] zero le = refl
none_solving t left [] (suc k) le = refl
none_solving t left (e ∷ es) zero le = absurd (omega arith)
none_solving t left (e ∷ es) (suc k) le = none_solving t left es k (omega arith)

-- a number of an equation of a guard
pub number_within : (t : PlainTransition) (es : List program.Equation) (k : ℕ) → map equation_pair es ≡ equations_in t → k < length es → k < length (equations_in t)
number_within t es k all lt = subst (λ qs. k < length qs) all (long es lt)
  where
    long : (fs : List program.Equation) → k < length fs → k < length (map equation_pair fs)
    long fs below = let same = length-map fs equation_pair in omega (arith, below, same)

-- the first equation by its number is the next stage
pub numbered_is_next
    : (n : PlainNet) (t : PlainTransition) (left : List ℕ) (es : List program.Equation) (k : ℕ) (q : program.Equation) (e : PlainExpr)
    → map equation_pair es ≡ equations_in t
    → k < length es → q ≡ get_or es k q
    → first_solving t left (map equation_pair es) ≡ slice_get (map equation_pair es) k
    → e ≡ inscription_at (equations_in t) k
    → IsNext n t left q.variable (by_equation q.variable e)
numbered_is_next n t left es k q e all lt is first same =
    let there = pair_at es k q lt is in
    let own : e ≡ expr_view q.inscription.now = same ∙ ap (λ qs. inscription_at qs k) (sym all) ∙ inscription_among (map equation_pair es) k (equation_pair q) there in
    subst (λ (f : PlainExpr). IsNext n t left q.variable (by_equation q.variable f)) (sym own) (equation_is_next n t left q.variable (expr_view q.inscription.now) (ap (first_solving t left) (sym all) ∙ first ∙ there))
