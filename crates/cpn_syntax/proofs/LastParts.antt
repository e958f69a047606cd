-- The parts, arms and values of a plain inscription, from those before the last one and the last one.
use Rattle.std.proofs.Common.{◌≡◌, ℕ, List, [], ◌∷◌, ◌++◌, refl, ap}
use Rattle.cpn_trees.specs.Trees.{PlainPat, PlainAst, no_ast, more_asts, asts_from, no_arm, more_arms, no_local, more_locals}
use Rattle.cpn_trees.specs.AstViews.{arms_from, locals_from}
use Rattle.cpn_syntax.specs.OpenForms.{after_asts, after_arms, after_locals}

pub asts_with_last : (parts : List PlainAst) (c : PlainAst) → asts_from (parts ++ c ∷ []) ≡ after_asts parts (more_asts c no_ast)
asts_with_last [] c = refl
asts_with_last (a ∷ parts) c = ap (more_asts a) (asts_with_last parts c)

pub arms_with_last : (arms : List (PlainPat × PlainAst)) (p : PlainPat) (c : PlainAst) → arms_from (arms ++ (p, c) ∷ []) ≡ after_arms arms (more_arms p c no_arm)
arms_with_last [] p c = refl
arms_with_last (a ∷ arms) p c = ap (more_arms a.0 a.1) (arms_with_last arms p c)

pub all_locals : (locals : List (List ℕ × PlainAst)) → locals_from locals ≡ after_locals locals no_local
all_locals [] = refl
all_locals (a ∷ locals) = ap (more_locals a.0 a.1) (all_locals locals)
