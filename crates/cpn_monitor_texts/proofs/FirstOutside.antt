-- The first variable outside, of variables in several parts.
use Rattle.std.proofs.Common.{◌≡◌, ℕ, ◌+◌, ◌<◌, List, ◌∷◌, ◌++◌, length, drop, get_or, map, Option, Some, None, refl, sym, ap, ◌∙◌}
use Rattle.std.specs.Option.{option_or}
use Rattle.std.specs.Prelude.{not}
use Rattle.std.proofs.lemmas.List.{drop_more}
use Rattle.std.proofs.lemmas.List.Folds.{find-append}
use Rattle.cpn_core.specs.declared.inscriptions.Arm.{Arm}
use Rattle.cpn_core.specs.declared.inscriptions.Expr.{Expr}
use Rattle.cpn_core.specs.Inscriptions.{arm_view, expr_view, exprs_view}
use Rattle.cpn_core.proofs.InscriptionLevels.{view_arm}
use Rattle.cpn_definitions.specs.Bindable.{variables_of, variables_of_each, variables_of_arms}
use Rattle.cpn_definitions.specs.Inscription.{PlainPattern, PlainExpr, arms_from}
use Rattle.cpn_monitor_texts.specs.Variables.{is_among, first_outside}

outside_append : (vars xs ys : List ℕ) → first_outside vars (xs ++ ys) ≡ option_or (first_outside vars xs) (first_outside vars ys)
outside_append vars xs ys = find-append (λ x. not (is_among vars x)) xs ys

or_assoc : (o p q : Option ℕ) → option_or (option_or o p) q ≡ option_or o (option_or p q)
or_assoc None p q = refl
or_assoc (Some x) p q = refl

module _ (vars : List ℕ) where
  -- what is found in two parts, and in three
  pub of_two : (xs ys : List ℕ) (r s t : Option ℕ) → r ≡ first_outside vars xs → s ≡ first_outside vars ys → t ≡ option_or r s → t ≡ first_outside vars (xs ++ ys)
  of_two xs ys r s t is is_too e = rw (e, is, is_too) (sym (outside_append vars xs ys))

  pub of_three : (xs ys zs : List ℕ) (r s t u v : Option ℕ) → r ≡ first_outside vars xs → s ≡ first_outside vars ys → t ≡ first_outside vars zs → u ≡ option_or r s → v ≡ option_or u t → v ≡ first_outside vars (xs ++ ys ++ zs)
  of_three xs ys zs r s t u v is is_too is_as_well e f = of_two (xs ++ ys) zs u t v (of_two xs ys r s u is is_too e) is_as_well f

  -- what was found, and what is found in a part more
  next : (xs ys : List ℕ) (found r now whole : Option ℕ) → r ≡ first_outside vars xs → now ≡ option_or found r → option_or found (first_outside vars (xs ++ ys)) ≡ whole → option_or now (first_outside vars ys) ≡ whole
  next xs ys found r now whole is e h = rw (e, is) (or_assoc found (first_outside vars xs) (first_outside vars ys)) ∙ ap (option_or found) (sym (outside_append vars xs ys)) ∙ h

  -- the same of the parts of a form, and of the results of arms
  abbrev in_rest : List Expr → Option ℕ
  in_rest es = first_outside vars (variables_of_each (exprs_view es))

  pub next_part : (es : List Expr) (i : ℕ) (e : Expr) → i < length es → e ≡ get_or es i e → (found r now whole : Option ℕ) → r ≡ first_outside vars (variables_of (expr_view e)) → now ≡ option_or found r
      → option_or found (in_rest (drop i es)) ≡ whole → option_or now (in_rest (drop (i + 1) es)) ≡ whole
  next_part es i e lt at found r now whole is is_now h =
      next (variables_of (expr_view e)) (variables_of_each (exprs_view (drop (i + 1) es))) found r now whole is is_now
      (ap (λ rest. option_or found (in_rest rest)) (ap (λ x. x ∷ drop (i + 1) es) at ∙ sym (drop_more es i e lt)) ∙ h)

  abbrev in_arms : List Arm → Option ℕ
  in_arms arms = first_outside vars (variables_of_arms (arms_from (map arm_view arms)))

  in_front : (arm : Arm) (rest : List (PlainPattern × PlainExpr)) → variables_of_arms (arms_from (arm_view arm ∷ rest)) ≡ variables_of (expr_view arm.result) ++ variables_of_arms (arms_from rest)
  in_front arm rest = rw (view_arm arm) refl

  pub next_arm : (arms : List Arm) (i : ℕ) (arm : Arm) → i < length arms → arm ≡ get_or arms i arm → (found r now whole : Option ℕ) → r ≡ first_outside vars (variables_of (expr_view arm.result)) → now ≡ option_or found r
      → option_or found (in_arms (drop i arms)) ≡ whole → option_or now (in_arms (drop (i + 1) arms)) ≡ whole
  next_arm arms i arm lt at found r now whole is is_now h =
      next (variables_of (expr_view arm.result)) (variables_of_arms (arms_from (map arm_view (drop (i + 1) arms)))) found r now whole is is_now
      (ap (λ xs. option_or found (first_outside vars xs)) (sym (in_front arm (map arm_view (drop (i + 1) arms))))
      ∙ ap (λ rest. option_or found (in_arms rest)) (ap (λ x. x ∷ drop (i + 1) arms) at ∙ sym (drop_more arms i arm lt)) ∙ h)
