-- How large the parts of a tree are, as the measure by which its letting go ends: a list without one of its items is
-- no larger, and the parts of a form are smaller than it.
use Rattle.std.proofs.Common.{◌≡◌, ℕ, zero, suc, ◌≤◌, ◌<◌, List, [], ◌∷◌, Box, String, Vec, Global, arith}
use Rattle.std.specs.List.{remove}
use denote.Param.Weighed.{most}
use Rattle.cpn_trees.specs.declared.patterns.Pat.{Pat, size-Pat}
use Rattle.cpn_trees.specs.declared.patterns.Pat as pat
use Rattle.cpn_trees.specs.declared.patterns.PatForm as pat_form
use Rattle.cpn_trees.specs.declared.patterns.PatForm.TheVariants as pattern
use Rattle.cpn_trees.specs.declared.trees.Ast.{Ast, size-Ast}
use Rattle.cpn_trees.specs.declared.trees.Ast as tree
use Rattle.cpn_trees.specs.declared.trees.Arm.{Arm, size-Arm}
use Rattle.cpn_trees.specs.declared.trees.LocalValue.{LocalValue, size-LocalValue}
use Rattle.cpn_trees.specs.declared.trees.Form as tree_form
use Rattle.cpn_trees.specs.declared.trees.Form.TheVariants as form

most_remove : {X : Type 0} (μ : X → ℕ) (xs : List X) (i : ℕ) → most μ (remove xs i) ≤ most μ xs
most_remove μ [] zero = omega arith
most_remove μ [] (suc i) = omega arith
most_remove μ (x ∷ xs) zero = omega arith
most_remove μ (x ∷ xs) (suc i) = let h : most μ (remove xs i) ≤ most μ xs = most_remove μ xs i in omega arith

pub most_left : {X : Type 0} (μ : X → ℕ) (xs ys : List X) (i t : ℕ) → ys ≡ remove xs i → most μ xs < t → most μ ys < t
most_left μ xs ys i t is small = rw is (let h : most μ (remove xs i) ≤ most μ xs = most_remove μ xs i in omega arith)

-- ---- patterns

pub call_patterns : (at : ℕ) (name : String Global) (parts : Vec Pat Global) → most size-Pat parts.items < size-Pat (record { at = at; form = pattern.Call name parts })
call_patterns at name parts = grind (arith, pat.the_lemmas, pat_form.the_lemmas)

pub tuple_patterns : (at : ℕ) (parts : Vec Pat Global) → most size-Pat parts.items < size-Pat (record { at = at; form = pattern.Tuple parts })
tuple_patterns at parts = grind (arith, pat.the_lemmas, pat_form.the_lemmas)

pub list_patterns : (at : ℕ) (parts : Vec Pat Global) → most size-Pat parts.items < size-Pat (record { at = at; form = pattern.List parts })
list_patterns at parts = grind (arith, pat.the_lemmas, pat_form.the_lemmas)

-- ---- inscriptions

pub call_parts : (at : ℕ) (name : String Global) (parts : Vec Ast Global) → most size-Ast parts.items < size-Ast (record { at = at; form = form.Call name parts })
call_parts at name parts = grind (arith, tree.the_lemmas, tree_form.the_lemmas)

pub tuple_parts : (at : ℕ) (parts : Vec Ast Global) → most size-Ast parts.items < size-Ast (record { at = at; form = form.Tuple parts })
tuple_parts at parts = grind (arith, tree.the_lemmas, tree_form.the_lemmas)

pub list_parts : (at : ℕ) (parts : Vec Ast Global) → most size-Ast parts.items < size-Ast (record { at = at; form = form.List parts })
list_parts at parts = grind (arith, tree.the_lemmas, tree_form.the_lemmas)

pub sum_parts : (at : ℕ) (parts : Vec Ast Global) → most size-Ast parts.items < size-Ast (record { at = at; form = form.Sum parts })
sum_parts at parts = grind (arith, tree.the_lemmas, tree_form.the_lemmas)

pub let_values : (at : ℕ) (values : Vec LocalValue Global) (body : Box Ast Global) → most size-LocalValue values.items < size-Ast (record { at = at; form = form.Let values body })
let_values at values body = grind (arith, tree.the_lemmas, tree_form.the_lemmas)

pub case_arms : (at : ℕ) (subject : Box Ast Global) (arms : Vec Arm Global) → most size-Arm arms.items < size-Ast (record { at = at; form = form.Case subject arms })
case_arms at subject arms = grind (arith, tree.the_lemmas, tree_form.the_lemmas)
