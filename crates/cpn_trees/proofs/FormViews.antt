-- What the plain inscription of a form is, one level at a time.
use Rattle.std.proofs.Common.{◌≡◌, ℕ, ℤ, Bool, map, Box, String, Vec, Global, rules, string_bytes}
use Rattle.cpn_trees.specs.declared.operators.Infix.{Infix}
use Rattle.cpn_trees.specs.declared.operators.Prefix.{Prefix}
use Rattle.cpn_trees.specs.declared.trees.Ast.{Ast}
use Rattle.cpn_trees.specs.declared.trees.Arm.{Arm}
use Rattle.cpn_trees.specs.declared.trees.LocalValue.{LocalValue}
use Rattle.cpn_trees.specs.declared.trees.Form.{the_lemmas}
use Rattle.cpn_trees.specs.declared.trees.Form.TheVariants as form
use Rattle.cpn_trees.specs.Trees.{number, text, truth, empty, time, name, call, unit, tuple, list, let_in, prefixed, infixed, stamped, sum, if_else, case_of, fold, asts_from}
use Rattle.cpn_trees.specs.PatViews.{pat_view}
use Rattle.cpn_trees.specs.AstViews.{form_view, ast_view, arm_view, local_view, arms_from, locals_from}

pub view_number : (z : ℤ) → form_view (form.Number z) ≡ number z
view_number z = search (rules, the_lemmas)

pub view_text : (s : String Global) → form_view (form.Text s) ≡ text (string_bytes s)
view_text s = search (rules, the_lemmas)

pub view_truth : (b : Bool) → form_view (form.Truth b) ≡ truth b
view_truth b = search (rules, the_lemmas)

pub view_empty : form_view form.Empty ≡ empty
view_empty = search (rules, the_lemmas)

pub view_time : form_view form.Time ≡ time
view_time = search (rules, the_lemmas)

pub view_name : (s : String Global) → form_view (form.Name s) ≡ name (string_bytes s)
view_name s = search (rules, the_lemmas)

pub view_unit : form_view form.Unit ≡ unit
view_unit = search (rules, the_lemmas)

pub view_call : (s : String Global) (parts : Vec Ast Global) → form_view (form.Call s parts) ≡ call (string_bytes s) (asts_from (map ast_view parts.items))
view_call s parts = search (rules, the_lemmas)

pub view_tuple : (parts : Vec Ast Global) → form_view (form.Tuple parts) ≡ tuple (asts_from (map ast_view parts.items))
view_tuple parts = search (rules, the_lemmas)

pub view_list : (parts : Vec Ast Global) → form_view (form.List parts) ≡ list (asts_from (map ast_view parts.items))
view_list parts = search (rules, the_lemmas)

pub view_sum : (parts : Vec Ast Global) → form_view (form.Sum parts) ≡ sum (asts_from (map ast_view parts.items))
view_sum parts = search (rules, the_lemmas)

pub view_let : (values : Vec LocalValue Global) (body : Box Ast Global) → form_view (form.Let values body) ≡ let_in (locals_from (map local_view values.items)) (ast_view body.value)
view_let values body = search (rules, the_lemmas)

pub view_prefix : (o : Prefix) (a : Box Ast Global) → form_view (form.Prefix o a) ≡ prefixed o (ast_view a.value)
view_prefix o a = search (rules, the_lemmas)

pub view_infix : (o : Infix) (s : ℕ) (a b : Box Ast Global) → form_view (form.Infix o s a b) ≡ infixed o s (ast_view a.value) (ast_view b.value)
view_infix o s a b = search (rules, the_lemmas)

pub view_stamped : (a : Box Ast Global) (s : ℕ) (z : ℤ) → form_view (form.Stamped a s z) ≡ stamped (ast_view a.value) s z
view_stamped a s z = search (rules, the_lemmas)

pub view_if : (c a b : Box Ast Global) → form_view (form.If c a b) ≡ if_else (ast_view c.value) (ast_view a.value) (ast_view b.value)
view_if c a b = search (rules, the_lemmas)

pub view_case : (a : Box Ast Global) (arms : Vec Arm Global) → form_view (form.Case a arms) ≡ case_of (ast_view a.value) (arms_from (map arm_view arms.items))
view_case a arms = search (rules, the_lemmas)

pub view_fold : (item total : String Global) (a s b : Box Ast Global) → form_view (form.Fold item total a s b) ≡ fold (string_bytes item) (string_bytes total) (ast_view a.value) (ast_view s.value) (ast_view b.value)
view_fold item total a s b = search (rules, the_lemmas)

pub view_arm : (arm : Arm) → arm_view arm ≡ (pat_view arm.pattern, ast_view arm.result)
view_arm arm = search (rules, the_lemmas)

pub view_local : (local : LocalValue) → local_view local ≡ (string_bytes local.name, ast_view local.value)
view_local local = search (rules, the_lemmas)
