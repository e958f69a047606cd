-- What a form of the program is, where its parts are lent.
use Rattle.std.proofs.Common.{◌≡◌, ℕ, List, map, Vec, Box, String, Global, string_bytes}
use Rattle.cpn_trees.specs.declared.operators.Infix.{Infix}
use Rattle.cpn_trees.specs.declared.operators.Prefix.{Prefix}
use Rattle.cpn_trees.specs.declared.trees.Ast.{Ast}
use Rattle.cpn_trees.specs.declared.trees.Arm.{Arm}
use Rattle.cpn_trees.specs.declared.trees.LocalValue.{LocalValue}
use Rattle.cpn_trees.specs.declared.trees.Form.{Form}
use Rattle.cpn_trees.specs.declared.trees.Form.TheVariants as form
use Rattle.cpn_trees.specs.Trees.{call, let_in, prefixed, infixed, if_else, case_of, fold, asts_from}
use Rattle.cpn_trees.specs.AstViews.{form_view, ast_view, local_view, locals_from, arm_view, arms_from}
use Rattle.cpn_trees.proofs.FormViews.{view_call, view_let, view_infix, view_if, view_prefix, view_case, view_fold}

pub call_is : (f : Form) (n : String Global) (parts : Vec Ast Global) (name : List ℕ) → f ≡ form.Call n parts → name ≡ string_bytes n → form_view f ≡ call name (asts_from (map ast_view parts.items))
call_is f n parts name e p = rw (e, p) (view_call n parts)

pub let_is : (f : Form) (values : Vec LocalValue Global) (body : Box Ast Global) (vs : List LocalValue) (b : Ast) → f ≡ form.Let values body → vs ≡ values.items → b ≡ body.value
    → form_view f ≡ let_in (locals_from (map local_view vs)) (ast_view b)
let_is f values body vs b e p q = rw (e, p, q) (view_let values body)

pub infix_is : (f : Form) (o : Infix) (s : ℕ) (l r : Box Ast Global) (a b : Ast) → f ≡ form.Infix o s l r → a ≡ l.value → b ≡ r.value → form_view f ≡ infixed o s (ast_view a) (ast_view b)
infix_is f o s l r a b e p q = rw (e, p, q) (view_infix o s l r)

pub if_is : (f : Form) (t l r : Box Ast Global) (c a b : Ast) → f ≡ form.If t l r → c ≡ t.value → a ≡ l.value → b ≡ r.value → form_view f ≡ if_else (ast_view c) (ast_view a) (ast_view b)
if_is f t l r c a b e o p q = rw (e, o, p, q) (view_if t l r)

pub prefix_is : (f : Form) (o : Prefix) (x : Box Ast Global) (a : Ast) → f ≡ form.Prefix o x → a ≡ x.value → form_view f ≡ prefixed o (ast_view a)
prefix_is f o x a e p = rw (e, p) (view_prefix o x)

pub case_is : (f : Form) (subject : Box Ast Global) (arms : Vec Arm Global) (a : Ast) (xs : List Arm) → f ≡ form.Case subject arms → a ≡ subject.value → xs ≡ arms.items
    → form_view f ≡ case_of (ast_view a) (arms_from (map arm_view xs))
case_is f subject arms a xs e p q = rw (e, p, q) (view_case subject arms)

pub fold_is : (f : Form) (item total : String Global) (l s b : Box Ast Global) (i t : List ℕ) (over start body : Ast) → f ≡ form.Fold item total l s b
    → i ≡ string_bytes item → t ≡ string_bytes total → over ≡ l.value → start ≡ s.value → body ≡ b.value
    → form_view f ≡ fold i t (ast_view over) (ast_view start) (ast_view body)
fold_is f item total l s b i t over start body e m n o p q = rw (e, m, n, o, p, q) (view_fold item total l s b)
