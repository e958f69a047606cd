-- The plain inscription that an inscription of the program stands for.
use Rattle.std.specs.Prelude.{ℕ, List, [], ◌∷◌, map, string_bytes}
use Rattle.std.specs.Global.{Global}
use Rattle.std.specs.declared.vec.Vec.{Vec}
use Rattle.cpn_trees.specs.Trees.{PlainPat, PlainAst, ast, PlainForm, number, text, truth, empty, time, name, call, unit, tuple, list, let_in, prefixed, infixed, stamped, sum, if_else, case_of, fold, PlainAsts, asts_from, PlainArms, no_arm, more_arms, PlainLocals, no_local, more_locals}
use Rattle.cpn_trees.specs.PatViews.{pat_view}
use Rattle.cpn_trees.specs.declared.trees.Ast.{Ast, fold-Ast}
use Rattle.cpn_trees.specs.declared.trees.Arm.{Arm, fold-Arm}
use Rattle.cpn_trees.specs.declared.trees.LocalValue.{LocalValue, fold-LocalValue}
use Rattle.cpn_trees.specs.declared.trees.Form.{Form, fold-Form}
use Rattle.cpn_trees.specs.declared.trees.Form.TheOpen.{Form-F, Ast-F, Arm-F, LocalValue-F}

abbrev pub arms_from : List (PlainPat × PlainAst) → PlainArms
arms_from [] = no_arm
arms_from (a ∷ rest) = more_arms a.0 a.1 (arms_from rest)

abbrev pub locals_from : List (List ℕ × PlainAst) → PlainLocals
locals_from [] = no_local
locals_from (a ∷ rest) = more_locals a.0 a.1 (locals_from rest)

-- one level, with each inscription inside already seen as its plain one
abbrev pub form_step : Form-F PlainForm (PlainPat × PlainAst) PlainAst (List ℕ × PlainAst) → PlainForm
form_step (Form-F.Number z) = number z
form_step (Form-F.Text s) = text (string_bytes s)
form_step (Form-F.Truth b) = truth b
form_step Form-F.Empty = empty
form_step Form-F.Time = time
form_step (Form-F.Name s) = name (string_bytes s)
form_step (Form-F.Call n parts) = call (string_bytes n) (asts_from parts.items)
form_step Form-F.Unit = unit
form_step (Form-F.Tuple parts) = tuple (asts_from parts.items)
form_step (Form-F.List parts) = list (asts_from parts.items)
form_step (Form-F.Let values body) = let_in (locals_from values.items) body.value
form_step (Form-F.Prefix o a) = prefixed o a.value
form_step (Form-F.Infix o s a b) = infixed o s a.value b.value
form_step (Form-F.Stamped a s z) = stamped a.value s z
form_step (Form-F.Sum parts) = sum (asts_from parts.items)
form_step (Form-F.If c a b) = if_else c.value a.value b.value
form_step (Form-F.Case a arms) = case_of a.value (arms_from arms.items)
form_step (Form-F.Fold item total a s b) = fold (string_bytes item) (string_bytes total) a.value s.value b.value

abbrev pub ast_step : Ast-F PlainForm (PlainPat × PlainAst) PlainAst (List ℕ × PlainAst) → PlainAst
ast_step a = ast a.at a.form

abbrev pub arm_step : Arm-F PlainForm (PlainPat × PlainAst) PlainAst (List ℕ × PlainAst) → PlainPat × PlainAst
arm_step a = (pat_view a.pattern, a.result)

abbrev pub local_step : LocalValue-F PlainForm (PlainPat × PlainAst) PlainAst (List ℕ × PlainAst) → List ℕ × PlainAst
local_step a = (string_bytes a.name, a.value)

abbrev pub ast_view : Ast → PlainAst
ast_view = fold-Ast PlainForm (PlainPat × PlainAst) PlainAst (List ℕ × PlainAst) form_step arm_step ast_step local_step

abbrev pub arm_view : Arm → PlainPat × PlainAst
arm_view = fold-Arm PlainForm (PlainPat × PlainAst) PlainAst (List ℕ × PlainAst) form_step arm_step ast_step local_step

abbrev pub local_view : LocalValue → List ℕ × PlainAst
local_view = fold-LocalValue PlainForm (PlainPat × PlainAst) PlainAst (List ℕ × PlainAst) form_step arm_step ast_step local_step

abbrev pub form_view : Form → PlainForm
form_view = fold-Form PlainForm (PlainPat × PlainAst) PlainAst (List ℕ × PlainAst) form_step arm_step ast_step local_step

-- the inscriptions of a list
abbrev pub asts_view : Vec Ast Global → PlainAsts
asts_view parts = asts_from (map ast_view parts.items)
