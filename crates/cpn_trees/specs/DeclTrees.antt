-- Trees of declarations as plain data, and what a tree of the program stands for.
use Rattle.std.specs.Prelude.{ℕ, ℤ, Bool, List, Option, option_map, map, string_bytes}
use Rattle.cpn_trees.specs.Trees.{PlainAst}
use Rattle.cpn_trees.specs.AstViews.{ast_view}
use Rattle.cpn_trees.specs.declared.declaration_trees.Alternative.{Alternative}
use Rattle.cpn_trees.specs.declared.declaration_trees.Body.{Body}
use Rattle.cpn_trees.specs.declared.declaration_trees.Decl.{Decl}
use Rattle.cpn_trees.specs.declared.declaration_trees.DeclForm.{DeclForm}
use Rattle.cpn_trees.specs.declared.declaration_trees.Parameter.{Parameter}

-- a constructor, and the colour set of its argument
pub record PlainAlternative : Type 0 where
  pub constructor : List ℕ
  pub argument : Option (List ℕ)

-- a parameter, and its colour set
pub record PlainParameter : Type 0 where
  pub name : List ℕ
  pub colour : List ℕ

pub data PlainBody : Type 0 where
  unit : PlainBody
  bool : PlainBody
  int : PlainBody
  int_range : ℤ → ℤ → PlainBody
  string : PlainBody
  enumeration : List (List ℕ) → PlainBody
  product : List (List ℕ) → PlainBody
  list : List ℕ → PlainBody
  union : List PlainAlternative → PlainBody
  named : List ℕ → PlainBody

pub data PlainDeclForm : Type 0 where
  colour_set : List ℕ → PlainBody → Bool → PlainDeclForm
  variables : List (List ℕ) → List ℕ → PlainDeclForm
  value : List ℕ → PlainAst → PlainDeclForm
  function : List ℕ → List PlainParameter → List ℕ → PlainAst → PlainDeclForm

-- A declaration: the offset of its first token, and its form.
pub data PlainDecl : Type 0 where
  decl : ℕ → PlainDeclForm → PlainDecl

abbrev pub alternative_view : Alternative → PlainAlternative
alternative_view a = record { constructor = string_bytes a.constructor; argument = option_map string_bytes a.argument }

abbrev pub parameter_view : Parameter → PlainParameter
parameter_view p = record { name = string_bytes p.name; colour = string_bytes p.colour }

abbrev pub body_view : Body → PlainBody
body_view Body.Unit = unit
body_view Body.Bool = bool
body_view Body.Int = int
body_view (Body.IntRange low high) = int_range low high
body_view Body.String = string
body_view (Body.Enumeration ns) = enumeration (map string_bytes ns.items)
body_view (Body.Product ns) = product (map string_bytes ns.items)
body_view (Body.List n) = list (string_bytes n)
body_view (Body.Union alternatives) = union (map alternative_view alternatives.items)
body_view (Body.Named n) = named (string_bytes n)

abbrev pub form_view : DeclForm → PlainDeclForm
form_view (DeclForm.ColourSet n b timed) = colour_set (string_bytes n) (body_view b) timed
form_view (DeclForm.Variables ns c) = variables (map string_bytes ns.items) (string_bytes c)
form_view (DeclForm.Value n a) = value (string_bytes n) (ast_view a)
form_view (DeclForm.Function n ps r a) = function (string_bytes n) (map parameter_view ps.items) (string_bytes r) (ast_view a)

abbrev pub decl_view : Decl → PlainDecl
decl_view d = decl d.at (form_view d.form)
