-- The texts of monitors. Source: own choice.
use Rattle.std.specs.Prelude.{ℕ, List}
use Rattle.cpn_definitions.specs.Inscription.{PlainExpr}
use Rattle.cpn_text_refusals.specs.Refusals.{no_tree, typing}
use Rattle.cpn_module_trees.specs.Parsing.{Parsing, parsed, unparsed}
use Rattle.cpn_trees.specs.Trees.{PlainAst}
use Rattle.cpn_typing.specs.Names.{Declared, Checked, ok}
use Rattle.cpn_typing.specs.Names as checks
use Rattle.cpn_monitor_texts.specs.Reading.{bad_text, Reading, read, refused, ◌>>=◌}
use Rattle.cpn_monitor_texts.specs.Variables.{value_over}

-- the tree of the text of the monitor of a number, or the refusal of the text
abbrev pub tree_of : {A : Type 0} → ℕ → Parsing A → Reading A
tree_of i (parsed tree) = read tree
tree_of i (unparsed r) = refused (bad_text i (no_tree r))

-- what is accepted of it, or the refusal by a rule of typing
abbrev pub accepted_of : {A : Type 0} → ℕ → Checked A → Reading A
accepted_of i (ok x) = read x
accepted_of i (checks.refused r) = refused (bad_text i (typing r))

-- The inscription of the monitor of a number over the variables of its transition, or the first refusal: of the lexis or of the
-- grammar; by a rule of typing; of a variable that is none of these.
unfoldable pub inscription_of : Declared → ℕ → List ℕ → Parsing PlainAst → Reading PlainExpr
inscription_of ds i vars text = do
  tree ← tree_of i text
  accepted_of i (value_over ds vars tree)
