-- The names and the texts of edits. Source: own choice.
use Rattle.std.specs.Prelude.{ℕ, List, Option, Some, None}
use Rattle.cpn_definitions.specs.Colour.{PlainColour}
use Rattle.cpn_definitions.specs.Inscription.{PlainExpr, ArcInscription}
use Rattle.cpn_definitions.specs.Outcome.{Outcome, gives, faults, no_meaning}
use Rattle.cpn_definitions.specs.Terms.{PlainTerm}
use Rattle.cpn_document.specs.declared.pointers.Pointer.{Pointer}
use Rattle.cpn_text_refusals.specs.Refusals.{no_tree, typing}
use Rattle.cpn_module_trees.specs.Parsing.{Parsing, parsed, unparsed}
use Rattle.cpn_readings.specs.Relations.{just}
use Rattle.cpn_trees.specs.Trees.{PlainAst, PlainAsts}
use Rattle.cpn_typing.specs.GuardsAndDelays.{checked_guard}
use Rattle.cpn_typing.specs.Multisets.{checked_init}
use Rattle.cpn_typing.specs.Names.{Declared, Checked, ok}
use Rattle.cpn_typing.specs.Names as checks
use Rattle.cpn_edit_texts.specs.Reading.{unknown_name, bad_text, faulty, Reading, read, refused, ◌>>=◌}

-- what an edit names, by its number, or the refusal where that is not there
abbrev pub known : Pointer → Option ℕ → Reading ℕ
known at None = refused (unknown_name at)
known at (Some k) = read k

-- the tree of a text, or the refusal of the text
abbrev pub tree_at : {A : Type 0} → Pointer → Parsing A → Reading A
tree_at at (parsed tree) = read tree
tree_at at (unparsed r) = refused (bad_text at (no_tree r))

-- what is accepted of it, or the refusal by a rule of typing
abbrev pub accepted_at : {A : Type 0} → Pointer → Checked A → Reading A
accepted_at at (ok x) = read x
accepted_at at (checks.refused r) = refused (bad_text at (typing r))

-- the conjuncts of the guard that a text is
unfoldable pub guard_of : Declared → Pointer → Parsing PlainAsts → Reading (List PlainExpr)
guard_of ds at text = do
  tree ← tree_at at text
  accepted_at at (checked_guard ds tree)

-- the initial marking that a text is, at a place of a colour set
unfoldable pub initial_of : Declared → Pointer → PlainColour → Parsing PlainAst → Reading ArcInscription
initial_of ds at colour text = do
  tree ← tree_at at text
  accepted_at at (checked_init ds colour tree)

-- its terms, or its fault; one without a meaning has no reading
abbrev pub terms_so : Pointer → Outcome (List PlainTerm) → Reading (List PlainTerm) → Type 0
terms_so at (gives terms) reading = just (read terms) reading
terms_so at (faults fault) reading = just (refused (faulty at fault)) reading
terms_so at no_meaning reading = ⊥
