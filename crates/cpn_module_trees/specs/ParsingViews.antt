-- What the program keeps of a text that it has parsed, as plain data.
use Rattle.std.specs.Prelude.{◌≡◌, ◌≢◌, Result, Ok, Err}
use Rattle.cpn_lex.specs.declared.refusals.LexError.{LexError}
use Rattle.cpn_lex.specs.declared.refusals.LexError.TheVariants as lexing
use Rattle.cpn_syntax.specs.declared.refusals.SyntaxError.{SyntaxError}
use Rattle.cpn_syntax.specs.declared.refusals.SyntaxError.TheVariants as parsing
use Rattle.cpn_module_trees.specs.Parsing.{NoTree, lexical, syntactic, Parsing, parsed, unparsed}
use Rattle.cpn_module_trees.specs.declared.parsing.Unparsed.{Unparsed}
use Rattle.cpn_module_trees.specs.declared.parsing.Unparsed.TheVariants.{Lex, Syntax}

abbrev pub unparsed_view : Unparsed → NoTree
unparsed_view (Lex e) = lexical e
unparsed_view (Syntax e) = syntactic e

abbrev pub parsing_view : {X Y : Type 0} → (X → Y) → Result X Unparsed → Parsing Y
parsing_view view (Ok tree) = parsed (view tree)
parsing_view view (Err e) = unparsed (unparsed_view e)

-- a text that has no tokens, or whose tokens have no tree, for another cause than want of memory
abbrev pub IsUnlexed : {X : Type 0} → LexError → Result X Unparsed → Type 0
IsUnlexed e answer = (e ≢ lexing.Memory) × (answer ≡ Err (Lex e))

abbrev pub IsUnspelled : {X : Type 0} → SyntaxError → Result X Unparsed → Type 0
IsUnspelled e answer = (e ≢ parsing.Memory) × (answer ≡ Err (Syntax e))

-- the tree that a parser answers, or why it has none
abbrev pub IsSpelled : {X : Type 0} → Result X SyntaxError → Result X Unparsed → Type 0
IsSpelled (Ok tree) answer = answer ≡ Ok tree
IsSpelled (Err e) answer = IsUnspelled e answer
