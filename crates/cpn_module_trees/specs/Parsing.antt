-- What a text of the inscription language is lexed and parsed as: the one tree that it spells, or the first rule of the lexis
-- or of the grammar that it breaks. Source: own choice.
use Rattle.std.specs.Prelude.{◌≡◌, ◌≢◌, ℕ, ◌<◌, ◌≤◌, List, length}
use Rattle.cpn_lex.specs.declared.refusals.LexError.{LexError}
use Rattle.cpn_lex.specs.declared.refusals.LexError.TheVariants.{TooLong}
use Rattle.cpn_lex.specs.Token.{PlainToken}
use Rattle.cpn_lex.specs.Tokens.{Lexes}
use Rattle.cpn_lex.specs.Refusals.{Breaks}
use Rattle.cpn_syntax.specs.declared.refusals.SyntaxError.{SyntaxError}
use Rattle.cpn_syntax.specs.declared.refusals.SyntaxError.TheVariants.{Memory}
use Rattle.cpn_syntax.specs.Texts.{Text}
use Rattle.cpn_trees.specs.Trees.{PlainAst, PlainAsts}
use Rattle.cpn_trees.specs.DeclTrees.{PlainDecl}
use Rattle.cpn_trees.specs.Depth.{depth, deepest, decl_depth}
use Rattle.cpn_syntax.specs.Inscriptions.{Spells}
use Rattle.cpn_syntax.specs.Declarations.{SpellsDecl}
use Rattle.cpn_syntax.specs.Guards.{SpellsGuard}
use Rattle.cpn_syntax.specs.Delays.{SpellsDelay}
use Rattle.cpn_syntax.specs.Parses.{SpellsOnly, Refuses}

-- Why a text has no tree: it breaks a rule of the lexis; its tokens have no tree.
pub data NoTree : Type 0 where
  lexical : LexError → NoTree
  syntactic : SyntaxError → NoTree

-- A text's tree, or why it has none.
pub data Parsing (Tree : Type 0) : Type 0 where
  parsed : Tree → Parsing Tree
  unparsed : NoTree → Parsing Tree

-- the most bytes of a text
abbrev pub most_bytes : ℕ
most_bytes = 4096

-- how deep a tree may be
abbrev pub most_levels : ℕ
most_levels = 64

-- What comes of a text in a grammar, where the tokens that spell a tree are told: it is too long; or it breaks a rule of the
-- lexis; or it has tokens, and these are refused, or they spell just one tree, which is not too deep.
pub data ComesTo {Tree : Type 0} (Spelled : Tree → Text → Type 0) (levels : Tree → ℕ) (text : List ℕ) : Parsing Tree → Type 0 where
  too_long : most_bytes < length text → ComesTo Spelled levels text (unparsed (lexical TooLong))
  broken : (e : LexError) → length text ≤ most_bytes → Breaks text e → ComesTo Spelled levels text (unparsed (lexical e))
  not_spelled : (tokens : List PlainToken) (e : SyntaxError) → length text ≤ most_bytes → Lexes text tokens → e ≢ Memory → Refuses Spelled levels tokens e
      → ComesTo Spelled levels text (unparsed (syntactic e))
  spelled : (tokens : List PlainToken) (tree : Tree) → length text ≤ most_bytes → Lexes text tokens → SpellsOnly Spelled tokens tree → levels tree ≤ most_levels
      → ComesTo Spelled levels text (parsed tree)

-- Parsed as: it comes to this, and to nothing else.
pub record IsParsedAs {Tree : Type 0} (Spelled : Tree → Text → Type 0) (levels : Tree → ℕ) (text : List ℕ) (parsing : Parsing Tree) : Type 0 where
  pub comes : ComesTo Spelled levels text parsing
  pub only : (other : Parsing Tree) → ComesTo Spelled levels text other → other ≡ parsing

-- the same in each of the four grammars: of declarations; of the inscriptions of arcs and of initial markings; of guards; of
-- delays
abbrev pub IsDeclaration : List ℕ → Parsing PlainDecl → Type 0
IsDeclaration = IsParsedAs SpellsDecl decl_depth

abbrev pub IsInscription : List ℕ → Parsing PlainAst → Type 0
IsInscription = IsParsedAs (Spells 0) depth

abbrev pub IsGuard : List ℕ → Parsing PlainAsts → Type 0
IsGuard = IsParsedAs SpellsGuard deepest

abbrev pub IsDelay : List ℕ → Parsing PlainAst → Type 0
IsDelay = IsParsedAs SpellsDelay depth
