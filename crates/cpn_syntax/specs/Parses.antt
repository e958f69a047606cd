-- What a parser answers, whatever it reads: Spelled a u says that the tokens u spell the tree a. Source: own choice.
use Rattle.std.specs.Prelude.{ℕ, ◌≡◌, ◌<◌, ◌≤◌, ◌⊎◌, [], ◌∷◌, ◌++◌, Result, IfOk, IfErr, MatchResult}
use Rattle.cpn_lex.specs.Token.{PlainToken}
use Rattle.cpn_syntax.specs.declared.refusals.SyntaxError.{SyntaxError}
use Rattle.cpn_syntax.specs.declared.refusals.SyntaxError.TheVariants.{Memory, Unexpected, EndOfText, TooDeep}
use Rattle.cpn_syntax.specs.Texts.{Text}

-- the tokens spell the tree, and no other one
abbrev pub SpellsOnly : {A : Type 0} → (A → Text → Type 0) → Text → A → Type 0
SpellsOnly {A} Spelled tokens a = Spelled a tokens × ((b : A) → Spelled b tokens → b ≡ a)

-- some text that spells a tree begins with the tokens
abbrev pub CanBegin : {A : Type 0} → (A → Text → Type 0) → Text → Type 0
CanBegin {A} Spelled tokens = (w : Text) × (a : A) × Spelled a (tokens ++ w)

-- Why tokens are refused: no text goes on with the token, or more has to come, or their tree is too deep.
abbrev pub Refuses : {A : Type 0} → (A → Text → Type 0) → (A → ℕ) → Text → SyntaxError → Type 0
Refuses Spelled depth tokens Memory = Unit {0}
Refuses Spelled depth tokens (Unexpected at) =
    (before : Text) × (t : PlainToken) × (after : Text) × (tokens ≡ before ++ t ∷ after) × (at ≡ t.at)
    × CanBegin Spelled before × (CanBegin Spelled (before ++ t ∷ []) → ⊥)
Refuses {A} Spelled depth tokens EndOfText = CanBegin Spelled tokens × ((a : A) → Spelled a tokens → ⊥)
Refuses {A} Spelled depth tokens TooDeep = (a : A) × SpellsOnly Spelled tokens a × (64 < depth a)

-- The answer of a parser for the tokens; `view found` is the tree that the program's tree stands for.
pub record Parses {Found Tree : Type 0} (view : Found → Tree) (Spelled : Tree → Text → Type 0) (depth : Tree → ℕ) (tokens : Text) (answer : Result Found SyntaxError) : Type 0 where
  -- a tree that it answers is the one that they spell, and not too deep
  pub tree : IfOk answer (λ found. Spelled (view found) tokens)
  pub shallow : IfOk answer (λ found. depth (view found) ≤ 64)
  pub only : IfOk answer (λ found. (other : Tree) → Spelled other tokens → other ≡ view found)
  -- an error that it answers is why they are refused
  pub refused : IfErr answer (λ e. Refuses Spelled depth tokens e)
  -- where they spell a tree, the answer is that tree or that it is too deep, unless memory runs out
  pub complete : (spelled : Tree) → Spelled spelled tokens → depth spelled ≤ 64 → IfErr answer (λ e. e ≡ Memory)
  pub deep : (spelled : Tree) → Spelled spelled tokens → 64 < depth spelled → MatchResult answer (λ _. ⊥) (λ e. (e ≡ TooDeep) ⊎ (e ≡ Memory))
