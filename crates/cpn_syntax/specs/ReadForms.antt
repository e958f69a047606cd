-- Which tokens were read where forms are open. Source: own choice.
use Rattle.std.specs.Prelude.{ℕ, ℤ, ◌≡◌, ◌≤◌, List, [], ◌∷◌, ◌++◌}
use Rattle.cpn_lex.specs.Token.{PlainToken}
use Rattle.cpn_lex.specs.declared.symbols.Symbol.{Symbol}
use Rattle.cpn_lex.specs.declared.symbols.Symbol.TheVariants as sign
use Rattle.cpn_trees.specs.declared.operators.Infix.{Infix}
use Rattle.cpn_trees.specs.declared.operators.Prefix.TheVariants as prefix
use Rattle.cpn_syntax.specs.Texts.{Text, Is, IsName, IsNumber, offset_of}
use Rattle.cpn_syntax.specs.Patterns.{SpellsPat}
use Rattle.cpn_syntax.specs.Inscriptions.{sign_of, precedence, left, Spells}
use Rattle.cpn_trees.specs.Trees.{PlainPat, PlainAst}
use Rattle.cpn_syntax.specs.OpenForms.{PlainOpen, condition, consequence, alternative, subject, arm, fold_list, fold_start, fold_body, terms, behind, front, group, items, arguments, local, body, Opens, wants}
use Rattle.cpn_syntax.specs.Completions.{Closing, Wants, Has}

-- parts, and the sign behind each
pub data Before (l : ℕ) (s : Symbol) : List PlainAst → Text → Type 0 where
  no_part : Before l s [] []
  part : (t : PlainToken) {a : PlainAst} {rest : List PlainAst} (u v : Text) → Spells l a u → Is s t → Before l s rest v
      → Before l s (a ∷ rest) (u ++ t ∷ v)

-- arms, and the bar behind each
pub data ArmsBefore : List (PlainPat × PlainAst) → Text → Type 0 where
  no_arm : ArmsBefore [] []
  one_arm : (t1 t2 : PlainToken) {p : PlainPat} {a : PlainAst} {rest : List (PlainPat × PlainAst)} (u v w : Text)
      → SpellsPat 0 p u → Is sign.Arrow t1 → Spells 1 a v → Is sign.Bar t2 → ArmsBefore rest w
      → ArmsBefore ((p, a) ∷ rest) (u ++ t1 ∷ v ++ t2 ∷ w)

-- values with their names
pub data LocalsBefore : List (List ℕ × PlainAst) → Text → Type 0 where
  no_local : LocalsBefore [] []
  one_local : (t1 m t2 : PlainToken) {n : List ℕ} {a : PlainAst} {rest : List (List ℕ × PlainAst)} (u v : Text)
      → Is sign.Val t1 → IsName n m → Is sign.Equal t2 → Spells 0 a u → LocalsBefore rest v
      → LocalsBefore ((n, a) ∷ rest) (t1 ∷ m ∷ t2 ∷ u ++ v)

-- the tokens of an open form
pub data Opening : PlainOpen → Text → Type 0 where
  read_if : (t : PlainToken) → Is sign.If t → Opening (condition t.at) (t ∷ [])
  read_then : (t1 t2 : PlainToken) {c : PlainAst} (u : Text) → Is sign.If t1 → Spells 0 c u → Is sign.Then t2
      → Opening (consequence t1.at c) (t1 ∷ u ++ t2 ∷ [])
  read_else : (t1 t2 t3 : PlainToken) {c a : PlainAst} (u v : Text) → Is sign.If t1 → Spells 0 c u → Is sign.Then t2 → Spells 0 a v → Is sign.Else t3
      → Opening (alternative t1.at c a) (t1 ∷ u ++ t2 ∷ v ++ t3 ∷ [])
  read_case : (t : PlainToken) → Is sign.Case t → Opening (subject t.at) (t ∷ [])
  read_arrow : (t1 t2 t3 : PlainToken) {a : PlainAst} {arms : List (PlainPat × PlainAst)} {p : PlainPat} (u v w : Text)
      → Is sign.Case t1 → Spells 0 a u → Is sign.Of t2 → ArmsBefore arms v → SpellsPat 0 p w → Is sign.Arrow t3
      → Opening (arm t1.at a arms p) (t1 ∷ u ++ t2 ∷ v ++ w ++ t3 ∷ [])
  read_over : (t1 n1 t2 n2 t3 : PlainToken) {item total : List ℕ}
      → Is sign.Foldl t1 → IsName item n1 → Is sign.Comma t2 → IsName total n2 → Is sign.Over t3
      → Opening (fold_list t1.at item total) (t1 ∷ n1 ∷ t2 ∷ n2 ∷ t3 ∷ [])
  read_from : (t1 n1 t2 n2 t3 t4 : PlainToken) {item total : List ℕ} {a : PlainAst} (u : Text)
      → Is sign.Foldl t1 → IsName item n1 → Is sign.Comma t2 → IsName total n2 → Is sign.Over t3 → Spells 0 a u → Is sign.From t4
      → Opening (fold_start t1.at item total a) (t1 ∷ n1 ∷ t2 ∷ n2 ∷ t3 ∷ u ++ t4 ∷ [])
  read_do : (t1 n1 t2 n2 t3 t4 t5 : PlainToken) {item total : List ℕ} {a s : PlainAst} (u v : Text)
      → Is sign.Foldl t1 → IsName item n1 → Is sign.Comma t2 → IsName total n2 → Is sign.Over t3 → Spells 0 a u → Is sign.From t4 → Spells 0 s v → Is sign.Do t5
      → Opening (fold_body t1.at item total a s) (t1 ∷ n1 ∷ t2 ∷ n2 ∷ t3 ∷ u ++ t4 ∷ v ++ t5 ∷ [])
  read_terms : {a : PlainAst} {rest : List PlainAst} (u : Text) → Before 3 sign.DoublePlus (a ∷ rest) u
      → Opening (terms (offset_of u) (a ∷ rest)) u
  read_operator : (t : PlainToken) (o : Infix) {a : PlainAst} (u : Text) → Spells (left o) a u → Is (sign_of o) t
      → Opening (behind (offset_of u) o t.at a) (u ++ t ∷ [])
  read_not : (t : PlainToken) → Is sign.Not t → Opening (front t.at prefix.Not) (t ∷ [])
  read_negate : (t : PlainToken) → Is sign.Tilde t → Opening (front t.at prefix.Negate) (t ∷ [])
  read_component : (t n : PlainToken) {z : ℤ} → Is sign.Hash t → IsNumber z n → Opening (front t.at (prefix.Component z)) (t ∷ n ∷ [])
  read_parenthesis : (t : PlainToken) {parts : List PlainAst} (u : Text) → Is sign.OpenParenthesis t → Before 0 sign.Comma parts u
      → Opening (group t.at parts) (t ∷ u)
  read_bracket : (t : PlainToken) {parts : List PlainAst} (u : Text) → Is sign.OpenBracket t → Before 0 sign.Comma parts u
      → Opening (items t.at parts) (t ∷ u)
  read_name : (t1 t2 : PlainToken) {n : List ℕ} {parts : List PlainAst} (u : Text) → IsName n t1 → Is sign.OpenParenthesis t2 → Before 0 sign.Comma parts u
      → Opening (arguments t1.at n parts) (t1 ∷ t2 ∷ u)
  read_equal : (t t1 m t2 : PlainToken) {n : List ℕ} {locals : List (List ℕ × PlainAst)} (u : Text)
      → Is sign.Let t → LocalsBefore locals u → Is sign.Val t1 → IsName n m → Is sign.Equal t2
      → Opening (local t.at locals n) (t ∷ u ++ t1 ∷ m ∷ t2 ∷ [])
  read_in : (t1 t2 : PlainToken) {local : List ℕ × PlainAst} {rest : List (List ℕ × PlainAst)} (u : Text)
      → Is sign.Let t1 → LocalsBefore (local ∷ rest) u → Is sign.In t2
      → Opening (body t1.at (local ∷ rest)) (t1 ∷ u ++ t2 ∷ [])

-- how tightly an open form binds at most, once it is complete
abbrev pub becomes : PlainOpen → ℕ
becomes (condition at) = 1
becomes (consequence at c) = 1
becomes (alternative at c a) = 1
becomes (subject at) = 0
becomes (arm at a arms p) = 0
becomes (fold_list at item total) = 1
becomes (fold_start at item total a) = 1
becomes (fold_body at item total a s) = 1
becomes (terms at parts) = 2
becomes (behind at o s a) = precedence o
becomes (front at p) = 11
becomes (group at parts) = 11
becomes (items at parts) = 11
becomes (arguments at n parts) = 11
becomes (local at locals n) = 11
becomes (body at locals) = 11

-- the tokens of the open forms, the outermost first
abbrev pub ReadForms : Opens → Text → Type 0
ReadForms [] before = before ≡ []
ReadForms (form ∷ below) before = (p : Text) × (u : Text) × (before ≡ p ++ u) × Opening form u × (wants below ≤ becomes form) × ReadForms below p

-- Where the reading stands: a part is read next, or a part was read, which begins at an offset and binds so tightly.
pub data State : Type 0 where
  want : Opens → State
  have : ℕ → ℕ → PlainAst → Opens → State

-- the tokens that were read
abbrev pub Read : State → Text → Type 0
Read (want st) before = ReadForms st before
Read (have at k c st) before = (p : Text) × (u : Text) × (before ≡ p ++ u) × Spells k c u × (at ≡ offset_of u) × (wants st ≤ k) × ReadForms st p

-- the tokens that may come, what stands behind the inscription, and the inscription
abbrev pub Takes : State → Closing × PlainAst → Text → Type 0
Takes (want st) r w = Wants r.0 st r.1 w
Takes (have at k c st) r w = Has r.0 at k c st r.1 w

-- a whole inscription
abbrev pub IsInscription : Text → Type 0
IsInscription w = (a : PlainAst) × Spells 0 a w
