-- The grammar of declarations: SpellsDecl d u says that the tokens u spell the declaration d. One case for each line:
--
--   decl := form ;
--   form := colset N = body [timed] | var N {, N} : N | val N = e | fun N ( N : N {, N : N} ) : N = e
--   body := unit | bool | int [with num .. num] | string | with N {"|" N}
--         | product N * N {* N} | list N | union alt {+ alt} | N
--   alt  := N [: N]
--
-- Source: own choice after CPN ML.
use Rattle.std.specs.Prelude.{ℕ, ℤ, Bool, List, Some, None, [], ◌∷◌, ◌++◌}
use Rattle.cpn_lex.specs.Token.{PlainToken}
use Rattle.cpn_lex.specs.declared.symbols.Symbol.TheVariants as sign
use Rattle.cpn_syntax.specs.Texts.{Text, Is, IsName, IsNumber}
use Rattle.cpn_trees.specs.Trees.{PlainAst}
use Rattle.cpn_syntax.specs.Inscriptions.{Spells}
use Rattle.cpn_syntax.specs.Phrases.{Optional, Each, Names}
use Rattle.cpn_trees.specs.DeclTrees.{PlainAlternative, PlainParameter, PlainBody, unit, bool, int, int_range, string, enumeration, product, list, union, named, colour_set, variables, value, function, PlainDecl, decl}

-- N [: N]
pub data SpellsAlternative : PlainAlternative → Text → Type 0 where
  bare_line : (n : PlainToken) {name : List ℕ} → IsName name n
      → SpellsAlternative (record { constructor = name; argument = None }) (n ∷ [])
  applied_line : (n t m : PlainToken) {name colour : List ℕ} → IsName name n → Is sign.Colon t → IsName colour m
      → SpellsAlternative (record { constructor = name; argument = Some colour }) (n ∷ t ∷ m ∷ [])

-- N : N
pub data SpellsParameter : PlainParameter → Text → Type 0 where
  parameter_line : (n t m : PlainToken) {name colour : List ℕ} → IsName name n → Is sign.Colon t → IsName colour m
      → SpellsParameter (record { name = name; colour = colour }) (n ∷ t ∷ m ∷ [])

pub data SpellsBody : PlainBody → Text → Type 0 where
  -- unit | bool | int | string
  unit_line : (t : PlainToken) → Is sign.Unit t → SpellsBody unit (t ∷ [])
  bool_line : (t : PlainToken) → Is sign.Bool t → SpellsBody bool (t ∷ [])
  int_line : (t : PlainToken) → Is sign.Int t → SpellsBody int (t ∷ [])
  string_line : (t : PlainToken) → Is sign.String t → SpellsBody string (t ∷ [])
  -- int with num .. num
  range_line : (t1 t2 m t3 n : PlainToken) {low high : ℤ} → Is sign.Int t1 → Is sign.With t2 → IsNumber low m → Is sign.DoubleDot t3 → IsNumber high n
      → SpellsBody (int_range low high) (t1 ∷ t2 ∷ m ∷ t3 ∷ n ∷ [])
  -- with N {"|" N}
  with_line : (t : PlainToken) {names : List (List ℕ)} (u : Text) → Is sign.With t → Names sign.Bar names u
      → SpellsBody (enumeration names) (t ∷ u)
  -- product N * N {* N}
  product_line : (t1 n t2 : PlainToken) {first : List ℕ} {names : List (List ℕ)} (u : Text)
      → Is sign.Product t1 → IsName first n → Is sign.Star t2 → Names sign.Star names u
      → SpellsBody (product (first ∷ names)) (t1 ∷ n ∷ t2 ∷ u)
  -- list N
  list_line : (t n : PlainToken) {name : List ℕ} → Is sign.List t → IsName name n → SpellsBody (list name) (t ∷ n ∷ [])
  -- union alt {+ alt}
  union_line : (t : PlainToken) {alternatives : List PlainAlternative} (u : Text) → Is sign.Union t → Each SpellsAlternative sign.Plus alternatives u
      → SpellsBody (union alternatives) (t ∷ u)
  -- N
  named_line : (n : PlainToken) {name : List ℕ} → IsName name n → SpellsBody (named name) (n ∷ [])

pub data SpellsForm : PlainDecl → Text → Type 0 where
  -- colset N = body [timed]
  colour_set_line : (t1 n t2 : PlainToken) {name : List ℕ} {body : PlainBody} {timed : Bool} (u v : Text)
      → Is sign.Colset t1 → IsName name n → Is sign.Equal t2 → SpellsBody body u → Optional sign.Timed timed v
      → SpellsForm (decl t1.at (colour_set name body timed)) (t1 ∷ n ∷ t2 ∷ u ++ v)
  -- var N {, N} : N
  variables_line : (t1 t2 n : PlainToken) {names : List (List ℕ)} {colour : List ℕ} (u : Text)
      → Is sign.Var t1 → Names sign.Comma names u → Is sign.Colon t2 → IsName colour n
      → SpellsForm (decl t1.at (variables names colour)) (t1 ∷ u ++ t2 ∷ n ∷ [])
  -- val N = e
  value_line : (t1 n t2 : PlainToken) {name : List ℕ} {a : PlainAst} (u : Text)
      → Is sign.Val t1 → IsName name n → Is sign.Equal t2 → Spells 0 a u
      → SpellsForm (decl t1.at (value name a)) (t1 ∷ n ∷ t2 ∷ u)
  -- fun N ( N : N {, N : N} ) : N = e
  function_line : (t1 n t2 t3 t4 m t5 : PlainToken) {name result : List ℕ} {parameters : List PlainParameter} {a : PlainAst} (u v : Text)
      → Is sign.Fun t1 → IsName name n → Is sign.OpenParenthesis t2 → Each SpellsParameter sign.Comma parameters u → Is sign.CloseParenthesis t3
      → Is sign.Colon t4 → IsName result m → Is sign.Equal t5 → Spells 0 a v
      → SpellsForm (decl t1.at (function name parameters result a)) (t1 ∷ n ∷ t2 ∷ u ++ t3 ∷ t4 ∷ m ∷ t5 ∷ v)

-- decl := form ;
pub data SpellsDecl : PlainDecl → Text → Type 0 where
  decl_line : (t : PlainToken) {d : PlainDecl} (u : Text) → SpellsForm d u → Is sign.Semicolon t → SpellsDecl d (u ++ t ∷ [])
