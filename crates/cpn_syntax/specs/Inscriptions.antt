-- The grammar of inscriptions: Spells l a u says that the tokens u spell the inscription a, which binds at least
-- as tightly as l. One case for each line:
--
--   e    := if e then e else e | case e of arm {"|" arm} | foldl N , N over e from e do e | sum
--   arm  := pat => e
--   sum  := late {++ late}                late := term [@+ or | @ num]
--   term := or [` or]
--   or   := and {orelse and}              and  := cmp {andalso cmp}
--   cmp  := cons [(= | <> | < | <= | > | >=) cons]
--   cons := add [(:: | ^^) cons]
--   add  := mul {(+ | - | ^) mul}         mul  := pre {(* | div | mod) pre}
--   pre  := not pre | ~ pre | # num pre | atom
--   atom := num | string | true | false | empty | time | N | N ( e {, e} )
--         | ( ) | ( e {, e} ) | [ [e {, e}] ]
--         | let val N = e {val N = e} in e end
--
-- The precedences are 0 for any inscription, 1 for one behind which a bar begins the next arm of a `case` around
-- it, 2 sum, 3 late, 4 term, 5 or, 6 and, 7 cmp, 8 cons, 9 add, 10 mul, 11 pre. A repetition leans to the left.
-- Parentheses around one inscription add nothing to its tree. An operator between two operands, and the `@` of a time
-- stamp, have the offset of their sign in the tree. Source: own choice after CPN ML.
use Rattle.std.specs.Prelude.{ℕ, ℤ, ◌≤◌, true, false, List, [], ◌∷◌, ◌++◌}
use Rattle.cpn_lex.specs.Token.{PlainToken}
use Rattle.cpn_lex.specs.declared.symbols.Symbol.{Symbol}
use Rattle.cpn_lex.specs.declared.symbols.Symbol.TheVariants as sign
use Rattle.cpn_trees.specs.declared.operators.Infix.{Infix}
use Rattle.cpn_trees.specs.declared.operators.Infix.TheVariants as op
use Rattle.cpn_trees.specs.declared.operators.Prefix.TheVariants as front
use Rattle.cpn_syntax.specs.Texts.{Text, Is, IsName, IsNumber, IsText, offset_of}
use Rattle.cpn_syntax.specs.Patterns.{SpellsPat}
use Rattle.cpn_trees.specs.Trees.{PlainPat, PlainAst, ast, number, text, truth, empty, time, name, call, unit, tuple, list, let_in, prefixed, infixed, stamped, sum, if_else, case_of, fold, PlainAsts, no_ast, more_asts, PlainArms, no_arm, more_arms, PlainLocals, no_local, more_locals}

-- the lines of the infix operators: what each is written as, its precedence, and those of its operands
abbrev pub sign_of : Infix → Symbol
sign_of op.Later = sign.AtPlus
sign_of op.Times = sign.Backtick
sign_of op.Orelse = sign.Orelse
sign_of op.Andalso = sign.Andalso
sign_of op.Equal = sign.Equal
sign_of op.NotEqual = sign.NotEqual
sign_of op.Less = sign.Less
sign_of op.LessOrEqual = sign.LessOrEqual
sign_of op.Greater = sign.Greater
sign_of op.GreaterOrEqual = sign.GreaterOrEqual
sign_of op.Cons = sign.DoubleColon
sign_of op.Append = sign.DoubleCaret
sign_of op.Add = sign.Plus
sign_of op.Subtract = sign.Minus
sign_of op.Concatenate = sign.Caret
sign_of op.Multiply = sign.Star
sign_of op.Div = sign.Div
sign_of op.Mod = sign.Mod

abbrev pub precedence : Infix → ℕ
precedence op.Later = 3
precedence op.Times = 4
precedence op.Orelse = 5
precedence op.Andalso = 6
precedence op.Equal = 7
precedence op.NotEqual = 7
precedence op.Less = 7
precedence op.LessOrEqual = 7
precedence op.Greater = 7
precedence op.GreaterOrEqual = 7
precedence op.Cons = 8
precedence op.Append = 8
precedence op.Add = 9
precedence op.Subtract = 9
precedence op.Concatenate = 9
precedence op.Multiply = 10
precedence op.Div = 10
precedence op.Mod = 10

abbrev pub left : Infix → ℕ
left op.Later = 4
left op.Times = 5
left op.Orelse = 5
left op.Andalso = 6
left op.Equal = 8
left op.NotEqual = 8
left op.Less = 8
left op.LessOrEqual = 8
left op.Greater = 8
left op.GreaterOrEqual = 8
left op.Cons = 9
left op.Append = 9
left op.Add = 9
left op.Subtract = 9
left op.Concatenate = 9
left op.Multiply = 10
left op.Div = 10
left op.Mod = 10

abbrev pub right : Infix → ℕ
right op.Later = 5
right op.Times = 5
right op.Orelse = 6
right op.Andalso = 7
right op.Equal = 8
right op.NotEqual = 8
right op.Less = 8
right op.LessOrEqual = 8
right op.Greater = 8
right op.GreaterOrEqual = 8
right op.Cons = 8
right op.Append = 8
right op.Add = 10
right op.Subtract = 10
right op.Concatenate = 10
right op.Multiply = 11
right op.Div = 11
right op.Mod = 11

mutual
  pub data Spells : ℕ → PlainAst → Text → Type 0 where
    -- e := if e then e else e
    if_line : {l : ℕ} (t1 t2 t3 : PlainToken) {c a b : PlainAst} (u v w : Text) → l ≤ 1
        → Is sign.If t1 → Spells 0 c u → Is sign.Then t2 → Spells 0 a v → Is sign.Else t3 → Spells l b w
        → Spells l (ast t1.at (if_else c a b)) (t1 ∷ u ++ t2 ∷ v ++ t3 ∷ w)
    -- e := case e of arm {"|" arm}
    case_line : (t1 t2 : PlainToken) {a : PlainAst} {arms : PlainArms} (u v : Text)
        → Is sign.Case t1 → Spells 0 a u → Is sign.Of t2 → SpellsArms arms v
        → Spells 0 (ast t1.at (case_of a arms)) (t1 ∷ u ++ t2 ∷ v)
    -- e := foldl N , N over e from e do e
    fold_line : {l : ℕ} (t1 n1 t2 n2 t3 t4 t5 : PlainToken) {item total : List ℕ} {a s b : PlainAst} (u v w : Text) → l ≤ 1
        → Is sign.Foldl t1 → IsName item n1 → Is sign.Comma t2 → IsName total n2 → Is sign.Over t3 → Spells 0 a u
        → Is sign.From t4 → Spells 0 s v → Is sign.Do t5 → Spells l b w
        → Spells l (ast t1.at (fold item total a s b)) (t1 ∷ n1 ∷ t2 ∷ n2 ∷ t3 ∷ u ++ t4 ∷ v ++ t5 ∷ w)
    -- sum := late ++ late {++ late}
    sum_line : {l : ℕ} {a : PlainAst} {rest : PlainAsts} (u v : Text) → l ≤ 2
        → Spells 3 a u → SpellsTerms rest v
        → Spells l (ast (offset_of u) (sum (more_asts a rest))) (u ++ v)
    -- late := term @ num
    stamp_line : {l : ℕ} (t n : PlainToken) {a : PlainAst} {z : ℤ} (u : Text) → l ≤ 3
        → Spells 4 a u → Is sign.At t → IsNumber z n
        → Spells l (ast (offset_of u) (stamped a t.at z)) (u ++ t ∷ n ∷ [])
    -- the lines from late to mul, by their operators
    infix_line : {l : ℕ} (t : PlainToken) {a b : PlainAst} (u v : Text) (o : Infix) → l ≤ precedence o
        → Spells (left o) a u → Is (sign_of o) t → Spells (right o) b v
        → Spells l (ast (offset_of u) (infixed o t.at a b)) (u ++ t ∷ v)
    -- pre := not pre
    not_line : {l : ℕ} (t : PlainToken) {a : PlainAst} (u : Text) → l ≤ 11 → Is sign.Not t → Spells 11 a u
        → Spells l (ast t.at (prefixed front.Not a)) (t ∷ u)
    -- pre := ~ pre
    negate_line : {l : ℕ} (t : PlainToken) {a : PlainAst} (u : Text) → l ≤ 11 → Is sign.Tilde t → Spells 11 a u
        → Spells l (ast t.at (prefixed front.Negate a)) (t ∷ u)
    -- pre := # num pre
    component_line : {l : ℕ} (t n : PlainToken) {a : PlainAst} {z : ℤ} (u : Text) → l ≤ 11
        → Is sign.Hash t → IsNumber z n → Spells 11 a u
        → Spells l (ast t.at (prefixed (front.Component z) a)) (t ∷ n ∷ u)
    -- atom := num
    number_line : {l : ℕ} (t : PlainToken) {z : ℤ} → l ≤ 11 → IsNumber z t → Spells l (ast t.at (number z)) (t ∷ [])
    -- atom := string
    text_line : {l : ℕ} (t : PlainToken) {bytes : List ℕ} → l ≤ 11 → IsText bytes t → Spells l (ast t.at (text bytes)) (t ∷ [])
    -- atom := true | false | empty | time
    true_line : {l : ℕ} (t : PlainToken) → l ≤ 11 → Is sign.True t → Spells l (ast t.at (truth true)) (t ∷ [])
    false_line : {l : ℕ} (t : PlainToken) → l ≤ 11 → Is sign.False t → Spells l (ast t.at (truth false)) (t ∷ [])
    empty_line : {l : ℕ} (t : PlainToken) → l ≤ 11 → Is sign.Empty t → Spells l (ast t.at empty) (t ∷ [])
    time_line : {l : ℕ} (t : PlainToken) → l ≤ 11 → Is sign.Time t → Spells l (ast t.at time) (t ∷ [])
    -- atom := N
    name_line : {l : ℕ} (t : PlainToken) {n : List ℕ} → l ≤ 11 → IsName n t → Spells l (ast t.at (name n)) (t ∷ [])
    -- atom := N ( e {, e} )
    call_line : {l : ℕ} (t t1 t2 : PlainToken) {n : List ℕ} {parts : PlainAsts} (u : Text) → l ≤ 11
        → IsName n t → Is sign.OpenParenthesis t1 → SpellsParts parts u → Is sign.CloseParenthesis t2
        → Spells l (ast t.at (call n parts)) (t ∷ t1 ∷ u ++ t2 ∷ [])
    -- atom := ( )
    unit_line : {l : ℕ} (t1 t2 : PlainToken) → l ≤ 11 → Is sign.OpenParenthesis t1 → Is sign.CloseParenthesis t2
        → Spells l (ast t1.at unit) (t1 ∷ t2 ∷ [])
    -- atom := ( e )
    group_line : {l : ℕ} (t1 t2 : PlainToken) {a : PlainAst} (u : Text) → l ≤ 11
        → Is sign.OpenParenthesis t1 → Spells 0 a u → Is sign.CloseParenthesis t2
        → Spells l a (t1 ∷ u ++ t2 ∷ [])
    -- atom := ( e , e {, e} )
    tuple_line : {l : ℕ} (t1 t2 t3 : PlainToken) {a : PlainAst} {parts : PlainAsts} (u v : Text) → l ≤ 11
        → Is sign.OpenParenthesis t1 → Spells 0 a u → Is sign.Comma t2 → SpellsParts parts v → Is sign.CloseParenthesis t3
        → Spells l (ast t1.at (tuple (more_asts a parts))) (t1 ∷ u ++ t2 ∷ v ++ t3 ∷ [])
    -- atom := [ ]
    no_items_line : {l : ℕ} (t1 t2 : PlainToken) → l ≤ 11 → Is sign.OpenBracket t1 → Is sign.CloseBracket t2
        → Spells l (ast t1.at (list no_ast)) (t1 ∷ t2 ∷ [])
    -- atom := [ e {, e} ]
    items_line : {l : ℕ} (t1 t2 : PlainToken) {parts : PlainAsts} (u : Text) → l ≤ 11
        → Is sign.OpenBracket t1 → SpellsParts parts u → Is sign.CloseBracket t2
        → Spells l (ast t1.at (list parts)) (t1 ∷ u ++ t2 ∷ [])
    -- atom := let val N = e {val N = e} in e end
    let_line : {l : ℕ} (t1 t2 t3 : PlainToken) {locals : PlainLocals} {a : PlainAst} (u v : Text) → l ≤ 11
        → Is sign.Let t1 → SpellsLocals locals u → Is sign.In t2 → Spells 0 a v → Is sign.End t3
        → Spells l (ast t1.at (let_in locals a)) (t1 ∷ u ++ t2 ∷ v ++ t3 ∷ [])

  -- e {, e}
  pub data SpellsParts : PlainAsts → Text → Type 0 where
    last_part : {a : PlainAst} (u : Text) → Spells 0 a u → SpellsParts (more_asts a no_ast) u
    next_part : (t : PlainToken) {a : PlainAst} {parts : PlainAsts} (u v : Text) → Spells 0 a u → Is sign.Comma t → SpellsParts parts v
        → SpellsParts (more_asts a parts) (u ++ t ∷ v)

  -- ++ late {++ late}
  pub data SpellsTerms : PlainAsts → Text → Type 0 where
    last_term : (t : PlainToken) {a : PlainAst} (u : Text) → Is sign.DoublePlus t → Spells 3 a u → SpellsTerms (more_asts a no_ast) (t ∷ u)
    next_term : (t : PlainToken) {a : PlainAst} {terms : PlainAsts} (u v : Text) → Is sign.DoublePlus t → Spells 3 a u → SpellsTerms terms v
        → SpellsTerms (more_asts a terms) (t ∷ u ++ v)

  -- arm {"|" arm}: a bar goes on the innermost `case` that it can
  pub data SpellsArms : PlainArms → Text → Type 0 where
    last_arm : (t : PlainToken) {p : PlainPat} {a : PlainAst} (u v : Text) → SpellsPat 0 p u → Is sign.Arrow t → Spells 0 a v
        → SpellsArms (more_arms p a no_arm) (u ++ t ∷ v)
    next_arm : (t1 t2 : PlainToken) {p : PlainPat} {a : PlainAst} {arms : PlainArms} (u v w : Text)
        → SpellsPat 0 p u → Is sign.Arrow t1 → Spells 1 a v → Is sign.Bar t2 → SpellsArms arms w
        → SpellsArms (more_arms p a arms) (u ++ t1 ∷ v ++ t2 ∷ w)

  -- val N = e {val N = e}
  pub data SpellsLocals : PlainLocals → Text → Type 0 where
    last_local : (t1 m t2 : PlainToken) {n : List ℕ} {a : PlainAst} (u : Text)
        → Is sign.Val t1 → IsName n m → Is sign.Equal t2 → Spells 0 a u
        → SpellsLocals (more_locals n a no_local) (t1 ∷ m ∷ t2 ∷ u)
    next_local : (t1 m t2 : PlainToken) {n : List ℕ} {a : PlainAst} {locals : PlainLocals} (u v : Text)
        → Is sign.Val t1 → IsName n m → Is sign.Equal t2 → Spells 0 a u → SpellsLocals locals v
        → SpellsLocals (more_locals n a locals) (t1 ∷ m ∷ t2 ∷ u ++ v)
