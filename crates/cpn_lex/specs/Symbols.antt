-- The signs and the reserved words, which have one spelling each.
-- Source: the lexis of the inscription language, own choice after CPN ML.
use Rattle.std.specs.Prelude.{ℕ, List, [], ◌∷◌, codes}
use Rattle.cpn_lex.specs.declared.symbols.Symbol.{Symbol}
use Rattle.cpn_lex.specs.declared.symbols.Symbol.TheVariants.{OpenParenthesis, CloseParenthesis, OpenBracket, CloseBracket, Comma, Semicolon, Colon, Equal, NotEqual, Less, LessOrEqual, Greater, GreaterOrEqual, DoubleColon, DoubleCaret, Caret, DoublePlus, Plus, Minus, Star, Tilde, Backtick, AtPlus, At, Hash, Bar, Arrow, DoubleDot, Underscore, Colset, Var, Val, Fun, With, Product, List as ListWord, Union, Timed, Unit, Bool, Int, String, If, Then, Else, Case, Of, Let, In, End, Foldl, Over, From, Do, Andalso, Orelse, Not, Div, Mod, True, False, Empty, Time}

-- how a sign or a reserved word is spelled
abbrev pub spelling : Symbol → List ℕ
spelling OpenParenthesis = codes "("
spelling CloseParenthesis = codes ")"
spelling OpenBracket = codes "["
spelling CloseBracket = codes "]"
spelling Comma = codes ","
spelling Semicolon = codes ";"
spelling Colon = codes ":"
spelling Equal = codes "="
spelling NotEqual = codes "<>"
spelling Less = codes "<"
spelling LessOrEqual = codes "<="
spelling Greater = codes ">"
spelling GreaterOrEqual = codes ">="
spelling DoubleColon = codes "::"
spelling DoubleCaret = codes "^^"
spelling Caret = codes "^"
spelling DoublePlus = codes "++"
spelling Plus = codes "+"
spelling Minus = codes "-"
spelling Star = codes "*"
spelling Tilde = codes "~"
spelling Backtick = codes "`"
spelling AtPlus = codes "@+"
spelling At = codes "@"
spelling Hash = codes "#"
spelling Bar = codes "|"
spelling Arrow = codes "=>"
spelling DoubleDot = codes ".."
spelling Underscore = codes "_"
spelling Colset = codes "colset"
spelling Var = codes "var"
spelling Val = codes "val"
spelling Fun = codes "fun"
spelling With = codes "with"
spelling Product = codes "product"
spelling ListWord = codes "list"
spelling Union = codes "union"
spelling Timed = codes "timed"
spelling Unit = codes "unit"
spelling Bool = codes "bool"
spelling Int = codes "int"
spelling String = codes "string"
spelling If = codes "if"
spelling Then = codes "then"
spelling Else = codes "else"
spelling Case = codes "case"
spelling Of = codes "of"
spelling Let = codes "let"
spelling In = codes "in"
spelling End = codes "end"
spelling Foldl = codes "foldl"
spelling Over = codes "over"
spelling From = codes "from"
spelling Do = codes "do"
spelling Andalso = codes "andalso"
spelling Orelse = codes "orelse"
spelling Not = codes "not"
spelling Div = codes "div"
spelling Mod = codes "mod"
spelling True = codes "true"
spelling False = codes "false"
spelling Empty = codes "empty"
spelling Time = codes "time"

-- the signs
abbrev pub signs : List Symbol
signs =
    OpenParenthesis ∷ CloseParenthesis ∷ OpenBracket ∷ CloseBracket ∷ Comma ∷ Semicolon ∷ Colon ∷ Equal
    ∷ NotEqual ∷ Less ∷ LessOrEqual ∷ Greater ∷ GreaterOrEqual ∷ DoubleColon ∷ DoubleCaret ∷ Caret
    ∷ DoublePlus ∷ Plus ∷ Minus ∷ Star ∷ Tilde ∷ Backtick ∷ AtPlus ∷ At ∷ Hash ∷ Bar ∷ Arrow ∷ DoubleDot
    ∷ Underscore ∷ []

-- the reserved words
abbrev pub words : List Symbol
words =
    Colset ∷ Var ∷ Val ∷ Fun ∷ With ∷ Product ∷ ListWord ∷ Union ∷ Timed ∷ Unit ∷ Bool ∷ Int ∷ String ∷ If ∷ Then
    ∷ Else ∷ Case ∷ Of ∷ Let ∷ In ∷ End ∷ Foldl ∷ Over ∷ From ∷ Do ∷ Andalso ∷ Orelse ∷ Not ∷ Div ∷ Mod ∷ True
    ∷ False ∷ Empty ∷ Time ∷ []
