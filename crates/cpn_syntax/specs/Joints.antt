-- What may take a part as its left operand: an infix operator, the sign of a time stamp, and that of a sum.
use Rattle.std.specs.Prelude.{ℕ, ◌≤◌}
use Rattle.cpn_lex.specs.declared.symbols.Symbol.{Symbol}
use Rattle.cpn_lex.specs.declared.symbols.Symbol.TheVariants as sign
use Rattle.cpn_syntax.specs.declared.following_tokens.Joint.{Joint}
use Rattle.cpn_syntax.specs.Texts.{Text, Is}
use Rattle.cpn_syntax.specs.Unread.{Begins}
use Rattle.cpn_syntax.specs.Inscriptions.{sign_of, precedence, left}

abbrev pub joint_sign : Joint → Symbol
joint_sign (Joint.Infix o) = sign_of o
joint_sign Joint.Stamp = sign.At
joint_sign Joint.Term = sign.DoublePlus

abbrev pub joint_left : Joint → ℕ
joint_left (Joint.Infix o) = left o
joint_left Joint.Stamp = 4
joint_left Joint.Term = 3

abbrev pub joint_precedence : Joint → ℕ
joint_precedence (Joint.Infix o) = precedence o
joint_precedence Joint.Stamp = 3
joint_precedence Joint.Term = 3

-- it takes a part that binds so tightly, inside one that has to bind so tightly at least
abbrev pub IsJoined : ℕ → ℕ → Joint → Type 0
IsJoined k least j = (joint_left j ≤ k) × (least ≤ joint_precedence j)

-- the next token takes no such part there
abbrev pub NothingJoins : ℕ → ℕ → Text → Type 0
NothingJoins k least w = (j : Joint) → IsJoined k least j → Begins (Is (joint_sign j)) w → ⊥
