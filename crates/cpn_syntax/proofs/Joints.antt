-- Whether the next token takes a part, as the table of joints has it and as the tokens' roles have it.
use Rattle.std.proofs.Common.{◌≡◌, ℕ, ◌≤◌, Bool, true, false, ◌&&◌, nat_le, [], ◌∷◌, refl, sym, ap, ◌∙◌, subst, true≢false, arith}
use Rattle.std.proofs.lemmas.Bool.Decides.{nat_tests}
use Rattle.cpn_lex.specs.Token.{PlainToken, PlainKind}
use Rattle.cpn_lex.specs.Token as token
use Rattle.cpn_lex.specs.declared.symbols.Symbol.{Symbol}
use Rattle.cpn_lex.specs.declared.symbols.Symbol.TheVariants as sign
use Rattle.cpn_syntax.specs.declared.following_tokens.Joint.{Joint}
use Rattle.cpn_trees.specs.declared.operators.Infix.TheVariants as op
use Rattle.cpn_syntax.specs.Texts.{Text, Is}
use Rattle.cpn_syntax.specs.Unread.{Begins}
use Rattle.cpn_syntax.specs.Inscriptions.{precedence, left}
use Rattle.cpn_syntax.specs.Joints.{joint_sign, IsJoined, NothingJoins}
use Rattle.cpn_syntax.specs.Progress.{Agrees}
use Rattle.cpn_syntax.proofs.Roles.{Role, joins, stamps, adds, role_of_sign, role_joins, least}
use Rattle.cpn_syntax.proofs.Has.{takes_a_part, top, taken, Untaken}

-- the role of a joint's sign
abbrev joint_role : Joint → Role
joint_role (Joint.Infix o) = joins o
joint_role Joint.Stamp = stamps
joint_role Joint.Term = adds

role_of_joint : (j : Joint) → role_of_sign (joint_sign j) ≡ joint_role j
role_of_joint (Joint.Infix o) = role_joins o
role_of_joint Joint.Stamp = refl
role_of_joint Joint.Term = refl

-- a sign is that of one joint
pub one_joint : (j m : Joint) → joint_sign j ≡ joint_sign m → j ≡ m
one_joint j m e = by_role j m (sym (role_of_joint j) ∙ ap role_of_sign e ∙ role_of_joint m)
  where
    by_role : (j m : Joint) → joint_role j ≡ joint_role m → j ≡ m
    by_role (Joint.Infix o) (Joint.Infix p) same = let r : o ≡ p = cc in ap Joint.Infix r
    by_role Joint.Stamp Joint.Stamp same = refl
    by_role Joint.Term Joint.Term same = refl
    by_role j m same = cc

-- what takes a part is the sign of a joint
sign_joins : (s : Symbol) → takes_a_part (role_of_sign s) ≡ true → (j : Joint) × (s ≡ joint_sign j)
sign_joins sign.At takes = (Joint.Stamp, refl)
sign_joins sign.DoublePlus takes = (Joint.Term, refl)
sign_joins sign.AtPlus takes = (Joint.Infix op.Later, refl)
sign_joins sign.Backtick takes = (Joint.Infix op.Times, refl)
sign_joins sign.Orelse takes = (Joint.Infix op.Orelse, refl)
sign_joins sign.Andalso takes = (Joint.Infix op.Andalso, refl)
sign_joins sign.Equal takes = (Joint.Infix op.Equal, refl)
sign_joins sign.NotEqual takes = (Joint.Infix op.NotEqual, refl)
sign_joins sign.Less takes = (Joint.Infix op.Less, refl)
sign_joins sign.LessOrEqual takes = (Joint.Infix op.LessOrEqual, refl)
sign_joins sign.Greater takes = (Joint.Infix op.Greater, refl)
sign_joins sign.GreaterOrEqual takes = (Joint.Infix op.GreaterOrEqual, refl)
sign_joins sign.DoubleColon takes = (Joint.Infix op.Cons, refl)
sign_joins sign.DoubleCaret takes = (Joint.Infix op.Append, refl)
sign_joins sign.Plus takes = (Joint.Infix op.Add, refl)
sign_joins sign.Minus takes = (Joint.Infix op.Subtract, refl)
sign_joins sign.Caret takes = (Joint.Infix op.Concatenate, refl)
sign_joins sign.Star takes = (Joint.Infix op.Multiply, refl)
sign_joins sign.Div takes = (Joint.Infix op.Div, refl)
sign_joins sign.Mod takes = (Joint.Infix op.Mod, refl)
sign_joins _ takes = absurd (true≢false (sym takes))

first_true : (a b c : Bool) → (a && b && c) ≡ true → a ≡ true
first_true true b c holds = refl
first_true false b c holds = holds

all_three : (a k l p : ℕ) → (true && nat_le a k && nat_le l p) ≡ true → (a ≤ k) × (l ≤ p)
all_three a k l p holds = (grind (arith, nat_tests), grind (arith, nat_tests))

joined_there : (k l : ℕ) (j : Joint) → (takes_a_part (joint_role j) && nat_le (least (joint_role j)) k && nat_le l (top (joint_role j))) ≡ true → IsJoined k l j
joined_there k l (Joint.Infix o) holds = all_three (left o) k l (precedence o) holds
joined_there k l Joint.Stamp holds = all_three 4 k l 3 holds
joined_there k l Joint.Term holds = all_three 3 k l 3 holds

joint_taken : (k l : ℕ) (s : Symbol) → taken k l (token.symbol s) ≡ true → (j : Joint) × IsJoined k l j × (s ≡ joint_sign j)
joint_taken k l s holds =
    let found = sign_joins s (first_true (takes_a_part (role_of_sign s)) _ _ holds) in
    let same = ap role_of_sign found.1 ∙ role_of_joint found.0 in
    (found.0, joined_there k l found.0 (subst (λ r. (takes_a_part r && nat_le (least r) k && nat_le l (top r)) ≡ true) same holds), found.1)

not_true : (b : Bool) → (b ≡ true → ⊥) → b ≡ false
not_true false never = refl
not_true true never = absurd (never refl)

-- where no joint takes the part, no token does
untaken_at : (k l : ℕ) (kind : PlainKind) → ((j : Joint) → IsJoined k l j → kind ≡ token.symbol (joint_sign j) → ⊥) → taken k l kind ≡ false
untaken_at k l (token.symbol s) none = not_true _ (λ holds. let found = joint_taken k l s holds in none found.0 found.1 (ap token.symbol found.2))
untaken_at k l _ none = refl

pub untaken_in : (k l : ℕ) (rest w : Text) → NothingJoins k l rest → Agrees rest w → Untaken k l w
untaken_in k l [] w none agrees = rw agrees tt
untaken_in k l (t ∷ rest) w none agrees = rw agrees.1 (untaken_at k l t.kind none)

-- the next token is one symbol
pub one_symbol : (s r : Symbol) (text : Text) → Begins (Is s) text → Begins (Is r) text → s ≡ r
one_symbol s r [] begins also = absurd begins
one_symbol s r (t ∷ rest) begins also = cc

-- and joins as one joint
pub joins_as : (j m : Joint) (s : Symbol) (text : Text) → Begins (Is s) text → s ≡ joint_sign j → Begins (Is (joint_sign m)) text → m ≡ j
joins_as j m s text begins is also = one_joint m j (one_symbol (joint_sign m) s text also begins ∙ is)
