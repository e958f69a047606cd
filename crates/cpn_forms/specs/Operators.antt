-- The rules of the operators, taken apart: which side of an operator between two operands comes first, what is wanted of it,
-- what its type has to be, what is then wanted of the other side, and what the two make; and the same of an operator in front
-- of an operand and of a predeclared function.
use Rattle.std.specs.Prelude.{ℕ, Bool, true, false, not, ◌&&◌, if◌then◌else◌, Option, Some, None}
use Rattle.cpn_definitions.specs.Inscription.{Operation, addition, subtraction, multiplication, division, remainder, negation, concatenation, equality, inequality, less_than, at_most, greater_than, at_least, complement, cons, appending, head, tail, list_length, reversal, membership, string_size, component, operation, PlainExpr, apply, conjunction, disjunction, no_exprs, more_exprs}
use Rattle.cpn_trees.specs.declared.operators.Infix.{Infix}
use Rattle.cpn_trees.specs.declared.operators.Infix.TheVariants as sign
use Rattle.cpn_trees.specs.declared.operators.Prefix.{Prefix}
use Rattle.cpn_trees.specs.declared.operators.Prefix.TheVariants as front
use Rattle.cpn_typing.specs.Types.{PlainTy, bool_type, int_type, text_type, lists}
use Rattle.cpn_typing.specs.Names.{mismatch, Checked, ok, refused, ◌>>=◌, required}
use Rattle.cpn_typing.specs.Contexts.{misplaced_delay}
use Rattle.cpn_typing.specs.Rules.{Typed, Part, Spot, two, meets, item_wanted, list_wanted, waits, any_type, ordered, a_list, part_of, part_number}

-- ---- operators between two operands

-- whether the right side comes first, by whether the left one waits for it where no type is wanted
abbrev pub unless_wanted : Option PlainTy → Bool → Bool
unless_wanted None waiting = waiting
unless_wanted (Some t) waiting = false

abbrev pub right_first : Infix → Option PlainTy → Bool → Bool
right_first sign.Add w waiting = false
right_first sign.Subtract w waiting = false
right_first sign.Multiply w waiting = false
right_first sign.Div w waiting = false
right_first sign.Mod w waiting = false
right_first sign.Concatenate w waiting = false
right_first sign.Equal w waiting = waiting
right_first sign.NotEqual w waiting = waiting
right_first sign.Less w waiting = false
right_first sign.LessOrEqual w waiting = false
right_first sign.Greater w waiting = false
right_first sign.GreaterOrEqual w waiting = false
right_first sign.Andalso w waiting = false
right_first sign.Orelse w waiting = false
right_first sign.Cons w waiting = false
right_first sign.Append w waiting = unless_wanted (list_wanted w) waiting
right_first sign.Later w waiting = false
right_first sign.Times w waiting = false

-- what is wanted of the side that comes first
abbrev pub side_wanted : Infix → Option PlainTy → Option PlainTy
side_wanted sign.Add w = Some int_type
side_wanted sign.Subtract w = Some int_type
side_wanted sign.Multiply w = Some int_type
side_wanted sign.Div w = Some int_type
side_wanted sign.Mod w = Some int_type
side_wanted sign.Concatenate w = Some text_type
side_wanted sign.Equal w = None
side_wanted sign.NotEqual w = None
side_wanted sign.Less w = None
side_wanted sign.LessOrEqual w = None
side_wanted sign.Greater w = None
side_wanted sign.GreaterOrEqual w = None
side_wanted sign.Andalso w = Some bool_type
side_wanted sign.Orelse w = Some bool_type
side_wanted sign.Cons w = item_wanted w
side_wanted sign.Append w = list_wanted w
side_wanted sign.Later w = None
side_wanted sign.Times w = Some int_type

-- what its type has to be
abbrev pub side_test : Infix → PlainTy → ℕ → Checked PlainTy
side_test sign.Add t at = any_type t at
side_test sign.Subtract t at = any_type t at
side_test sign.Multiply t at = any_type t at
side_test sign.Div t at = any_type t at
side_test sign.Mod t at = any_type t at
side_test sign.Concatenate t at = any_type t at
side_test sign.Equal t at = any_type t at
side_test sign.NotEqual t at = any_type t at
side_test sign.Less t at = ordered t at
side_test sign.LessOrEqual t at = ordered t at
side_test sign.Greater t at = ordered t at
side_test sign.GreaterOrEqual t at = ordered t at
side_test sign.Andalso t at = any_type t at
side_test sign.Orelse t at = any_type t at
side_test sign.Cons t at = any_type t at
side_test sign.Append t at = a_list t at
side_test sign.Later t at = any_type t at
side_test sign.Times t at = any_type t at

-- what is wanted of the other side, where the first has a type
abbrev pub other_wanted : Infix → PlainTy → Option PlainTy
other_wanted sign.Add t = Some int_type
other_wanted sign.Subtract t = Some int_type
other_wanted sign.Multiply t = Some int_type
other_wanted sign.Div t = Some int_type
other_wanted sign.Mod t = Some int_type
other_wanted sign.Concatenate t = Some text_type
other_wanted sign.Equal t = Some t
other_wanted sign.NotEqual t = Some t
other_wanted sign.Less t = Some t
other_wanted sign.LessOrEqual t = Some t
other_wanted sign.Greater t = Some t
other_wanted sign.GreaterOrEqual t = Some t
other_wanted sign.Andalso t = Some bool_type
other_wanted sign.Orelse t = Some bool_type
other_wanted sign.Cons t = Some (lists t)
other_wanted sign.Append t = Some t
other_wanted sign.Later t = Some int_type
other_wanted sign.Times t = None

-- two sides, with the types of the one that came first and of the one that came last
pub record TypedSides : Type 0 where
  pub left : PlainExpr
  pub right : PlainExpr
  pub first : PlainTy
  pub last : PlainTy

abbrev pub applied : Operation → Spot → TypedSides → PlainTy → Checked Typed
applied o spot s t = meets spot.wanted spot.at (apply (operation o) (two s.left s.right)) t

-- what they make, also by the offset of the sign
abbrev pub sides_make : Infix → Spot → ℕ → TypedSides → Checked Typed
sides_make sign.Add spot at s = applied addition spot s int_type
sides_make sign.Subtract spot at s = applied subtraction spot s int_type
sides_make sign.Multiply spot at s = applied multiplication spot s int_type
sides_make sign.Div spot at s = applied division spot s int_type
sides_make sign.Mod spot at s = applied remainder spot s int_type
sides_make sign.Concatenate spot at s = applied concatenation spot s text_type
sides_make sign.Equal spot at s = applied equality spot s bool_type
sides_make sign.NotEqual spot at s = applied inequality spot s bool_type
sides_make sign.Less spot at s = applied less_than spot s bool_type
sides_make sign.LessOrEqual spot at s = applied at_most spot s bool_type
sides_make sign.Greater spot at s = applied greater_than spot s bool_type
sides_make sign.GreaterOrEqual spot at s = applied at_least spot s bool_type
sides_make sign.Andalso spot at s = meets spot.wanted spot.at (conjunction s.left s.right) bool_type
sides_make sign.Orelse spot at s = meets spot.wanted spot.at (disjunction s.left s.right) bool_type
sides_make sign.Cons spot at s = applied cons spot s (lists s.first)
sides_make sign.Append spot at s = applied appending spot s s.last
sides_make sign.Later spot at s = refused (misplaced_delay spot.context spot.at at)
sides_make sign.Times spot at s = refused (mismatch spot.at)

-- the same sides, exchanged
abbrev pub turned : TypedSides → TypedSides
turned s = record { left = s.right; right = s.left; first = s.first; last = s.last }

-- two operands in the order in which they are checked: the one that comes first has a type that the operator takes, and the
-- other one has the type that is wanted beside it
abbrev pub in_turn : Infix → Option PlainTy → Part → Part → Checked TypedSides
in_turn o w a b =
    a.check w >>= λ x. side_test o x.type_of a.at >>= λ t. b.check (other_wanted o x.type_of) >>= λ y. ok (record { left = x.expr; right = y.expr; first = x.type_of; last = y.type_of })

-- the rule of an operator, taken apart
abbrev pub from_right : Infix → Spot → ℕ → Part → Part → Checked Typed
from_right o spot at a b = in_turn o (side_wanted o spot.wanted) b a >>= λ s. sides_make o spot at (turned s)

abbrev pub from_left : Infix → Spot → ℕ → Part → Part → Checked Typed
from_left o spot at a b = in_turn o (side_wanted o spot.wanted) a b >>= λ s. sides_make o spot at s

abbrev pub from_sides : Infix → Spot → ℕ → Part → Part → Checked Typed
from_sides o spot at a b = if right_first o spot.wanted (waits a b) then from_right o spot at a b else from_left o spot at a b

-- ---- operators in front of an operand

abbrev pub operand_wanted : Prefix → Option PlainTy
operand_wanted front.Not = Some bool_type
operand_wanted front.Negate = Some int_type
operand_wanted (front.Component k) = None

abbrev pub operand_makes : Prefix → Spot → ℕ → Typed → Checked Typed
operand_makes front.Not spot at x = meets spot.wanted spot.at (apply (operation complement) (more_exprs x.expr no_exprs)) bool_type
operand_makes front.Negate spot at x = meets spot.wanted spot.at (apply (operation negation) (more_exprs x.expr no_exprs)) int_type
operand_makes (front.Component k) spot at x =
    required (part_of x.type_of k) (mismatch at) >>= λ t. meets spot.wanted spot.at (apply (operation (component (part_number k))) (more_exprs x.expr no_exprs)) t
