-- Inscriptions, written shortly, for the worked cases of the inscription language; and what they mean in a worked setting.
use Rattle.std.proofs.Common.{ℕ, pos, neg_ℤ, ◌^◌, ◌-◌, Bool, true, List, [], ◌∷◌}
use Rattle.cpn_definitions.specs.Value.{PlainValue, boolean, int, text, tuple, list, from_list}
use Rattle.cpn_definitions.specs.Outcome.{Outcome}
use Rattle.cpn_definitions.specs.Inscription.{Operation, division, head, operation, tupling, listing, calling, PlainPattern, variable_pattern, literal_pattern, PlainExpr, literal, variable, apply, exprs_from}
use Rattle.cpn_definitions.specs.Meaning.{PlainBinding, meaning}

-- ---- values: an integer that is not negative, one that is not positive, a string, a pair, a list

abbrev pub whole : ℕ → PlainValue
whole k = int (pos k)

abbrev pub negative : ℕ → PlainValue
negative k = int (neg_ℤ (pos k))

abbrev pub greatest : PlainValue
greatest = whole (2 ^ 63 - 1)

abbrev pub least : PlainValue
least = negative (2 ^ 63)

abbrev pub pair_of : PlainValue → PlainValue → PlainValue
pair_of v w = tuple (from_list (v ∷ w ∷ []))

abbrev pub list_of : List PlainValue → PlainValue
list_of vs = list (from_list vs)

-- ---- inscriptions

abbrev pub number : ℕ → PlainExpr
number k = literal (whole k)

abbrev pub minus : ℕ → PlainExpr
minus k = literal (negative k)

abbrev pub truth : Bool → PlainExpr
truth b = literal (boolean b)

abbrev pub string : List ℕ → PlainExpr
string bytes = literal (text bytes)

-- an operation on one operand and on two
abbrev pub of_one : Operation → PlainExpr → PlainExpr
of_one o e = apply (operation o) (exprs_from (e ∷ []))

abbrev pub of_two : Operation → PlainExpr → PlainExpr → PlainExpr
of_two o e f = apply (operation o) (exprs_from (e ∷ f ∷ []))

abbrev pub pair : PlainExpr → PlainExpr → PlainExpr
pair e f = apply tupling (exprs_from (e ∷ f ∷ []))

abbrev pub items : List PlainExpr → PlainExpr
items es = apply listing (exprs_from es)

abbrev pub call : ℕ → List PlainExpr → PlainExpr
call k es = apply (calling k) (exprs_from es)

-- two inscriptions with a fault each: `1 div 0` and `hd []`
abbrev pub no_quotient : PlainExpr
no_quotient = of_two division (number 1) (number 0)

abbrev pub no_head : PlainExpr
no_head = of_one head (items [])

-- the pattern of a number, and one that binds
abbrev pub number_pattern : ℕ → PlainPattern
number_pattern k = literal_pattern (whole k)

abbrev pub name_pattern : PlainPattern
name_pattern = variable_pattern 0

-- ---- the worked setting: x, of number 0, is 7, and y, of number 3, is true; the time is 5

abbrev pub x : PlainExpr
x = variable 0

abbrev pub y : PlainExpr
y = variable 3

abbrev pub worked_binding : PlainBinding
worked_binding = (0, whole 7) ∷ (3, boolean true) ∷ []

abbrev pub means : PlainExpr → Outcome PlainValue
means e = meaning [] e worked_binding 5
