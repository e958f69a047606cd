-- The rule of each form of inscription, over its parts. A form is checked against a wanted type where its context gives one,
-- else its type is found. The parts of a form come before its own rule, from left to right, and the first refusal counts.
-- Source: own choice, after CPN ML.
use Rattle.std.specs.Prelude.{ℕ, zero, suc, ℤ, pos, negsuc, Bool, true, false, not, ◌&&◌, Option, Some, None}
use Rattle.cpn_definitions.specs.Value as value
use Rattle.cpn_definitions.specs.Inscription.{Operation, addition, subtraction, multiplication, division, remainder, negation, concatenation, equality, inequality, less_than, at_most, greater_than, at_least, complement, cons, appending, head, tail, list_length, reversal, membership, string_size, component, operation, tupling, listing, constructing, calling, PlainExpr, literal, variable, local, the_time, apply, conjunction, disjunction, choose, select, accumulate, PlainExprs, no_exprs, more_exprs, PlainArms}
use Rattle.cpn_trees.specs.declared.operators.Infix.{Infix}
use Rattle.cpn_trees.specs.declared.operators.Infix.TheVariants as sign
use Rattle.cpn_trees.specs.declared.operators.Prefix.{Prefix}
use Rattle.cpn_trees.specs.declared.operators.Prefix.TheVariants as front
use Rattle.cpn_trees.specs.Trees.{PlainAst, ast, PlainForm, list, PlainAsts, no_ast, more_asts}
use Rattle.cpn_typing.specs.Types.{PlainTy, bool_type, int_type, text_type, enumeration, union, tuples, lists, PlainTys, no_types, more_types, same_type, same_types, type_at}
use Rattle.cpn_typing.specs.Names.{Name, a_variable, a_constant, a_constructor, a_function, Found, a_local, predeclared, declared, Refusal, unknown, mismatch, not_closed, time_not_allowed, Checked, ok, refused, ◌>>=◌, accepted_if, required}
use Rattle.cpn_typing.specs.Contexts.{Context, is_closed, misplaced_delay}

-- A typed inscription with its type.
pub record Typed : Type 0 where
  pub expr : PlainExpr
  pub type_of : PlainTy

-- The parts of a form, with their types.
pub record Parts : Type 0 where
  pub exprs : PlainExprs
  pub types : PlainTys

-- The items of a list, and the arms of a `case`, with the one type of all; none where there are none and none is wanted.
pub record Items : Type 0 where
  pub items : PlainExprs
  pub item_type : Option PlainTy

pub record Arms : Type 0 where
  pub arms : PlainArms
  pub arm_type : Option PlainTy

-- Two parts of one type.
pub record Sides : Type 0 where
  pub left : PlainExpr
  pub right : PlainExpr
  pub side : PlainTy

-- A part that waits for the wanted type that its context gives it, if it gives one.
abbrev pub Checker : Type 0
Checker = Option PlainTy → Checked Typed

-- A part of a form, still to be checked: the offset of its first token, whether it is `[]`, and what is found of it at a
-- wanted type or with none.
pub record Part : Type 0 where
  pub at : ℕ
  pub is_empty : Bool
  pub check : Checker

-- Where a form stands: its context, the offset of its first token, and the type that is wanted of it, if one is.
pub record Spot : Type 0 where
  pub context : Context
  pub at : ℕ
  pub wanted : Option PlainTy

abbrev pub two : PlainExpr → PlainExpr → PlainExprs
two a b = more_exprs a (more_exprs b no_exprs)

-- ---- wanted types

-- a form with its type, at the wanted type
abbrev pub meets : Option PlainTy → ℕ → PlainExpr → PlainTy → Checked Typed
meets None at e t = ok (record { expr = e; type_of = t })
meets (Some w) at e t = accepted_if (same_type t w) (mismatch at) (record { expr = e; type_of = t })

-- the type of the items of a list that is wanted, the wanted type where it is that of a list, and the wanted types of a
-- tuple's parts
abbrev pub item_wanted : Option PlainTy → Option PlainTy
item_wanted (Some (lists t)) = Some t
item_wanted w = None

abbrev pub list_wanted : Option PlainTy → Option PlainTy
list_wanted (Some (lists t)) = Some (lists t)
list_wanted w = None

abbrev pub parts_wanted : Option PlainTy → PlainTys
parts_wanted (Some (tuples ts)) = ts
parts_wanted w = no_types

-- the type that is wanted of the first of several parts, and those of the parts behind it
abbrev pub first_wanted : PlainTys → Option PlainTy
first_wanted no_types = None
first_wanted (more_types t ts) = Some t

abbrev pub later_wanted : PlainTys → PlainTys
later_wanted no_types = no_types
later_wanted (more_types t ts) = ts

-- ---- `[]`, which takes the wanted type

abbrev pub is_empty_form : PlainForm → Bool
is_empty_form (list no_ast) = true
is_empty_form form = false

abbrev pub is_empty_list : PlainAst → Bool
is_empty_list (ast at form) = is_empty_form form

-- the offset of a tree's first token, and of the first of several
abbrev pub offset_of : PlainAst → ℕ
offset_of (ast at form) = at

abbrev pub first_offset : ℕ → PlainAsts → ℕ
first_offset at no_ast = at
first_offset at (more_asts a xs) = offset_of a

-- a tree as a part
abbrev pub part : PlainAst → Checker → Part
part a check = record { at = offset_of a; is_empty = is_empty_list a; check = check }

-- As one side of `= <> ^^` and as a branch of `if` it takes the type of the other: on the left it waits for the right, if
-- that is not `[]` too.
abbrev pub waits : Part → Part → Bool
waits a b = a.is_empty && not b.is_empty

-- the left one first, and the right one at its type; or the other way round where the left one waits. What is found of the
-- first has to pass a test.
abbrev pub alike : (PlainTy → ℕ → Checked PlainTy) → Bool → Option PlainTy → Part → Part → Checked Sides
alike test false w a b =
    a.check w >>= λ x. test x.type_of a.at >>= λ t. b.check (Some x.type_of) >>= λ y. ok (record { left = x.expr; right = y.expr; side = y.type_of })
alike test true w a b =
    b.check w >>= λ y. test y.type_of b.at >>= λ t. a.check (Some y.type_of) >>= λ x. ok (record { left = x.expr; right = y.expr; side = x.type_of })

-- a side waits only where no type is wanted
abbrev pub sides : (PlainTy → ℕ → Checked PlainTy) → Option PlainTy → Part → Part → Checked Sides
sides test (Some w) a b = alike test false (Some w) a b
sides test None a b = alike test (waits a b) None a b

-- ---- what a type has to be

-- any type; a type with an order, integers or strings; a list
abbrev pub any_type : PlainTy → ℕ → Checked PlainTy
any_type t at = ok t

abbrev pub ordered : PlainTy → ℕ → Checked PlainTy
ordered int_type at = ok int_type
ordered text_type at = ok text_type
ordered t at = refused (mismatch at)

abbrev pub a_list : PlainTy → ℕ → Checked PlainTy
a_list (lists t) at = ok (lists t)
a_list t at = refused (mismatch at)

-- the type of a list's items
abbrev pub item_of : PlainTy → ℕ → Checked PlainTy
item_of (lists t) at = ok t
item_of t at = refused (mismatch at)

-- the type of a tuple's k-th part, from 1
abbrev pub part_of : PlainTy → ℤ → Option PlainTy
part_of (tuples ts) (pos (suc i)) = type_at ts i
part_of t k = None

-- the number of a part
abbrev pub part_number : ℤ → ℕ
part_number (pos k) = k
part_number (negsuc k) = zero

-- ---- operators

-- two parts of given types
abbrev pub both_of : PlainTy → PlainTy → Part → Part → Checked PlainExprs
both_of s t a b = a.check (Some s) >>= λ x. b.check (Some t) >>= λ y. ok (two x.expr y.expr)

-- `+ - * div mod` on integers, `^` on strings
abbrev pub on_two_of : PlainTy → Operation → Spot → Part → Part → Checked Typed
on_two_of t o spot a b = both_of t t a b >>= λ es. meets spot.wanted spot.at (apply (operation o) es) t

-- `= <>` on two parts of one type
abbrev pub equated : Operation → Spot → Part → Part → Checked Typed
equated o spot a b = sides any_type None a b >>= λ s. meets spot.wanted spot.at (apply (operation o) (two s.left s.right)) bool_type

-- `< <= > >=` on two integers or two strings
abbrev pub compared : Operation → Spot → Part → Part → Checked Typed
compared o spot a b = alike ordered false None a b >>= λ s. meets spot.wanted spot.at (apply (operation o) (two s.left s.right)) bool_type

-- `^^` on two lists of one type
abbrev pub joined : Spot → Part → Part → Checked Typed
joined spot a b = sides a_list (list_wanted spot.wanted) a b >>= λ s. meets spot.wanted spot.at (apply (operation appending) (two s.left s.right)) s.side

-- `::` on an item and a list of such items
abbrev pub put_in_front : Spot → Part → Part → Checked Typed
put_in_front spot a b =
    a.check (item_wanted spot.wanted) >>= λ x. b.check (Some (lists x.type_of)) >>= λ y. meets spot.wanted spot.at (apply (operation cons) (two x.expr y.expr)) (lists x.type_of)

-- `andalso orelse` on two truth values
abbrev pub both_truths : (PlainExpr → PlainExpr → PlainExpr) → Spot → Part → Part → Checked Typed
both_truths form spot a b =
    a.check (Some bool_type) >>= λ x. b.check (Some bool_type) >>= λ y. meets spot.wanted spot.at (form x.expr y.expr) bool_type

-- what is no inscription of one value is refused behind its parts
abbrev pub misplaced : Option PlainTy → Option PlainTy → Refusal → Part → Part → Checked Typed
misplaced s t r a b = a.check s >>= λ x. b.check t >>= λ y. refused r

-- The operators between two operands, a row each; also by the offset of the sign.
abbrev pub infix_rule : Infix → Spot → ℕ → Part → Part → Checked Typed
infix_rule sign.Add spot s a b = on_two_of int_type addition spot a b
infix_rule sign.Subtract spot s a b = on_two_of int_type subtraction spot a b
infix_rule sign.Multiply spot s a b = on_two_of int_type multiplication spot a b
infix_rule sign.Div spot s a b = on_two_of int_type division spot a b
infix_rule sign.Mod spot s a b = on_two_of int_type remainder spot a b
infix_rule sign.Concatenate spot s a b = on_two_of text_type concatenation spot a b
infix_rule sign.Equal spot s a b = equated equality spot a b
infix_rule sign.NotEqual spot s a b = equated inequality spot a b
infix_rule sign.Less spot s a b = compared less_than spot a b
infix_rule sign.LessOrEqual spot s a b = compared at_most spot a b
infix_rule sign.Greater spot s a b = compared greater_than spot a b
infix_rule sign.GreaterOrEqual spot s a b = compared at_least spot a b
infix_rule sign.Andalso spot s a b = both_truths conjunction spot a b
infix_rule sign.Orelse spot s a b = both_truths disjunction spot a b
infix_rule sign.Cons spot s a b = put_in_front spot a b
infix_rule sign.Append spot s a b = joined spot a b
infix_rule sign.Later spot s a b = misplaced None (Some int_type) (misplaced_delay spot.context spot.at s) a b
infix_rule sign.Times spot s a b = misplaced (Some int_type) None (mismatch spot.at) a b

-- `#k` of a product
abbrev pub component_rule : ℤ → Spot → Part → Checked Typed
component_rule k spot a =
    a.check None >>= λ x. required (part_of x.type_of k) (mismatch a.at) >>= λ t. meets spot.wanted spot.at (apply (operation (component (part_number k))) (more_exprs x.expr no_exprs)) t

-- an operation on one part of its own type
abbrev pub on_one_of : PlainTy → Operation → Spot → Part → Checked Typed
on_one_of t o spot a = a.check (Some t) >>= λ x. meets spot.wanted spot.at (apply (operation o) (more_exprs x.expr no_exprs)) t

-- The operators in front of an operand, a row each.
abbrev pub prefix_rule : Prefix → Spot → Part → Checked Typed
prefix_rule front.Not spot a = on_one_of bool_type complement spot a
prefix_rule front.Negate spot a = on_one_of int_type negation spot a
prefix_rule (front.Component k) spot a = component_rule k spot a

-- ---- names

-- a variable, which stands in no closed text
abbrev pub variable_rule : Bool → ℕ → PlainTy → Spot → Name → Checked Typed
variable_rule true x t spot n = refused (not_closed n)
variable_rule false x t spot n = meets spot.wanted spot.at (variable x) t

-- A name alone: a local, a variable, a constant, a constructor without argument, a function without parameters.
abbrev pub name_rule : Found → Spot → Name → Checked Typed
name_rule (a_local k t) spot n = meets spot.wanted spot.at (local k) t
name_rule (declared (a_variable x t)) spot n = variable_rule (is_closed spot.context) x t spot n
name_rule (declared (a_constant id k)) spot n = meets spot.wanted spot.at (literal (value.constant k)) (enumeration id)
name_rule (declared (a_constructor id k None)) spot n = meets spot.wanted spot.at (apply (constructing k) no_exprs) (union id)
name_rule (declared (a_function k no_types t)) spot n = meets spot.wanted spot.at (apply (calling k) no_exprs) t
name_rule f spot n = refused (unknown n)

-- `time`, where it may stand
abbrev pub time_rule : Bool → Spot → Checked Typed
time_rule true spot = meets spot.wanted spot.at the_time int_type
time_rule false spot = refused (time_not_allowed spot.at)

-- ---- calls

-- A name in front of a parenthesis: a predeclared function, a constructor with its argument, a function with parameters.
pub data Called : Type 0 where
  does : Operation → Called
  constructs : ℕ → ℕ → PlainTy → Called
  calls : ℕ → PlainTys → PlainTy → Called
  nothing_called : Called

abbrev pub called_as : Found → Called
called_as (predeclared o) = does o
called_as (declared (a_constructor id k (Some t))) = constructs id k t
called_as (declared (a_function k (more_types t ts) r)) = calls k (more_types t ts) r
called_as f = nothing_called

-- The arguments of a call: the first, and those behind it, each at the type that is wanted of it.
pub record Arguments : Type 0 where
  pub first : Part
  pub rest : PlainTys → Checked Parts

-- all of them, each with its type
abbrev pub all_of : Arguments → PlainTys → Checked Parts
all_of xs ts =
    xs.first.check (first_wanted ts) >>= λ a. xs.rest (later_wanted ts) >>= λ p. ok (record { exprs = more_exprs a.expr p.exprs; types = more_types a.type_of p.types })

-- parts of given types, one for one; where there are too many or too few, what stands at the offset is refused
abbrev pub parts_of_types : PlainTys → ℕ → (PlainTys → Checked Parts) → Checked PlainExprs
parts_of_types ts at parts = parts ts >>= λ p. accepted_if (same_types p.types ts) (mismatch at) p.exprs

-- a list, and behind it further arguments whose types the type of its items gives
abbrev pub on_list : Operation → (PlainTy → PlainTys) → (PlainTy → PlainTy) → Spot → Arguments → Checked Typed
on_list o others result spot xs =
    xs.first.check None >>= λ a. item_of a.type_of xs.first.at >>= λ t. parts_of_types (others t) spot.at xs.rest >>= λ es. meets spot.wanted spot.at (apply (operation o) (more_exprs a.expr es)) (result t)

-- a string alone
abbrev pub on_string : Operation → PlainTy → Spot → Arguments → Checked Typed
on_string o result spot xs =
    xs.first.check (Some text_type) >>= λ a. parts_of_types no_types spot.at xs.rest >>= λ es. meets spot.wanted spot.at (apply (operation o) (more_exprs a.expr es)) result

-- The predeclared functions, a row each.
abbrev pub predeclared_rule : Operation → Spot → Name → Arguments → Checked Typed
predeclared_rule head spot n xs = on_list head (λ t. no_types) (λ t. t) spot xs
predeclared_rule tail spot n xs = on_list tail (λ t. no_types) lists spot xs
predeclared_rule list_length spot n xs = on_list list_length (λ t. no_types) (λ t. int_type) spot xs
predeclared_rule reversal spot n xs = on_list reversal (λ t. no_types) lists spot xs
predeclared_rule membership spot n xs = on_list membership (λ t. more_types t no_types) (λ t. bool_type) spot xs
predeclared_rule string_size spot n xs = on_string string_size int_type spot xs
predeclared_rule o spot n xs = refused (unknown n)

-- the argument of a constructor: one part is the argument, several are the parts of a tuple
abbrev pub argument_rule : PlainAsts → PlainTy → Arguments → Checked PlainExpr
argument_rule (more_asts a no_ast) t xs = xs.first.check (Some t) >>= λ e. ok e.expr
argument_rule asts (tuples ts) xs = parts_of_types ts xs.first.at (all_of xs) >>= λ es. ok (apply tupling es)
argument_rule asts t xs = all_of xs no_types >>= λ p. refused (mismatch xs.first.at)

-- A call. What the name means comes before the arguments.
abbrev pub call_rule : Called → Spot → Name → PlainAsts → Arguments → Checked Typed
call_rule (does o) spot n asts xs = predeclared_rule o spot n xs
call_rule (constructs id k t) spot n asts xs =
    argument_rule asts t xs >>= λ e. meets spot.wanted spot.at (apply (constructing k) (more_exprs e no_exprs)) (union id)
call_rule (calls k ts t) spot n asts xs = parts_of_types ts spot.at (all_of xs) >>= λ es. meets spot.wanted spot.at (apply (calling k) es) t
call_rule nothing_called spot n asts xs = refused (unknown n)

-- ---- forms with several parts

-- a list whose items have one type
abbrev pub list_rule : Spot → Option PlainTy → PlainExprs → Checked Typed
list_rule spot (Some t) es = meets spot.wanted spot.at (apply listing es) (lists t)
list_rule spot None es = refused (mismatch spot.at)

-- `if`: a truth value, and two parts of one type
abbrev pub if_rule : Option PlainTy → Part → Part → Part → Checked Typed
if_rule w test a b =
    test.check (Some bool_type) >>= λ c. sides any_type w a b >>= λ s. ok (record { expr = choose c.expr s.left s.right; type_of = s.side })

-- a `case` whose arms have one type
abbrev pub case_rule : ℕ → PlainExpr → Option PlainTy → PlainArms → Checked Typed
case_rule at subject (Some t) arms = ok (record { expr = select subject arms; type_of = t })
case_rule at subject None arms = refused (mismatch at)

-- `foldl`: a list, a start, and a body of the start's type over an item and what has been made so far
abbrev pub fold_rule : Option PlainTy → Part → Part → (PlainTy → PlainTy → Checker) → Checked Typed
fold_rule w over start body =
    over.check None >>= λ xs. item_of xs.type_of over.at >>= λ t. start.check w >>= λ s. body t s.type_of (Some s.type_of) >>= λ b. ok (record { expr = accumulate xs.expr s.expr b.expr; type_of = s.type_of })
