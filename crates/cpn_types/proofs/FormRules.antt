-- The rules of the operators are those that are taken apart.
use Rattle.std.proofs.Common.{◌≡◌, ℕ, Bool, true, false, if◌then◌else◌, refl, sym, ap, subst, ◌∙◌, Option, Some, None}
use Rattle.cpn_definitions.specs.Inscription.{PlainExpr, Operation, apply, operation, equality, inequality, less_than, at_most, greater_than, at_least, appending, addition, subtraction, multiplication, division, remainder, concatenation}
use Rattle.cpn_trees.specs.declared.operators.Infix.{Infix}
use Rattle.cpn_trees.specs.declared.operators.Infix.TheVariants as sign
use Rattle.cpn_trees.specs.declared.operators.Prefix.{Prefix}
use Rattle.cpn_trees.specs.declared.operators.Prefix.TheVariants as front
use Rattle.cpn_typing.specs.Types.{PlainTy, bool_type, int_type, text_type}
use Rattle.cpn_typing.specs.Names.{Checked, Refusal, ok, ◌>>=◌}
use Rattle.cpn_typing.specs.Answers.{Refuses}
use Rattle.cpn_typing.specs.Rules.{Typed, Spot, Part, two, meets, infix_rule, prefix_rule, on_two_of, alike, sides, any_type, ordered, a_list, waits, list_wanted}
use Rattle.cpn_forms.specs.Operators.{TypedSides, turned, side_wanted, side_test, other_wanted, sides_make, right_first as is_right_first, in_turn, from_left, from_right, from_sides, operand_wanted, operand_makes, unless_wanted}
use Rattle.cpn_types.proofs.CallFronts.{regrouped, alike_behind, refused_behind}

-- two parts of given types
both_apart : (s t : PlainTy) (o : Operation) (spot : Spot) (a b : Part) → on_two_of t o spot a b ≡ (a.check (Some t) >>= λ x. b.check (Some t) >>= λ y. meets spot.wanted spot.at (apply (operation o) (two x.expr y.expr)) t)
both_apart s t o spot a b =
    regrouped (a.check (Some t)) _ _ ∙ alike_behind (a.check (Some t)) _ _ (λ x. regrouped (b.check (Some t)) _ _)

-- two parts of one type, and what they make
abbrev left_first : (PlainTy → ℕ → Checked PlainTy) → Option PlainTy → (PlainExpr → PlainExpr → PlainTy → Checked Typed) → Part → Part → Checked Typed
left_first test w make a b = a.check w >>= λ x. test x.type_of a.at >>= λ t. b.check (Some x.type_of) >>= λ y. make x.expr y.expr y.type_of

abbrev right_first : (PlainTy → ℕ → Checked PlainTy) → Option PlainTy → (PlainExpr → PlainExpr → PlainTy → Checked Typed) → Part → Part → Checked Typed
right_first test w make a b = b.check w >>= λ y. test y.type_of b.at >>= λ t. a.check (Some y.type_of) >>= λ x. make x.expr y.expr x.type_of

alike_apart : (test : PlainTy → ℕ → Checked PlainTy) (turned : Bool) (w : Option PlainTy) (make : PlainExpr → PlainExpr → PlainTy → Checked Typed) (a b : Part)
    → (alike test turned w a b >>= λ s. make s.left s.right s.side) ≡ (if turned then right_first test w make a b else left_first test w make a b)
alike_apart test false w make a b =
    regrouped (a.check w) _ _ ∙ alike_behind (a.check w) _ _ (λ x. regrouped (test x.type_of a.at) _ _ ∙ alike_behind (test x.type_of a.at) _ _ (λ t. regrouped (b.check (Some x.type_of)) _ _))
alike_apart test true w make a b =
    regrouped (b.check w) _ _ ∙ alike_behind (b.check w) _ _ (λ y. regrouped (test y.type_of b.at) _ _ ∙ alike_behind (test y.type_of b.at) _ _ (λ t. regrouped (a.check (Some y.type_of)) _ _))

joined_apart : (w : Option PlainTy) (make : PlainExpr → PlainExpr → PlainTy → Checked Typed) (a b : Part)
    → (sides a_list w a b >>= λ s. make s.left s.right s.side) ≡ (if unless_wanted w (waits a b) then right_first a_list w make a b else left_first a_list w make a b)
joined_apart None make a b = alike_apart a_list (waits a b) None make a b
joined_apart (Some t) make a b = alike_apart a_list false (Some t) make a b

-- the rule of an operator, one step behind the other
abbrev left_steps : Infix → Spot → ℕ → Part → Part → Checked Typed
left_steps o spot at a b =
    a.check (side_wanted o spot.wanted) >>= λ x. side_test o x.type_of a.at >>= λ t. b.check (other_wanted o x.type_of) >>= λ y. sides_make o spot at (record { left = x.expr; right = y.expr; first = x.type_of; last = y.type_of })

abbrev right_steps : Infix → Spot → ℕ → Part → Part → Checked Typed
right_steps o spot at a b =
    b.check (side_wanted o spot.wanted) >>= λ y. side_test o y.type_of b.at >>= λ t. a.check (other_wanted o y.type_of) >>= λ x. sides_make o spot at (record { left = x.expr; right = y.expr; first = y.type_of; last = x.type_of })

abbrev steps : Bool → Infix → Spot → ℕ → Part → Part → Checked Typed
steps turned o spot at a b = if turned then right_steps o spot at a b else left_steps o spot at a b

infix_steps : (o : Infix) (spot : Spot) (s : ℕ) (a b : Part) → infix_rule o spot s a b ≡ steps (is_right_first o spot.wanted (waits a b)) o spot s a b
infix_steps sign.Add spot s a b = both_apart int_type int_type addition spot a b
infix_steps sign.Subtract spot s a b = both_apart int_type int_type subtraction spot a b
infix_steps sign.Multiply spot s a b = both_apart int_type int_type multiplication spot a b
infix_steps sign.Div spot s a b = both_apart int_type int_type division spot a b
infix_steps sign.Mod spot s a b = both_apart int_type int_type remainder spot a b
infix_steps sign.Concatenate spot s a b = both_apart text_type text_type concatenation spot a b
infix_steps sign.Equal spot s a b = alike_apart any_type (waits a b) None (λ x y t. meets spot.wanted spot.at (apply (operation equality) (two x y)) bool_type) a b
infix_steps sign.NotEqual spot s a b = alike_apart any_type (waits a b) None (λ x y t. meets spot.wanted spot.at (apply (operation inequality) (two x y)) bool_type) a b
infix_steps sign.Less spot s a b = alike_apart ordered false None (λ x y t. meets spot.wanted spot.at (apply (operation less_than) (two x y)) bool_type) a b
infix_steps sign.LessOrEqual spot s a b = alike_apart ordered false None (λ x y t. meets spot.wanted spot.at (apply (operation at_most) (two x y)) bool_type) a b
infix_steps sign.Greater spot s a b = alike_apart ordered false None (λ x y t. meets spot.wanted spot.at (apply (operation greater_than) (two x y)) bool_type) a b
infix_steps sign.GreaterOrEqual spot s a b = alike_apart ordered false None (λ x y t. meets spot.wanted spot.at (apply (operation at_least) (two x y)) bool_type) a b
infix_steps sign.Andalso spot s a b = refl
infix_steps sign.Orelse spot s a b = refl
infix_steps sign.Cons spot s a b = refl
infix_steps sign.Append spot s a b = joined_apart (list_wanted spot.wanted) (λ x y t. meets spot.wanted spot.at (apply (operation appending) (two x y)) t) a b
infix_steps sign.Later spot s a b = refl
infix_steps sign.Times spot s a b = refl

-- two operands in turn, and what they make, one step behind the other
in_turn_steps : (o : Infix) (w : Option PlainTy) (a b : Part) (make : TypedSides → Checked Typed)
    → (in_turn o w a b >>= make) ≡ (a.check w >>= λ x. side_test o x.type_of a.at >>= λ t. b.check (other_wanted o x.type_of) >>= λ y. make (record { left = x.expr; right = y.expr; first = x.type_of; last = y.type_of }))
in_turn_steps o w a b make =
    regrouped (a.check w) _ _ ∙ alike_behind (a.check w) _ _ (λ x. regrouped (side_test o x.type_of a.at) _ _ ∙ alike_behind (side_test o x.type_of a.at) _ _ (λ t. regrouped (b.check (other_wanted o x.type_of)) _ _))

steps_in_turn : (first : Bool) (o : Infix) (spot : Spot) (s : ℕ) (a b : Part) → steps first o spot s a b ≡ (if first then from_right o spot s a b else from_left o spot s a b)
steps_in_turn true o spot s a b = sym (in_turn_steps o (side_wanted o spot.wanted) b a (λ m. sides_make o spot s (turned m)))
steps_in_turn false o spot s a b = sym (in_turn_steps o (side_wanted o spot.wanted) a b (λ m. sides_make o spot s m))

pub infix_apart : (o : Infix) (spot : Spot) (s : ℕ) (a b : Part) → infix_rule o spot s a b ≡ from_sides o spot s a b
infix_apart o spot s a b = infix_steps o spot s a b ∙ steps_in_turn (is_right_first o spot.wanted (waits a b)) o spot s a b

prefix_apart : (o : Prefix) (spot : Spot) (a : Part) → prefix_rule o spot a ≡ (a.check (operand_wanted o) >>= operand_makes o spot a.at)
prefix_apart front.Not spot a = refl
prefix_apart front.Negate spot a = refl
prefix_apart (front.Component k) spot a = refl

-- what is made of the operand, and where it is refused
pub prefix_makes : (o : Prefix) (spot : Spot) (a : Part) (at : ℕ) (u : Option PlainTy) (x : Typed) → a.at ≡ at → u ≡ operand_wanted o → a.check u ≡ ok x → prefix_rule o spot a ≡ operand_makes o spot at x
prefix_makes o spot a at u x n v e =
    prefix_apart o spot a ∙ ap (λ w. a.check w >>= operand_makes o spot a.at) (sym v) ∙ ap (λ c. c >>= operand_makes o spot a.at) e ∙ ap (λ k. operand_makes o spot k x) n

pub prefix_refused : (q : Option Refusal) (o : Prefix) (spot : Spot) (a : Part) (u : Option PlainTy) → u ≡ operand_wanted o → Refuses q (a.check u) → Refuses q (prefix_rule o spot a)
prefix_refused q o spot a u v h =
    subst (Refuses q) (sym (prefix_apart o spot a ∙ ap (λ w. a.check w >>= operand_makes o spot a.at) (sym v))) (refused_behind q (a.check u) (operand_makes o spot a.at) h)
