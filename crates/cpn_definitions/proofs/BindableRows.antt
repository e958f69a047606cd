-- Worked cases of binding terms, of what a guard splits into, and of bindable variables: by a term, by a small colour set, by
-- the guard, and not at all.
use Rattle.std.proofs.Common.{◌≡◌, ◌⊎◌, ℕ, true, false, List, [], ◌∷◌, map, Some, None, refl, sym, subst, inl, inr, arith, slice_index_or}
use Rattle.cpn_definitions.specs.Value.{unit, boolean, constant, text}
use Rattle.cpn_definitions.specs.Colour.{PlainColour, boolean_shape}
use Rattle.cpn_definitions.specs.Inscription.{addition, subtraction, negation, cons, appending, constructing, PlainPattern, any_pattern, variable_pattern, literal_pattern, tuple_pattern, list_pattern, cons_pattern, bare_pattern, applied_pattern, patterns_from, PlainExpr, literal, variable, local, the_time, apply, conjunction, disjunction, choose, select, bind, accumulate, exprs_from, arms_from, ArcInscription, no_token, one, times, sum_of, chosen, bound, inscriptions_from}
use Rattle.cpn_definitions.specs.Net.{BindingTerm, PlainArc, PlainTransition, PlainNet, Coloured, nothing}
use Rattle.cpn_definitions.specs.Bindable.{pattern_of, binding_terms, pattern_variables, variables_of, conjuncts_of, equation, IsInTerm, IsEquated, IsSmall, IsBindable, by_term, by_size, by_guard, AreBindable, no_more, and_more}
use Rattle.cpn_definitions.specs.Sound.{IsSoundTransition}
use Rattle.cpn_definitions.proofs.ShortForms.{negative, number, minus, string, of_one, of_two, pair, items, call, number_pattern}
use Rattle.cpn_definitions.proofs.RisingLists.{IsIn, contains_from_in, in_from_contains}
use Rattle.cpn_definitions.proofs.SmallColours.{all_of_64_bits, all_of_64_bits_are_not_small, truths_are_small}

-- four variables, and what a pattern does with each
abbrev x : PlainExpr
x = variable 0

abbrev y : PlainExpr
y = variable 1

abbrev z : PlainExpr
z = variable 2

abbrev w : PlainExpr
w = variable 3

abbrev name : ℕ → PlainPattern
name k = variable_pattern k

abbrev term : ℕ → PlainPattern → BindingTerm
term count p = record { count = count; pattern = p }

abbrev sum : List ArcInscription → ArcInscription
sum ms = sum_of (inscriptions_from ms)

-- ---- inscriptions as patterns

pattern_of_a_variable : pattern_of x ≡ Some (name 0)
pattern_of_a_variable = refl

pattern_of_literals : map pattern_of (number 3 ∷ minus 5 ∷ string (97 ∷ []) ∷ literal (constant 1) ∷ literal unit ∷ []) ≡ Some (number_pattern 3) ∷ Some (literal_pattern (negative 5)) ∷ Some (literal_pattern (text (97 ∷ []))) ∷ Some (literal_pattern (constant 1)) ∷ Some (literal_pattern unit) ∷ []
pattern_of_literals = refl

pattern_of_a_pair : pattern_of (pair x (pair y (number 1))) ≡ Some (tuple_pattern (patterns_from (name 0 ∷ tuple_pattern (patterns_from (name 1 ∷ number_pattern 1 ∷ [])) ∷ [])))
pattern_of_a_pair = refl

pattern_of_a_list : pattern_of (items (x ∷ y ∷ [])) ≡ Some (list_pattern (patterns_from (name 0 ∷ name 1 ∷ [])))
pattern_of_a_list = refl

pattern_of_no_items : pattern_of (items []) ≡ Some (list_pattern (patterns_from []))
pattern_of_no_items = refl

pattern_of_head_and_tail : pattern_of (of_two cons x y) ≡ Some (cons_pattern (name 0) (name 1))
pattern_of_head_and_tail = refl

pattern_of_a_constructor : pattern_of (apply (constructing 2) (exprs_from [])) ≡ Some (bare_pattern 2)
pattern_of_a_constructor = refl

pattern_of_an_argument : pattern_of (apply (constructing 2) (exprs_from (x ∷ []))) ≡ Some (applied_pattern 2 (name 0))
pattern_of_an_argument = refl

-- anything else is none, nor what has such a part
no_patterns : map pattern_of (of_two addition x y ∷ of_one negation (number 5) ∷ of_two appending x y ∷ local 0 ∷ the_time ∷ call 0 (x ∷ []) ∷ choose x x x ∷ bind x x ∷ pair x (of_two addition x y) ∷ items (local 0 ∷ []) ∷ of_two cons (call 0 []) x ∷ apply (constructing 1) (exprs_from (the_time ∷ [])) ∷ []) ≡ None ∷ None ∷ None ∷ None ∷ None ∷ None ∷ None ∷ None ∷ None ∷ None ∷ None ∷ None ∷ []
no_patterns = refl

-- ---- binding terms

root_alone : binding_terms (one x) ≡ term 1 (name 0) ∷ []
root_alone = refl

root_with_a_coefficient : binding_terms (times (number 3) x) ≡ term 3 (name 0) ∷ []
root_with_a_coefficient = refl

parts_of_the_root_sum : binding_terms (sum (one x ∷ times (number 2) (pair x y) ∷ no_token ∷ one (number 1) ∷ [])) ≡ term 1 (name 0) ∷ term 2 (tuple_pattern (patterns_from (name 0 ∷ name 1 ∷ []))) ∷ term 1 (number_pattern 1) ∷ []
parts_of_the_root_sum = refl

-- (1`x ++ 1`y) ++ 1`z
nested_sum_binds_nothing : binding_terms (sum (sum (times (number 1) x ∷ times (number 1) y ∷ []) ∷ times (number 1) z ∷ [])) ≡ term 1 (name 2) ∷ []
nested_sum_binds_nothing = refl

zero_binds_nothing : binding_terms (times (number 0) x) ≡ []
zero_binds_nothing = refl

negative_binds_nothing : binding_terms (times (minus 1) x) ≡ []
negative_binds_nothing = refl

computed_coefficient_binds_nothing : binding_terms (times (of_two addition (number 1) (number 1)) x) ≡ []
computed_coefficient_binds_nothing = refl

variable_coefficient_binds_nothing : binding_terms (times y x) ≡ []
variable_coefficient_binds_nothing = refl

-- 1`~5 and 1`~ 5
negative_literal_binds : binding_terms (times (number 1) (minus 5)) ≡ term 1 (literal_pattern (negative 5)) ∷ []
negative_literal_binds = refl

negation_binds_nothing : binding_terms (times (number 1) (of_one negation (number 5))) ≡ []
negation_binds_nothing = refl

no_pattern_binds_nothing : binding_terms (sum (one (of_two addition x (number 1)) ∷ one (choose x y y) ∷ [])) ≡ []
no_pattern_binds_nothing = refl

branches_bind_nothing : binding_terms (sum (chosen (literal (boolean true)) (one x) (one y) ∷ bound x (one y) ∷ [])) ≡ []
branches_bind_nothing = refl

no_token_binds_nothing : binding_terms no_token ≡ []
no_token_binds_nothing = refl

variables_of_a_pattern : pattern_variables (tuple_pattern (patterns_from (name 3 ∷ any_pattern ∷ cons_pattern (name 0) (applied_pattern 1 (name 2)) ∷ bare_pattern 0 ∷ list_pattern (patterns_from (name 3 ∷ number_pattern 1 ∷ [])) ∷ []))) ≡ 3 ∷ 0 ∷ 2 ∷ 3 ∷ []
variables_of_a_pattern = refl

-- ---- variables and conjuncts

variables_as_they_stand : variables_of (bind (of_two addition y x) (choose (conjunction x (disjunction z w)) (select y (arms_from ((name 5, z) ∷ (any_pattern, w) ∷ []))) (accumulate z (call 1 (x ∷ the_time ∷ [])) (pair (local 0) y)))) ≡ 1 ∷ 0 ∷ 0 ∷ 2 ∷ 3 ∷ 1 ∷ 2 ∷ 3 ∷ 2 ∷ 0 ∷ 1 ∷ []
variables_as_they_stand = refl

split_at_the_root : conjuncts_of (conjunction (conjunction x y) (conjunction z w)) ≡ x ∷ y ∷ z ∷ w ∷ []
split_at_the_root = refl

one_conjunct : conjuncts_of (disjunction (conjunction x y) z) ≡ disjunction (conjunction x y) z ∷ []
one_conjunct = refl

-- ---- a transition with x and w in tokens, and the guard `w andalso x + 1 = y, z = y * x`

abbrev coloured : PlainColour → Coloured
coloured colour = record { name = []; colour = colour }

abbrev truths : PlainColour
truths = record { shape = boolean_shape; timed = false }

-- x, y and z are integers, w is a truth value
abbrev net_with : PlainTransition → PlainNet
net_with t = record {
  places = coloured all_of_64_bits ∷ [];
  transitions = t ∷ [];
  variables = coloured all_of_64_bits ∷ coloured all_of_64_bits ∷ coloured all_of_64_bits ∷ coloured truths ∷ [];
  constants = [];
  constructors = [];
  functions = [];
}

abbrev input : ArcInscription → PlainArc
input m = record { place = 0; colour = all_of_64_bits; expr = m; terms = binding_terms m }

abbrev transition : List PlainExpr → ArcInscription → PlainTransition
transition guard m = record { name = []; guard = guard; delay = None; inputs = input m ∷ []; outputs = []; vars = 0 ∷ 1 ∷ 2 ∷ 3 ∷ [] }

abbrev chain : PlainTransition
chain = transition (conjunction w (equation (of_two addition x (number 1)) y) ∷ equation z (of_two subtraction y x) ∷ []) (sum (one (number 1) ∷ times (number 2) x ∷ []))

x_by_a_term : IsBindable (net_with chain) chain 0
x_by_a_term = by_term 0 (record { arc = input (sum (one (number 1) ∷ times (number 2) x ∷ [])); is_input = (0, omega arith, refl); term = term 2 (name 0); is_term = (1, omega arith, refl); is_in = (0, omega arith, refl) })

w_by_its_colour_set : IsBindable (net_with chain) chain 3
w_by_its_colour_set = by_size 3 truths_are_small

-- x + 1 = y, behind `andalso`
y_by_the_guard : IsBindable (net_with chain) chain 1
y_by_the_guard = by_guard 1 (of_two addition x (number 1)) (record { conjunct = conjunction w (equation (of_two addition x (number 1)) y); is_conjunct = (0, omega arith, refl); part = equation (of_two addition x (number 1)) y; is_part = (1, omega arith, refl); is_equation = inr refl }) (and_more 0 [] x_by_a_term no_more)

-- z = y - x, the second conjunct, where y is bindable by the first
z_by_the_guard : IsBindable (net_with chain) chain 2
z_by_the_guard = by_guard 2 (of_two subtraction y x) (record { conjunct = equation z (of_two subtraction y x); is_conjunct = (1, omega arith, refl); part = equation z (of_two subtraction y x); is_part = (0, omega arith, refl); is_equation = inl refl }) (and_more 1 (0 ∷ []) y_by_the_guard (and_more 0 [] x_by_a_term no_more))

-- ---- not bindable: x and y, where the guard says no more than `x = y`, and the one input arc is 0`x

abbrev circle : PlainTransition
circle = transition (equation x y ∷ []) (times (number 0) x)

-- the one conjunct is no other, so x is equated to y alone, and y to x alone
equated_to : (k : ℕ) (e : PlainExpr) → IsEquated circle k e → (e ≡ variable 0) ⊎ (e ≡ variable 1)
equated_to k e is = by_part (in_from_contains (conjuncts_of is.conjunct) is.part is.is_part) (in_from_contains circle.guard is.conjunct is.is_conjunct) is.is_equation
  where
    sides : (equation x y ≡ equation (variable k) e) ⊎ (equation x y ≡ equation e (variable k)) → (e ≡ variable 0) ⊎ (e ≡ variable 1)
    sides (inl same) = inr cc
    sides (inr same) = inl cc

    only : (c p : PlainExpr) → equation x y ≡ c → IsIn p (conjuncts_of c) → equation x y ≡ p
    only c p same in' = first (subst (λ d. IsIn p (conjuncts_of d)) (sym same) in')
      where
        first : IsIn p (equation x y ∷ []) → equation x y ≡ p
        first (inl is) = is
        first (inr none) = absurd none

    by_part : IsIn is.part (conjuncts_of is.conjunct) → IsIn is.conjunct circle.guard → (is.part ≡ equation (variable k) e) ⊎ (is.part ≡ equation e (variable k)) → (e ≡ variable 0) ⊎ (e ≡ variable 1)
    by_part in' (inl same) which = sides (subst (λ p. (p ≡ equation (variable k) e) ⊎ (p ≡ equation e (variable k))) (sym (only is.conjunct is.part same in')) which)
    by_part in' (inr none) which = absurd none

-- no variable stands in a term
in_no_term : (k : ℕ) → IsInTerm circle k → ⊥
in_no_term k is = by_arc (in_from_contains circle.inputs is.arc is.is_input) (in_from_contains (binding_terms is.arc.expr) is.term is.is_term)
  where
    by_arc : IsIn is.arc circle.inputs → IsIn is.term (binding_terms is.arc.expr) → ⊥
    by_arc (inl same) in' = subst (λ arc. IsIn is.term (binding_terms arc.expr)) (sym same) in'
    by_arc (inr none) in' = absurd none

-- of the two numbers
abbrev IsOfBoth : ℕ → Type 0
IsOfBoth k = (k ≡ 0) ⊎ (k ≡ 1)

not_small_either : (k : ℕ) → IsOfBoth k → IsSmall (slice_index_or (net_with circle).variables k nothing).colour → ⊥
not_small_either k (inl is) small = all_of_64_bits_are_not_small (subst (λ j. IsSmall (slice_index_or (net_with circle).variables j nothing).colour) is small)
not_small_either k (inr is) small = all_of_64_bits_are_not_small (subst (λ j. IsSmall (slice_index_or (net_with circle).variables j nothing).colour) is small)

one_of_both : (e : PlainExpr) → (e ≡ variable 0) ⊎ (e ≡ variable 1) → IsIn 0 (variables_of e) ⊎ IsIn 1 (variables_of e)
one_of_both e (inl is) = inl (subst (λ d. IsIn 0 (variables_of d)) (sym is) (inl refl))
one_of_both e (inr is) = inr (subst (λ d. IsIn 1 (variables_of d)) (sym is) (inl refl))

mutual
  neither_is : (k : ℕ) → IsBindable (net_with circle) circle k → IsOfBoth k → ⊥
  neither_is k (by_term _ is) of = in_no_term k is
  neither_is k (by_size _ small) of = not_small_either k of small
  neither_is k (by_guard _ e is all) of = nor_with (variables_of e) all (one_of_both e (equated_to k e is))

  nor_with : (ks : List ℕ) → AreBindable (net_with circle) circle ks → IsIn 0 ks ⊎ IsIn 1 ks → ⊥
  nor_with [] no_more (inl none) = absurd none
  nor_with [] no_more (inr none) = absurd none
  nor_with (j ∷ ks) (and_more _ _ first rest) (inl (inl is)) = neither_is j first (inl is)
  nor_with (j ∷ ks) (and_more _ _ first rest) (inl (inr in')) = nor_with ks rest (inl in')
  nor_with (j ∷ ks) (and_more _ _ first rest) (inr (inl is)) = neither_is j first (inr is)
  nor_with (j ∷ ks) (and_more _ _ first rest) (inr (inr in')) = nor_with ks rest (inr in')

x_is_not_bindable : IsBindable (net_with circle) circle 0 → ⊥
x_is_not_bindable is = neither_is 0 is (inl refl)

y_is_not_bindable : IsBindable (net_with circle) circle 1 → ⊥
y_is_not_bindable is = neither_is 1 is (inr refl)

-- so the transition is not sound, however its arcs and guard mean
circle_is_not_sound : IsSoundTransition (net_with circle) circle → ⊥
circle_is_not_sound sound = x_is_not_bindable (sound.bindable 0 (contains_from_in circle.vars 0 (inl refl)))
