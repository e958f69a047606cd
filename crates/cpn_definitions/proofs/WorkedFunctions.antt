-- A worked net whose guard, input arc and delay call functions, whose variables are of different colour sets, and one of whose
-- outputs reads the time: what its element needs and makes, and bindings that are none.
use Rattle.std.proofs.Common.{◌≡◌, ◌⊎◌, ℕ, pos, true, false, [], ◌∷◌, Some, refl, inl, inr, arith}
use Rattle.cpn_definitions.specs.Value.{int}
use Rattle.cpn_definitions.specs.Colour.{PlainColour, int_shape}
use Rattle.cpn_definitions.specs.Marking.{token_at, Marking}
use Rattle.cpn_definitions.specs.Inscription.{addition, less_than, PlainExpr, variable, local, the_time, one}
use Rattle.cpn_definitions.specs.Net.{PlainArc, PlainTransition, PlainNet}
use Rattle.cpn_definitions.specs.Outcome.{gives}
use Rattle.cpn_definitions.specs.Bindable.{equation}
use Rattle.cpn_definitions.specs.Meaning.{PlainBinding}
use Rattle.cpn_definitions.specs.Occurrence.{PlainElement, covered, needs_of, outputs_of, after}
use Rattle.cpn_definitions.specs.Sound.{IsSolvable}
use Rattle.cpn_definitions.proofs.ShortForms.{number, truth, of_two, call}
use Rattle.cpn_definitions.proofs.RisingLists.{in_from_contains, contains_from_in}

-- the numbers of two variables and of a place
abbrev digits : PlainColour
digits = record { shape = int_shape (pos 0) (pos 9); timed = false }

abbrev tens : PlainColour
tens = record { shape = int_shape (pos 10) (pos 90); timed = false }

abbrev numbers : PlainColour
numbers = record { shape = int_shape (pos 0) (pos 99); timed = true }

abbrev arc_with : PlainExpr → PlainArc
arc_with e = record { place = 0; colour = numbers; expr = one e; terms = [] }

-- the function f adds 1; the transition takes x, y and f(y) where f(x) < y, waits f(x), and gives the time
abbrev f : PlainExpr → PlainExpr
f e = call 0 (e ∷ [])

abbrev x : PlainExpr
x = variable 0

abbrev y : PlainExpr
y = variable 1

abbrev taking_three : PlainTransition
taking_three = record {
  name = [];
  guard = of_two less_than (f x) y ∷ [];
  delay = Some (f x);
  inputs = arc_with x ∷ arc_with y ∷ arc_with (f y) ∷ [];
  outputs = arc_with the_time ∷ [];
  vars = 0 ∷ 1 ∷ [];
}

abbrev net : PlainNet
net = record {
  places = record { name = []; colour = numbers } ∷ [];
  transitions = taking_three ∷ [];
  variables = record { name = []; colour = digits } ∷ record { name = []; colour = tens } ∷ [];
  constants = [];
  constructors = [];
  functions = record { parameters = 1; body = of_two addition (local 0) (number 1) } ∷ [];
}

abbrev bound_to : PlainBinding → PlainElement
bound_to b = record { transition = 0; binding = b }

abbrev with_both : ℕ → ℕ → PlainElement
with_both i j = bound_to ((0, int (pos i)) ∷ (1, int (pos j)) ∷ [])

-- a token of each of three numbers
abbrev tokens_of : ℕ → ℕ → ℕ → Marking
tokens_of i j k = (token_at (int (pos i)) 0 ∷ token_at (int (pos j)) 0 ∷ token_at (int (pos k)) 0 ∷ []) ∷ []

-- ---- what it needs and makes, with x = 3 and y = 20

needs_three : needs_of net (with_both 3 20) ≡ gives (record { place = 0; value = int (pos 3); offset = 0 } ∷ record { place = 0; value = int (pos 20); offset = 0 } ∷ record { place = 0; value = int (pos 21); offset = 0 } ∷ [])
unfolding needs_of
needs_three = refl

covered_by_three : covered net (tokens_of 3 20 21) 5 (with_both 3 20) ≡ true
unfolding covered needs_of
covered_by_three = refl

-- at 5, behind a delay of 4
gives_the_time : outputs_of net (with_both 3 20) 5 ≡ gives (record { place = 0; value = int (pos 5); stamp = 9 } ∷ [])
unfolding outputs_of
gives_the_time = refl

three_go : after net (tokens_of 3 20 21) 5 (with_both 3 20) ≡ Some ((token_at (int (pos 5)) 9 ∷ []) ∷ [])
unfolding after covered needs_of outputs_of
three_go = refl

-- ---- bindings with which it is not covered, for one reason each

-- f(9) < 10 is false
guard_is_false : covered net (tokens_of 9 10 11) 5 (with_both 9 10) ≡ false
unfolding covered needs_of
guard_is_false = refl

-- 7 is a digit, and no value of y
only_the_first_has_it : covered net (tokens_of 3 7 8) 5 (with_both 3 7) ≡ false
unfolding covered needs_of
only_the_first_has_it = refl

-- 12 is a value of y, and no digit
only_the_second_has_it : covered net (tokens_of 12 20 21) 5 (with_both 12 20) ≡ false
unfolding covered needs_of
only_the_second_has_it = refl

-- the variables stand in declaration order
turned : covered net (tokens_of 3 20 21) 5 (bound_to ((1, int (pos 20)) ∷ (0, int (pos 3)) ∷ [])) ≡ false
unfolding covered needs_of
turned = refl

-- ---- guards that are not solvable, for one reason each

abbrev guarded_by : PlainExpr → PlainTransition
guarded_by e = record { name = []; guard = e ∷ []; delay = Some (number 0); inputs = []; outputs = []; vars = 0 ∷ [] }

-- y is none of its variables
guard_reads_another_variable : IsSolvable net (guarded_by (of_two less_than x y)) → ⊥
guard_reads_another_variable solvable = split (in_from_contains (0 ∷ []) 1 (solvable.guard_listed 1 (contains_from_in (0 ∷ 1 ∷ []) 1 (inr (inl refl)))))
  where
    split : ◌≡◌ {A = ℕ} 0 1 ⊎ ⊥ → ⊥
    split (inl same) = absurd (omega (arith, same))
    split (inr none) = none

-- x = 1 + true
abbrev no_sum : PlainExpr
no_sum = of_two addition (number 1) (truth true)

equation_without_meaning : IsSolvable net (guarded_by (equation x no_sum)) → ⊥
equation_without_meaning solvable =
    solvable.equations_mean 0 no_sum
    (record { conjunct = equation x no_sum; is_conjunct = contains_from_in (equation x no_sum ∷ []) (equation x no_sum) (inl refl); part = equation x no_sum; is_part = contains_from_in (equation x no_sum ∷ []) (equation x no_sum) (inl refl); is_equation = inl refl })
    [] [] refl (λ z h. h) refl
