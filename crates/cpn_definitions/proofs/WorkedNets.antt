-- Worked nets: when elements are covered, the least time, what an occurrence does, a legal sequence and sequences that are
-- none, and transitions, arcs and markings that are not sound.
use Rattle.std.proofs.Common.{◌≡◌, ℕ, zero, suc, ◌+◌, ◌<◌, ◌≤◌, ◌==◌, pos, negsuc, Bool, true, false, ◌&&◌, cond, nat_lt, nat_le, List, [], ◌∷◌, map, Some, None, refl, sym, ap, ◌∙◌, arith, inl, replicate, Less, Equal, Greater}
use Rattle.std.proofs.lemmas.Bool.Decides.{nat_tests}
use Rattle.cpn_definitions.specs.Value.{PlainValue, boolean, int}
use Rattle.cpn_definitions.specs.Order.{same_value}
use Rattle.cpn_definitions.specs.ValueOrder.{same_value_refl}
use Rattle.cpn_definitions.specs.Colour.{PlainColour, int_shape, admits}
use Rattle.cpn_definitions.specs.Lists.{in_order}
use Rattle.cpn_definitions.specs.Marking.{PlainToken, token_at, Marking, stamps, covers}
use Rattle.cpn_definitions.specs.Inscription.{PlainExpr, literal, variable, one, later}
use Rattle.cpn_definitions.specs.Net.{PlainArc, PlainTransition, PlainNet}
use Rattle.cpn_definitions.specs.Outcome.{gives, faults, no_meaning, not_in_colour, bad_delay}
use Rattle.cpn_definitions.specs.Meaning.{PlainBinding}
use Rattle.cpn_definitions.specs.Terms.{delay_of}
use Rattle.cpn_definitions.specs.Occurrence.{PlainElement, Needed, Made, needed_cmp, made_cmp, threshold, are_covered, covered, needs_of, outputs_of, after}
use Rattle.cpn_definitions.specs.Legal.{LeastTime, Legal}
use Rattle.cpn_definitions.specs.Sound.{IsSoundArc, IsSoundInput, IsSoundTransition, IsSound, IsMarking, IsUntimed}
use Rattle.cpn_definitions.proofs.UntimedNets.{legal_is_at_clock}

-- ---- a timed place A, and a transition that takes x twice from it and gives x + 0 to an untimed place B

abbrev times : PlainColour
times = record { shape = int_shape (pos 0) (pos 9); timed = true }

abbrev digits : PlainColour
digits = record { shape = int_shape (pos 0) (pos 9); timed = false }

abbrev arc_of : ℕ → PlainColour → PlainExpr → PlainArc
arc_of p colour e = record { place = p; colour = colour; expr = one e; terms = [] }

abbrev take_two : PlainTransition
take_two = record { name = []; guard = []; delay = Some (literal (int (pos 3))); inputs = arc_of 0 times (variable 0) ∷ arc_of 0 times (variable 0) ∷ []; outputs = arc_of 1 digits (variable 0) ∷ arc_of 0 times (literal (int (pos 2))) ∷ []; vars = 0 ∷ [] }

abbrev timed_net : PlainNet
timed_net = record { places = record { name = []; colour = times } ∷ record { name = []; colour = digits } ∷ []; transitions = take_two ∷ []; variables = record { name = []; colour = digits } ∷ []; constants = []; constructors = []; functions = [] }

abbrev with_x : ℕ → PlainElement
with_x k = record { transition = 0; binding = (0, int (pos k)) ∷ [] }

abbrev seven : ℕ → PlainToken
seven stamp = token_at (int (pos 7)) stamp

abbrev two_sevens : Marking
two_sevens = (seven 1 ∷ seven 4 ∷ []) ∷ [] ∷ []

not_yet_covered : covered timed_net two_sevens 3 (with_x 7) ≡ false
unfolding covered needs_of
not_yet_covered = refl

covered_now : covered timed_net two_sevens 4 (with_x 7) ≡ true
unfolding covered needs_of
covered_now = refl

-- one token is no cover for two needs, at no time that is tried
one_is_too_few : covered timed_net ((seven 1 ∷ []) ∷ [] ∷ []) 9 (with_x 7) ≡ false
unfolding covered needs_of
one_is_too_few = refl

-- another value is no cover
other_value : covered timed_net two_sevens 4 (with_x 6) ≡ false
unfolding covered needs_of
other_value = refl

-- bindings that are none, for one reason each: the transition takes 7, whatever its variable is
abbrev asking_for_seven : PlainNet
asking_for_seven = record {
  places = record { name = []; colour = times } ∷ [];
  transitions = record { name = []; guard = []; delay = None; inputs = arc_of 0 times (literal (int (pos 7))) ∷ []; outputs = []; vars = 0 ∷ [] } ∷ [];
  variables = record { name = []; colour = digits } ∷ record { name = []; colour = digits } ∷ [];
  constants = [];
  constructors = [];
  functions = [];
}

abbrev bound_to : PlainBinding → PlainElement
bound_to b = record { transition = 0; binding = b }

admitted : covered asking_for_seven two_sevens 1 (bound_to ((0, int (pos 9)) ∷ [])) ≡ true
unfolding covered needs_of
admitted = refl

-- a value that the variable's colour set does not admit
not_admitted : covered asking_for_seven two_sevens 1 (bound_to ((0, int (pos 10)) ∷ [])) ≡ false
unfolding covered needs_of
not_admitted = refl

-- another variable of the net
other_variable : covered asking_for_seven two_sevens 1 (bound_to ((1, int (pos 9)) ∷ [])) ≡ false
unfolding covered needs_of
other_variable = refl

bound_twice : covered asking_for_seven two_sevens 1 (bound_to ((0, int (pos 9)) ∷ (0, int (pos 9)) ∷ [])) ≡ false
unfolding covered needs_of
bound_twice = refl

not_bound : covered asking_for_seven two_sevens 1 (bound_to []) ≡ false
unfolding covered needs_of
not_bound = refl

-- no transition of the net
no_transition_of_the_net : covered timed_net two_sevens 4 (record { transition = 1; binding = [] }) ≡ false
unfolding covered needs_of
no_transition_of_the_net = refl

-- which needs nothing
nothing_past_the_last_transition : needs_of timed_net (record { transition = 1; binding = [] }) ≡ gives []
unfolding needs_of
nothing_past_the_last_transition = refl

-- both tokens go; the outputs have the time plus the delay on the timed place, and stamp 0 on the untimed one
both_go : after timed_net two_sevens 4 (with_x 7) ≡ Some ((token_at (int (pos 2)) 7 ∷ []) ∷ (seven 0 ∷ []) ∷ [])
unfolding after covered needs_of outputs_of
both_go = refl

-- ---- a loop takes before it adds

abbrev loop_net : PlainNet
loop_net = record { places = record { name = []; colour = times } ∷ []; transitions = record { name = []; guard = []; delay = None; inputs = arc_of 0 times (variable 0) ∷ []; outputs = arc_of 0 times (variable 0) ∷ []; vars = 0 ∷ [] } ∷ []; variables = record { name = []; colour = digits } ∷ []; constants = []; constructors = []; functions = [] }

takes_before_it_adds : after loop_net ((seven 1 ∷ []) ∷ []) 4 (with_x 7) ≡ Some ((seven 4 ∷ []) ∷ [])
unfolding after covered needs_of outputs_of
takes_before_it_adds = refl

-- the outputs stand place by place, whatever the order of the arcs
outputs_by_place : outputs_of timed_net (with_x 7) 4 ≡ gives (record { place = 0; value = int (pos 2); stamp = 7 } ∷ record { place = 1; value = int (pos 7); stamp = 0 } ∷ [])
unfolding outputs_of
outputs_by_place = refl

-- ---- an input arc with a delay of 3: a token may be taken 3 before its stamp

abbrev early_net : PlainNet
early_net = record {
  places = record { name = []; colour = times } ∷ [];
  transitions = record { name = []; guard = []; delay = None; inputs = record { place = 0; colour = times; expr = later (one (variable 0)) (literal (int (pos 3))); terms = [] } ∷ []; outputs = []; vars = 0 ∷ [] } ∷ [];
  variables = record { name = []; colour = digits } ∷ [];
  constants = [];
  constructors = [];
  functions = [];
}

needed_with_its_delay : needs_of early_net (with_x 7) ≡ gives (record { place = 0; value = int (pos 7); offset = 3 } ∷ [])
unfolding needs_of
needed_with_its_delay = refl

three_before_its_stamp : covered early_net ((seven 7 ∷ []) ∷ []) 4 (with_x 7) ≡ true
unfolding covered needs_of
three_before_its_stamp = refl

not_four_before_its_stamp : covered early_net ((seven 7 ∷ []) ∷ []) 3 (with_x 7) ≡ false
unfolding covered needs_of
not_four_before_its_stamp = refl

-- of several the latest that may be taken goes
the_latest_of_these : after early_net ((seven 5 ∷ seven 7 ∷ seven 8 ∷ []) ∷ []) 4 (with_x 7) ≡ Some ((seven 5 ∷ seven 8 ∷ []) ∷ [])
unfolding after covered needs_of outputs_of
the_latest_of_these = refl

-- ---- no occurrence of what is not covered

nothing_before_four : after timed_net two_sevens 3 (with_x 7) ≡ None
unfolding after covered needs_of outputs_of
nothing_before_four = refl

-- ---- guards, delays and outputs of a transition that takes x and gives a literal

abbrev giving : List PlainExpr → PlainExpr → PlainExpr → PlainNet
giving guard delay output = record {
  places = record { name = []; colour = times } ∷ [];
  transitions = record { name = []; guard = guard; delay = Some delay; inputs = arc_of 0 times (variable 0) ∷ []; outputs = arc_of 0 times output ∷ []; vars = 0 ∷ [] } ∷ [];
  variables = record { name = []; colour = digits } ∷ [];
  constants = [];
  constructors = [];
  functions = [];
}

abbrev truth : Bool → PlainExpr
truth b = literal (boolean b)

abbrev number : ℕ → PlainExpr
number k = literal (int (pos k))

a_true_guard : covered (giving (truth true ∷ truth true ∷ []) (number 0) (number 2)) ((seven 1 ∷ []) ∷ []) 1 (with_x 7) ≡ true
unfolding covered needs_of
a_true_guard = refl

first_conjunct_false : covered (giving (truth false ∷ truth true ∷ []) (number 0) (number 2)) ((seven 1 ∷ []) ∷ []) 1 (with_x 7) ≡ false
unfolding covered needs_of
first_conjunct_false = refl

second_conjunct_false : covered (giving (truth true ∷ truth false ∷ []) (number 0) (number 2)) ((seven 1 ∷ []) ∷ []) 1 (with_x 7) ≡ false
unfolding covered needs_of
second_conjunct_false = refl

-- an output outside the colour set of its place is a fault, and nothing occurs, though the element is covered
an_output_too_large : outputs_of (giving [] (number 0) (number 10)) (with_x 7) 1 ≡ faults not_in_colour
unfolding outputs_of
an_output_too_large = refl

covered_and_faulted : covered (giving [] (number 0) (number 10)) ((seven 1 ∷ []) ∷ []) 1 (with_x 7) ≡ true
unfolding covered needs_of
covered_and_faulted = refl

no_marking_after_a_fault : after (giving [] (number 0) (number 10)) ((seven 1 ∷ []) ∷ []) 1 (with_x 7) ≡ None
unfolding after covered needs_of outputs_of
no_marking_after_a_fault = refl

-- the delay's fault comes before an output's
delay_faults_first : outputs_of (giving [] (literal (int (negsuc 0))) (number 10)) (with_x 7) 1 ≡ faults bad_delay
unfolding outputs_of
delay_faults_first = refl

-- an input outside the colour set of its place is needed nowhere
abbrev asking_for_ten : PlainNet
asking_for_ten = record {
  places = record { name = []; colour = digits } ∷ [];
  transitions = record { name = []; guard = []; delay = None; inputs = arc_of 0 digits (number 10) ∷ []; outputs = []; vars = [] } ∷ [];
  variables = [];
  constants = [];
  constructors = [];
  functions = [];
}

an_input_too_large : covered asking_for_ten ((token_at (int (pos 10)) 0 ∷ []) ∷ []) 0 (record { transition = 0; binding = [] }) ≡ false
unfolding covered needs_of
an_input_too_large = refl

no_delay_below_zero : delay_of (int (negsuc 0)) ≡ faults bad_delay
no_delay_below_zero = refl

no_delay_of_a_truth_value : delay_of (boolean true) ≡ no_meaning
no_delay_of_a_truth_value = refl

the_greatest_delay : delay_of (int (pos 4611686018427387904)) ≡ gives 4611686018427387904
the_greatest_delay = refl

one_too_great : delay_of (int (pos 4611686018427387905)) ≡ faults bad_delay
one_too_great = refl

-- ---- needs and outputs in order: by place, then by value, then by offset or stamp

abbrev needing : ℕ → ℕ → ℕ → Needed
needing place value offset = record { place = place; value = int (pos value); offset = offset }

needs_by_place : needed_cmp (needing 0 9 9) (needing 1 2 2) ≡ Less
needs_by_place = refl

needs_by_value : needed_cmp (needing 0 2 9) (needing 0 9 2) ≡ Less
needs_by_value = refl

needs_by_offset : needed_cmp (needing 0 2 9) (needing 0 2 2) ≡ Greater
needs_by_offset = refl

abbrev making : ℕ → ℕ → ℕ → Made
making place value stamp = record { place = place; value = int (pos value); stamp = stamp }

made_by_place : made_cmp (making 0 9 9) (making 1 2 2) ≡ Less
made_by_place = refl

made_by_value : made_cmp (making 0 2 9) (making 0 9 2) ≡ Less
made_by_value = refl

made_by_stamp : made_cmp (making 0 2 9) (making 0 2 2) ≡ Greater
made_by_stamp = refl

-- one token of each of two values, and on each of two places, covers a need for each
two_values : are_covered (threshold 0) ((token_at (int (pos 6)) 0 ∷ seven 0 ∷ []) ∷ []) (needing 0 6 0 ∷ needing 0 7 0 ∷ []) ≡ true
two_values = refl

two_places : are_covered (threshold 0) ((seven 0 ∷ []) ∷ (seven 0 ∷ []) ∷ []) (needing 0 7 0 ∷ needing 1 7 0 ∷ []) ≡ true
two_places = refl

the_second_is_missing : are_covered (threshold 0) ((seven 0 ∷ []) ∷ [] ∷ []) (needing 0 7 0 ∷ needing 1 7 0 ∷ []) ≡ false
the_second_is_missing = refl

-- ---- two thresholds in either order

abbrev need : ℕ → Needed
need offset = record { place = 0; value = int (pos 7); offset = offset }

either_order : in_order needed_cmp (need 3 ∷ need 0 ∷ []) ≡ in_order needed_cmp (need 0 ∷ need 3 ∷ [])
either_order = refl

smaller_first : in_order needed_cmp (need 3 ∷ need 0 ∷ []) ≡ need 0 ∷ need 3 ∷ []
smaller_first = refl

-- the stamps 1 and 4 cover the offsets 0 and 3 at 1, not at 0
not_at_zero : are_covered (threshold 0) two_sevens (need 0 ∷ need 3 ∷ []) ≡ false
not_at_zero = refl

at_one : are_covered (threshold 1) two_sevens (need 0 ∷ need 3 ∷ []) ≡ true
at_one = refl

-- thresholds are sorted before they are held against stamps
sorted_first : are_covered (threshold 1) two_sevens (need 3 ∷ need 0 ∷ []) ≡ true
sorted_first = refl

-- ---- the least time

-- sevens with the stamp k, and more behind it
abbrev sevens : ℕ → List ℕ → Marking
sevens k more = map seven (k ∷ more) ∷ []

abbrev take_one : PlainTransition
take_one = record { name = []; guard = []; delay = None; inputs = arc_of 0 times (variable 0) ∷ []; outputs = []; vars = 0 ∷ [] }

abbrev waiting_net : PlainNet
waiting_net = record { places = record { name = []; colour = times } ∷ []; transitions = take_one ∷ []; variables = record { name = []; colour = digits } ∷ []; constants = []; constructors = []; functions = [] }

stamps_of_sevens : (v : PlainValue) (ss : List ℕ) → stamps v (map seven ss) ≡ cond (same_value v (int (pos 7))) ss []
stamps_of_sevens v [] = split (same_value v (int (pos 7)))
  where
    split : (b : Bool) → ◌≡◌ {A = List ℕ} [] (cond b [] [])
    split true = refl
    split false = refl
stamps_of_sevens v (s ∷ ss) = split (same_value v (int (pos 7))) (stamps_of_sevens v ss)
  where
    split : (b : Bool) → stamps v (map seven ss) ≡ cond b ss [] → cond b (s ∷ stamps v (map seven ss)) (stamps v (map seven ss)) ≡ cond b (s ∷ ss) []
    split true rest = ap (λ ts. s ∷ ts) rest
    split false rest = rest

-- they cover a threshold below k nowhere
early : (v : PlainValue) (k : ℕ) (more : List ℕ) (s : ℕ) → s < k → covers (stamps v (map seven (k ∷ more))) (s ∷ []) ≡ false
early v k more s before = ap (λ ts. covers ts (s ∷ [])) (stamps_of_sevens v (k ∷ more)) ∙ split (same_value v (int (pos 7)))
  where
    too_late : nat_le k s ≡ false
    too_late = grind (arith, nat_tests)

    split : (b : Bool) → covers (cond b (k ∷ more) []) (s ∷ []) ≡ false
    split true = ap (λ b. b && true) too_late
    split false = refl

past_the_last : (t : ℕ) → nat_lt (suc t) 1 ≡ false
past_the_last t = grind (arith, nat_tests)

one_binding : (k : ℕ) (more : List ℕ) (pair : ℕ × PlainValue) (s : ℕ) → s < k → (a c : Bool) → (0 == pair.0) ≡ a → admits digits pair.1 ≡ c → covered waiting_net (sevens k more) s (record { transition = 0; binding = pair ∷ [] }) ≡ false
unfolding covered needs_of
one_binding k more pair s before false c named fits = rw named refl
one_binding k more pair s before true false named fits = rw (named, fits) refl
one_binding k more pair s before true true named fits = let none = early pair.1 k more (s + 0) (omega arith) in rw (named, fits, same_value_refl pair.1, none) refl

two_bound : (a c x : Bool) → ((a && c && false) && true && x) ≡ false
two_bound true true x = refl
two_bound true false x = refl
two_bound false c x = refl

none_of : (k : ℕ) (more : List ℕ) (t : ℕ) (b : PlainBinding) (s : ℕ) → s < k → covered waiting_net (sevens k more) s (record { transition = t; binding = b }) ≡ false
unfolding covered needs_of
none_of k more (suc t) b s before = rw (past_the_last t) refl
none_of k more zero [] s before = refl
none_of k more zero (pair ∷ other ∷ pairs) s before = two_bound (0 == pair.0) (admits digits pair.1) _
none_of k more zero (pair ∷ []) s before = one_binding k more pair s before (0 == pair.0) (admits digits pair.1) refl refl

none_before : (k : ℕ) (more : List ℕ) (s : ℕ) (e : PlainElement) → s < k → covered waiting_net (sevens k more) s e ≡ false
none_before k more s e before = none_of k more e.transition e.binding s before

at_ten : covered waiting_net (sevens 10 (20 ∷ [])) 10 (with_x 7) ≡ true
unfolding covered needs_of
at_ten = refl

least_is_ten : LeastTime waiting_net (sevens 10 (20 ∷ [])) 0 10
least_is_ten = record { not_before = omega arith; some = (with_x 7, at_ten); none_earlier = λ s e from before. none_before 10 (20 ∷ []) s e before }

-- ---- a legal sequence of two occurrences at two times: the seven of 10 goes at 10, and that of 20 at 20

ten_goes : after waiting_net (sevens 10 (20 ∷ [])) 10 (with_x 7) ≡ Some (sevens 20 [])
unfolding after covered needs_of outputs_of
ten_goes = refl

at_twenty : covered waiting_net (sevens 20 []) 20 (with_x 7) ≡ true
unfolding covered needs_of
at_twenty = refl

least_is_twenty : LeastTime waiting_net (sevens 20 []) 10 20
least_is_twenty = record { not_before = omega arith; some = (with_x 7, at_twenty); none_earlier = λ s e from before. none_before 20 [] s e before }

twenty_goes : after waiting_net (sevens 20 []) 20 (with_x 7) ≡ Some ([] ∷ [])
unfolding after covered needs_of outputs_of
twenty_goes = refl

legal_twice : Legal waiting_net (sevens 10 (20 ∷ [])) 0 (record { element = with_x 7; time = 10 } ∷ record { element = with_x 7; time = 20 } ∷ []) ([] ∷ []) 20
legal_twice = (least_is_ten, at_ten, (sevens 20 [], ten_goes, (least_is_twenty, at_twenty, ([] ∷ [], twenty_goes, (refl, inl refl)))))

-- the second may not wait until 25, though it is covered then
covered_later : covered waiting_net (sevens 20 []) 25 (with_x 7) ≡ true
unfolding covered needs_of
covered_later = refl

second_not_later : LeastTime waiting_net (sevens 20 []) 10 25 → ⊥
second_not_later least = clash (least.none_earlier 20 (with_x 7) (omega arith) (omega arith)) at_twenty
  where
    clash : {b : Bool} → b ≡ false → b ≡ true → ⊥
    clash is_false is_true = cc

-- ---- an untimed net: a place A whose tokens t takes

abbrev plain_net : PlainNet
plain_net = record { places = record { name = []; colour = digits } ∷ []; transitions = record { name = []; guard = []; delay = None; inputs = arc_of 0 digits (variable 0) ∷ []; outputs = []; vars = 0 ∷ [] } ∷ []; variables = record { name = []; colour = digits } ∷ []; constants = []; constructors = []; functions = [] }

abbrev one_seven : Marking
one_seven = (seven 0 ∷ []) ∷ []

plain_is_untimed : IsUntimed plain_net
plain_is_untimed zero = refl
plain_is_untimed (suc p) = refl

seven_covered : covered plain_net one_seven 0 (with_x 7) ≡ true
unfolding covered needs_of
seven_covered = refl

seven_goes : after plain_net one_seven 0 (with_x 7) ≡ Some ([] ∷ [])
unfolding after covered needs_of outputs_of
seven_goes = refl

six_not_covered : covered plain_net one_seven 0 (with_x 6) ≡ false
unfolding covered needs_of
six_not_covered = refl

-- x occurs with 7 at the clock, and the place is empty
legal_once : Legal plain_net one_seven 0 (record { element = with_x 7; time = 0 } ∷ []) ([] ∷ []) 0
legal_once = (record { not_before = omega arith; some = (with_x 7, seven_covered); none_earlier = λ s e from before. absurd (omega arith) }, seven_covered, ([] ∷ [], seven_goes, (refl, inl refl)))

late : {t : ℕ} → suc t ≡ 0 → ⊥
late is = absurd (omega arith)

-- at a later time it is no legal sequence, nor with another value, nor to another marking or clock
not_later : (last : Marking) (end : ℕ) → Legal plain_net one_seven 0 (record { element = with_x 7; time = 5 } ∷ []) last end → ⊥
not_later last end legal = let at = legal_is_at_clock plain_net one_seven 0 (record { element = with_x 7; time = 5 } ∷ []) last end plain_is_untimed legal in late at.occurrences.0

not_with_six : (last : Marking) (end : ℕ) → Legal plain_net one_seven 0 (record { element = with_x 6; time = 0 } ∷ []) last end → ⊥
not_with_six last end legal = clash six_not_covered legal.1
  where
    clash : covered plain_net one_seven 0 (with_x 6) ≡ false → covered plain_net one_seven 0 (with_x 6) ≡ true → ⊥
    clash is_false is_true = cc

not_unchanged : (end : ℕ) → Legal plain_net one_seven 0 (record { element = with_x 7; time = 0 } ∷ []) one_seven end → ⊥
not_unchanged end legal =
    let next : one_seven ≡ legal.2.0 = legal.2.2.0 in
    differs (sym seven_goes ∙ legal.2.1) next
  where
    differs : {m : Marking} → Some ([] ∷ []) ≡ Some m → one_seven ≡ m → ⊥
    differs e f = cc

not_to_another_clock : (last : Marking) → Legal plain_net one_seven 0 [] last 4 → ⊥
not_to_another_clock last legal = let at = legal_is_at_clock plain_net one_seven 0 [] last 4 plain_is_untimed legal in late at.last

-- ---- transitions that are not sound in this net, which has one place and one variable

-- a transition that takes x, with these variables
abbrev with_variables : List ℕ → PlainTransition
with_variables xs = record { name = []; guard = []; delay = None; inputs = arc_of 0 digits (variable 0) ∷ []; outputs = []; vars = xs }

not_both : {b : Bool} → b ≡ true → b ≡ false → ⊥
not_both is not = cc

variable_twice : IsSoundTransition plain_net (with_variables (0 ∷ 0 ∷ [])) → ⊥
variable_twice sound = let e : Equal ≡ Less = sound.listed.0.0 in cc

variables_turned : IsSoundTransition plain_net (with_variables (1 ∷ 0 ∷ [])) → ⊥
variables_turned sound = let e : Greater ≡ Less = sound.listed.0.0 in cc

not_declared : IsSoundTransition plain_net (with_variables (1 ∷ [])) → ⊥
not_declared sound = not_both sound.declared refl

-- 64 arcs and one more
too_many_arcs : IsSoundTransition plain_net (record (with_variables []) { outputs = replicate 64 (arc_of 0 digits (number 7)) }) → ⊥
too_many_arcs sound = let few : 65 ≤ 64 = sound.few_arcs in absurd (omega (arith, few))

guard_without_meaning : IsSoundTransition plain_net (record (with_variables []) { guard = truth true ∷ variable 0 ∷ [] }) → ⊥
guard_without_meaning sound = (sound.guard_means [] refl).1.0 refl

delay_without_meaning : IsSoundTransition plain_net (record (with_variables []) { delay = Some (truth true) }) → ⊥
delay_without_meaning sound = sound.delay_means [] 0 refl (omega arith) refl

no_such_place : IsSoundArc plain_net (with_variables (0 ∷ [])) (arc_of 1 digits (variable 0)) → ⊥
no_such_place sound = let known : 1 < 1 = sound.place_known in absurd (omega (arith, known))

colour_of_another_place : IsSoundArc plain_net (with_variables (0 ∷ [])) (arc_of 0 times (variable 0)) → ⊥
colour_of_another_place sound = let e : true ≡ false = ap (λ (colour : PlainColour). colour.timed) sound.colour_is in cc

arc_without_meaning : IsSoundArc plain_net (with_variables []) (arc_of 0 digits (variable 0)) → ⊥
arc_without_meaning sound = sound.means [] 0 refl (omega arith) refl

input_without_its_term : IsSoundInput plain_net (with_variables (0 ∷ [])) (arc_of 0 digits (variable 0)) → ⊥
input_without_its_term sound = no_terms sound.terms_are
  where
    no_terms : {A : Type 0} {x : A} → [] ≡ x ∷ [] → ⊥
    no_terms e = cc

-- nor is a net with a function that reads a variable
function_that_reads : IsSound (record plain_net { functions = record { parameters = 0; body = variable 0 } ∷ [] }) → ⊥
function_that_reads sound = let e : 0 ∷ [] ≡ [] = sound.functions_closed.0 in cc

-- ---- markings that are none of its place

stamped_where_untimed : IsMarking plain_net.places ((seven 1 ∷ []) ∷ []) → ⊥
stamped_where_untimed marking = not_both marking.1 refl

outside_the_colour_set : IsMarking plain_net.places ((token_at (int (pos 10)) 0 ∷ []) ∷ []) → ⊥
outside_the_colour_set marking = not_both marking.1 refl

not_sorted : IsMarking plain_net.places ((seven 0 ∷ token_at (int (pos 6)) 0 ∷ []) ∷ []) → ⊥
not_sorted marking = let e : true ≡ false = marking.0.0 in cc

a_place_too_few : IsMarking plain_net.places [] → ⊥
a_place_too_few marking = marking

a_place_too_many : IsMarking plain_net.places ([] ∷ [] ∷ []) → ⊥
a_place_too_many marking = marking.2
