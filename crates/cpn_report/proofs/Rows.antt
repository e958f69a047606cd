-- Worked lines of a report, each with a different number at each position; among them those of times, stamps and faults, which no
-- run has yet.
use Rattle.std.proofs.Common.{◌≡◌, ℕ, pos, negsuc, Bool, true, false, [], ◌∷◌, Some, None, refl, arith}
use Rattle.std.proofs.lemmas.Fmt.{decimal_digit}
use Rattle.std.specs.Prelude.{codes}
use Rattle.cpn_definitions.specs.Value.{int}
use Rattle.cpn_definitions.specs.Colour.{PlainColour, int_shape}
use Rattle.cpn_definitions.specs.Marking.{PlainToken, token_at}
use Rattle.cpn_definitions.specs.Net.{Coloured, PlainNet}
use Rattle.cpn_definitions.specs.Outcome.{overflow, divide_by_zero, empty_list, no_case, not_in_colour, bad_coefficient, bad_delay, too_large}
use Rattle.cpn_definitions.specs.Occurrence.{PlainElement}
use Rattle.cpn_runs.specs.State.{claim_made, claim_completed, dead, steps_made, until_passed, fault_end}
use Rattle.cpn_report.specs.Lines.{binding_text, element_text, fault_text, opening_text, occurrence_text, schedule_text, end_text, occurrences_text, clock_text, place_text, ready_text, next_text, total_text}
use Rattle.cpn_report.specs.declared.starts.Start.TheVariants as starts

-- ---- a net with two variables and a transition, and an element of it

abbrev integers : Bool → PlainColour
integers timed = record { shape = int_shape (negsuc 9) (pos 9); timed = timed }

abbrev small_net : PlainNet
small_net = record {
  places = [];
  transitions = record { name = codes "Top/t"; guard = []; delay = None; inputs = []; outputs = []; vars = 0 ∷ 1 ∷ [] } ∷ [];
  variables = record { name = codes "x"; colour = integers false } ∷ record { name = codes "y"; colour = integers true } ∷ [];
  constants = [];
  constructors = [];
  functions = [];
}

abbrev element : PlainElement
element = record { transition = 0; binding = (0, int (pos 8)) ∷ (1, int (negsuc 5)) ∷ [] }

-- ---- the lines of a run

run_with_times : opening_text 1 starts.Initial 4 (record { ready_count = 2; next = Some 5 }) ≡ codes "run 1 initial 4 ready 2 next 5"
unfolding opening_text
run_with_times = rw (decimal_digit 1 (omega arith), decimal_digit 4 (omega arith), decimal_digit 2 (omega arith), decimal_digit 5 (omega arith)) refl

run_without_next : opening_text 0 starts.Here 4 (record { ready_count = 0; next = None }) ≡ codes "run 0 here 4 ready 0 next none"
unfolding opening_text
run_without_next = rw (decimal_digit 0 (omega arith), decimal_digit 4 (omega arith)) refl

an_occurrence : occurrence_text small_net (record { number = 3; time = 5; element = element }) ≡ codes "occ 3 @5 Top/t {x=8, y=~6}"
unfolding occurrence_text element_text binding_text
an_occurrence = rw (decimal_digit 3 (omega arith), decimal_digit 5 (omega arith), decimal_digit 8 (omega arith), decimal_digit 6 (omega arith)) refl

a_schedule : schedule_text (claim_made 2 3 ∷ claim_made 5 4 ∷ claim_completed 5 4 ∷ claim_completed 2 3 ∷ []) ≡ codes "schedule c3 c4 d4 d3"
unfolding schedule_text
a_schedule = rw (decimal_digit 3 (omega arith), decimal_digit 4 (omega arith)) refl

occurrences_told : occurrences_text 6 ≡ codes "occurrences 6"
unfolding occurrences_text
occurrences_told = rw (decimal_digit 6 (omega arith)) refl

clock_told : clock_text 7 ≡ codes "clock 7"
unfolding clock_text
clock_told = rw (decimal_digit 7 (omega arith)) refl

ready_told : ready_text 8 ≡ codes "ready 8"
unfolding ready_text
ready_told = rw (decimal_digit 8 (omega arith)) refl

next_told : next_text (Some 9) ≡ codes "next 9"
unfolding next_text
next_told = rw (decimal_digit 9 (omega arith)) refl

no_next : next_text None ≡ codes "next none"
unfolding next_text
no_next = refl

total_told : total_text 4 ≡ codes "total 4"
unfolding total_text
total_told = rw (decimal_digit 4 (omega arith)) refl

-- ---- the lines of a place

abbrev place : Bool → Coloured
place timed = record { name = codes "Top/A"; colour = integers timed }

abbrev seven : ℕ → PlainToken
seven stamp = token_at (int (pos 7)) stamp

a_timed_place : place_text small_net (place true) (seven 3 ∷ seven 3 ∷ seven 5 ∷ token_at (int (pos 8)) 5 ∷ []) ≡ codes "place Top/A 2`7@3 ++ 1`7@5 ++ 1`8@5"
unfolding place_text
a_timed_place = rw (decimal_digit 1 (omega arith), decimal_digit 2 (omega arith), decimal_digit 3 (omega arith), decimal_digit 5 (omega arith), decimal_digit 7 (omega arith), decimal_digit 8 (omega arith)) refl

an_untimed_place : place_text small_net (place false) (seven 0 ∷ seven 0 ∷ token_at (int (pos 8)) 0 ∷ []) ≡ codes "place Top/A 2`7 ++ 1`8"
unfolding place_text
an_untimed_place = rw (decimal_digit 1 (omega arith), decimal_digit 2 (omega arith), decimal_digit 7 (omega arith), decimal_digit 8 (omega arith)) refl

an_empty_place : place_text small_net (place true) [] ≡ codes "place Top/A empty"
unfolding place_text
an_empty_place = refl

-- ---- the causes of an end

end_dead : end_text small_net [] dead ≡ codes "end dead"
unfolding end_text
end_dead = refl

end_by_steps : end_text small_net [] steps_made ≡ codes "end steps"
unfolding end_text
end_by_steps = refl

end_until : end_text small_net [] (until_passed 8) ≡ codes "end until 8"
unfolding end_text
end_until = rw (decimal_digit 8 (omega arith)) refl

end_by_a_fault : end_text small_net [] (fault_end element not_in_colour) ≡ codes "end fault 5 not_in_colour Top/t {x=8, y=~6}"
unfolding end_text element_text binding_text
end_by_a_fault = rw (decimal_digit 8 (omega arith), decimal_digit 6 (omega arith)) refl

fault_1 : fault_text overflow ≡ codes "1 overflow"
fault_1 = refl

fault_2 : fault_text divide_by_zero ≡ codes "2 divide_by_zero"
fault_2 = refl

fault_3 : fault_text empty_list ≡ codes "3 empty_list"
fault_3 = refl

fault_4 : fault_text no_case ≡ codes "4 no_case"
fault_4 = refl

fault_5 : fault_text not_in_colour ≡ codes "5 not_in_colour"
fault_5 = refl

fault_6 : fault_text bad_coefficient ≡ codes "6 bad_coefficient"
fault_6 = refl

fault_7 : fault_text bad_delay ≡ codes "7 bad_delay"
fault_7 = refl

fault_8 : fault_text too_large ≡ codes "8 too_large"
fault_8 = refl
