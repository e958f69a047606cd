-- Worked cases of monitors: a run of three occurrences, from clock 3 to clock 9. Two tokens stand on place 0; an occurrence of transition 0
-- moves one of them to place 1, one of transition 1 takes it from there.
use Rattle.std.proofs.Common.{◌≡◌, ℕ, pos, negsuc, List, [], ◌∷◌, Some, None, refl}
use Rattle.std.specs.Prelude.{codes}
use Rattle.cpn_definitions.specs.Inscription.{PlainExpr, Functions, literal, variable, apply, operation, calling, division, subtraction, more_exprs, no_exprs}
use Rattle.cpn_definitions.specs.Marking.{Tokens, token_at}
use Rattle.cpn_definitions.specs.Value.{int}
use Rattle.cpn_monitor.specs.Monitors.{PlainMonitor, PlainMeasure, counts, sizes, values, stops_by_count, stops_by_size, at_least, at_most}
use Rattle.cpn_monitor.specs.MeasuredRuns.{MarkedOccurrence, MeasuredRun}
use Rattle.cpn_monitor.specs.MonitorValues.{counted, sized, valued, counted_to_stop, sized_to_stop, measured, values_of}
use Rattle.cpn_monitor.specs.Stops.{stop_after}

-- no token, one, and two
abbrev pub none : Tokens
none = []

abbrev pub one_token : Tokens
one_token = token_at (int (pos 7)) 0 ∷ []

abbrev pub two_tokens : Tokens
two_tokens = token_at (int (pos 7)) 0 ∷ token_at (int (pos 7)) 2 ∷ []

-- an occurrence of a transition with a value of its variable at a time, after which these tokens are on the places 0 and 1
abbrev marked : ℕ → ℕ → ℕ → Tokens → Tokens → MarkedOccurrence
marked t x time first second = record { occurrence = record { element = record { transition = t; binding = (0, int (pos x)) ∷ [] }; time = time }; after = first ∷ second ∷ [] }

abbrev occurrences : List MarkedOccurrence
occurrences = marked 0 5 3 one_token one_token ∷ marked 1 4 5 one_token none ∷ marked 0 0 5 none one_token ∷ []

abbrev pub run : MeasuredRun
run = record { start = two_tokens ∷ none ∷ []; clock = 3; occurrences = occurrences; last_clock = 9 }

-- one function of no parameter, which gives 10
abbrev ten : Functions
ten = record { parameters = 0; body = literal (int (pos 10)) } ∷ []

-- 10 div x, by the function, and x - 7
abbrev quotient : PlainExpr
quotient = apply (operation division) (more_exprs (apply (calling 0) no_exprs) (more_exprs (variable 0) no_exprs))

abbrev difference : PlainExpr
difference = apply (operation subtraction) (more_exprs (variable 0) (more_exprs (literal (int (pos 7))) no_exprs))

-- ---- what is measured

two_occurrences : measured ten run (counts 0) ≡ counted 2
two_occurrences = refl

one_occurrence : measured ten run (counts 1) ≡ counted 1
one_occurrence = refl

-- Place 0 has 2 tokens for no time, 1 from 3 to 5, again 1 for no time, and 0 from 5 to 9.
emptied_place : measured ten run (sizes 0) ≡ sized 0 2 0 2 9
emptied_place = refl

-- Place 1 has 0 tokens for no time, 1 from 3 to 5, 0 for no time, and 1 from 5 to 9.
filled_place : measured ten run (sizes 1) ≡ sized 0 1 1 6 9
filled_place = refl

-- with no occurrence, the start alone counts: 2 tokens from 3 to 9
nothing_occurs : measured ten (record run { occurrences = [] }) (sizes 0) ≡ sized 2 2 2 12 9
nothing_occurs = refl

-- 10 div 5 is 2, and 10 div 0 a fault, which is counted apart
one_value : measured ten run (values 0 quotient) ≡ valued 1 (pos 2) (Some (pos 2)) (Some (pos 2)) 1
one_value = refl

-- 5 - 7 and 0 - 7
two_values : measured ten run (values 0 difference) ≡ valued 2 (negsuc 8) (Some (negsuc 6)) (Some (negsuc 1)) 0
two_values = refl

-- a transition that does not occur
no_value : measured ten run (values 2 difference) ≡ valued 0 (pos 0) None None 0
no_value = refl

counted_until_stopped : measured ten run (stops_by_count 0 2) ≡ counted_to_stop 2
counted_until_stopped = refl

last_size : measured ten run (stops_by_size 1 at_most 0) ≡ sized_to_stop 1
last_size = refl

abbrev monitor : PlainMeasure → PlainMonitor
monitor measure = record { name = codes "m"; measure = measure }

in_their_order : values_of ten (record { name = codes "first"; measure = counts 1 } ∷ monitor (counts 0) ∷ []) run ≡ record { name = codes "first"; measured = counted 1 } ∷ record { name = codes "m"; measured = counted 2 } ∷ []
in_their_order = refl

-- ---- which monitor stops the run

-- transition 0 occurs for the second time in the third occurrence
not_at_once : stop_after (monitor (stops_by_count 0 2) ∷ []) occurrences 0 ≡ None
not_at_once = refl

second_time : stop_after (monitor (stops_by_count 0 2) ∷ []) occurrences 2 ≡ Some 0
second_time = refl

-- it has occurred once after the second occurrence, too, but that is one of transition 1
of_another_transition : stop_after (monitor (stops_by_count 0 1) ∷ []) occurrences 1 ≡ None
of_another_transition = refl

-- it stops at the first occurrence alone, and not again after it has occurred more often
not_again : stop_after (monitor (stops_by_count 0 1) ∷ []) occurrences 2 ≡ None
not_again = refl

-- place 0 has 1, 1 and 0 tokens after the occurrences: more than 0, and fewer than 1
more_than_at_least : stop_after (monitor (stops_by_size 0 at_least 0) ∷ []) occurrences 0 ≡ Some 0
more_than_at_least = refl

fewer_than_at_most : stop_after (monitor (stops_by_size 0 at_most 1) ∷ []) occurrences 2 ≡ Some 0
fewer_than_at_most = refl

-- place 1 has 1, 0 and 1 tokens after the occurrences
at_least_one : stop_after (monitor (stops_by_size 1 at_least 1) ∷ []) occurrences 0 ≡ Some 0
at_least_one = refl

fewer_than_one : stop_after (monitor (stops_by_size 1 at_least 1) ∷ []) occurrences 1 ≡ None
fewer_than_one = refl

at_most_none : stop_after (monitor (stops_by_size 1 at_most 0) ∷ []) occurrences 1 ≡ Some 0
at_most_none = refl

more_than_none : stop_after (monitor (stops_by_size 1 at_most 0) ∷ []) occurrences 0 ≡ None
more_than_none = refl

-- where two stop at once, the first in the document does; one that only measures stops nothing
first_of_two : stop_after (monitor (counts 0) ∷ monitor (stops_by_size 1 at_least 1) ∷ monitor (stops_by_count 0 2) ∷ []) occurrences 2 ≡ Some 1
first_of_two = refl

-- past the last occurrence nothing stops
no_fourth : stop_after (monitor (stops_by_count 0 2) ∷ []) occurrences 3 ≡ None
no_fourth = refl
