-- How many steps an update may take: rows, each computed by hand.
use Rattle.std.proofs.Common.{◌≡◌, true, false, List, [], ◌∷◌, refl, inl, inr, sym, ap, arith}
use Rattle.cpn_definitions.specs.Inscription.{variable_pattern}
use Rattle.cpn_definitions.specs.Net.{PlainArc, transition_at}
use Rattle.cpn_definitions.specs.Enabled.{PlainEntry}
use Rattle.cpn_definitions.proofs.RisingLists.{IsIn, in_from_contains, contains_from_in}
use Rattle.cpn_tmset.specs.Changed.{PlainChange}
use Rattle.cpn_stages.specs.Stages.{by_term, none_left}
use Rattle.cpn_stages.specs.Reached.{StandsOn}
use Rattle.cpn_stages.specs.Work.{IsFull, IsPinned}
use Rattle.cpn_stages.specs.Trials.{matching}
use Rattle.cpn_stages.specs.Reading.{is_of_terms}
use Rattle.cpn_stages.proofs.StandingValues.{values_on, just_standing}
use Rattle.cpn_stages.proofs.CountedTries.{full_is_tried}
use Rattle.cpn_stages.proofs.CountedPinned.{pinned_is_tried}
use Rattle.cpn_index.specs.Touched.{ReadsToldOtherwise}
use Rattle.cpn_index.specs.UpdateWork.{IsSum, transitions_of, IsPinnedInAll, IsFullIfRead, IsUpdateWork, IsWithinWork}
use Rattle.cpn_index.proofs.UpdateBounds.{one_bound}
use Rattle.cpn_index.proofs.SmallNets.{three_transitions, of_x, of_next, number, with_x, of_nothing, at_time, change, four_numbers}

stands_2 : StandsOn four_numbers 0 (number 2)
stands_2 = ((just_standing four_numbers 0).all (number 2)).1 (contains_from_in (values_on four_numbers 0) (number 2) (inr (inl refl)))

-- ---- with 2 on place 0

-- transition 0: 1 try for x, and 1 binding
taken : IsPinned three_transitions four_numbers 0 0 (number 2) 2
taken =
    pinned_is_tried three_transitions four_numbers 0 tt (tt, tt) (by_term 0 (variable_pattern 0) ∷ []) (record { further = []; are = refl; follow = none_left }) 0 (number 2)
    ((matching (variable_pattern 0) (number 2 ∷ []) ∷ []) ∷ []) (((refl, refl, stands_2), tt), tt)

-- transition 1 has no binding term there, and transition 2 has no arc
not_at_a_term : IsPinned three_transitions four_numbers 1 0 (number 2) 0
not_at_a_term = pinned_is_tried three_transitions four_numbers 1 tt (tt, tt) (by_term 1 (variable_pattern 0) ∷ []) (record { further = []; are = refl; follow = none_left }) 0 (number 2) [] tt

without_an_arc : IsPinned three_transitions four_numbers 2 0 (number 2) 0
without_an_arc = pinned_is_tried three_transitions four_numbers 2 tt tt [] (record { further = []; are = refl; follow = none_left }) 0 (number 2) [] tt

-- transition 1 as a whole: 2 values of x, and 2 bindings
read_whole : IsFull three_transitions four_numbers 1 4
read_whole =
    full_is_tried three_transitions four_numbers 1 (by_term 1 (variable_pattern 0) ∷ []) (matching (variable_pattern 0) (values_on four_numbers 1) ∷ []) tt (tt, tt)
    (record { further = []; are = refl; follow = none_left }) ((refl, just_standing four_numbers 1), tt)

-- ---- who reads a place otherwise

it_reads : (told : List PlainChange) → ReadsToldOtherwise (transition_at three_transitions 1) (change 0 2 ∷ told)
it_reads told = record {
  place = 0;
  value = number 2;
  is_told_there = refl;
  reads = record { arc = of_next 0; is_input = contains_from_in (of_x 1 ∷ of_next 0 ∷ []) (of_next 0) (inr (inl refl)); from_it = refl; otherwise = refl };
}

-- no transition of binding terms alone does
by_terms_alone : (told : List PlainChange) → ReadsToldOtherwise (transition_at three_transitions 0) told → ⊥
by_terms_alone told is = split is.reads.arc is.reads.otherwise (in_from_contains (of_x 0 ∷ []) is.reads.arc is.reads.is_input)
  where
    split : (arc : PlainArc) → is_of_terms arc.expr ≡ false → IsIn arc (of_x 0 ∷ []) → ⊥
    split arc other (inl same) = let of_terms : is_of_terms arc.expr ≡ true = ap (λ (a : PlainArc). is_of_terms a.expr) (sym same) in cc
    split arc other (inr h) = h

nothing_read : (told : List PlainChange) → ReadsToldOtherwise (transition_at three_transitions 2) told → ⊥
nothing_read told is = in_from_contains [] is.reads.arc is.reads.is_input

-- ---- an update

-- four entries, of which one has another time then and one is gone
abbrev before : List PlainEntry
before = at_time 0 (with_x 0 1) ∷ at_time 3 (with_x 0 2) ∷ at_time 3 (with_x 1 1) ∷ at_time 0 of_nothing ∷ []

abbrev after : List PlainEntry
after = at_time 0 (with_x 0 1) ∷ at_time 5 (with_x 0 2) ∷ at_time 0 of_nothing ∷ []

-- Pinned 2 over all transitions, and Full 4
pinned_by_2 : IsPinnedInAll three_transitions four_numbers (change 0 2) 2
pinned_by_2 = (2, 0, taken, (0, 0, not_at_a_term, (0, 0, without_an_arc, refl, refl), refl), refl)

full_by_2 : (told : List PlainChange) → IsSum (IsFullIfRead three_transitions four_numbers (change 0 2 ∷ told)) (transitions_of three_transitions) 4
full_by_2 told = (0, 4, inr (by_terms_alone (change 0 2 ∷ told), refl), (4, 0, inl (it_reads told, read_whole), (0, 0, inr (nothing_read (change 0 2 ∷ told), refl), refl, refl), refl), refl)

-- with one entry with another time and one that is gone
a_2_at_another_time : IsUpdateWork three_transitions four_numbers (change 0 2 ∷ []) before after 8
a_2_at_another_time = record { pinned = 2; pinned_is = (2, 0, pinned_by_2, refl, refl); full = 4; full_is = full_by_2 []; sum_is = refl }

-- what is told twice counts twice, and no less
a_2_told_twice : IsUpdateWork three_transitions four_numbers (change 0 2 ∷ change 0 2 ∷ []) before after 10
a_2_told_twice = record { pinned = 4; pinned_is = (2, 2, pinned_by_2, (2, 0, pinned_by_2, refl, refl), refl); full = 4; full_is = full_by_2 (change 0 2 ∷ []); sum_is = refl }

not_as_told_once : IsUpdateWork three_transitions four_numbers (change 0 2 ∷ change 0 2 ∷ []) before after 8 → ⊥
not_as_told_once is = let same = one_bound three_transitions four_numbers (change 0 2 ∷ change 0 2 ∷ []) before after 8 10 is a_2_told_twice in omega (arith, same)

-- eight steps are within the work of the update, and nine are not
eight_within : IsWithinWork three_transitions four_numbers (change 0 2 ∷ []) before after 5 13
eight_within = record { most = 8; is_work = a_2_at_another_time; within = omega arith }

nine_not_within : IsWithinWork three_transitions four_numbers (change 0 2 ∷ []) before after 5 14 → ⊥
nine_not_within is =
    let same = one_bound three_transitions four_numbers (change 0 2 ∷ []) before after is.most 8 is.is_work a_2_at_another_time in
    let few = is.within in
    omega (arith, same, few)
