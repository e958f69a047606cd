-- Worked cases of probes, over up to three occurrences: a probe that counts what it is told, and one that keeps the numbers of it.
use Rattle.std.proofs.Common.{◌≡◌, ℕ, ◌+◌, List, [], ◌∷◌, ◌++◌, zero, suc, refl, ap}
use Rattle.std.specs.declared.dyn_box.DynBox.{DynBox}
use Rattle.cpn_definitions.specs.Legal.{PlainOccurrence}
use Rattle.cpn_probe.specs.Boxed.{Boxed}
use Rattle.cpn_probe.specs.Reported.{Adds, AreReports, HaveReported}
use Rattle.cpn_probe.specs.Told.{IsTold, IsToldPrefix, AreTold, AreToldPrefixes}
use Rattle.cpn_probe.proofs.Tellings.{computed_state}

-- an occurrence of transition 0, by its number and its time
abbrev occurrence : ℕ → ℕ → PlainOccurrence
occurrence number time = record { number = number; time = time; element = record { transition = 0; binding = [] } }

abbrev two : List PlainOccurrence
two = occurrence 0 4 ∷ occurrence 1 6 ∷ []

abbrev three : List PlainOccurrence
three = occurrence 0 4 ∷ occurrence 1 6 ∷ occurrence 2 6 ∷ []

-- counts: one more with each occurrence. keeps: the number of each, in order.
abbrev counts : ℕ → PlainOccurrence → ℕ → Type 0
counts before o now = now ≡ before + 1

abbrev keeps : List ℕ → PlainOccurrence → List ℕ → Type 0
keeps before o now = now ≡ before ++ o.number ∷ []

-- ---- what one probe is told

three_count : IsTold counts 4 three 7
three_count = (5, refl, (6, refl, (7, refl, refl)))

three_are_kept : IsTold keeps (9 ∷ []) three (9 ∷ 0 ∷ 1 ∷ 2 ∷ [])
three_are_kept = (_, refl, (_, refl, (_, refl, refl)))

-- an occurrence is left out
one_is_missing : IsTold counts 4 three 6 → ⊥
one_is_missing told = let is = computed_state (λ s o. s + 1) three 4 6 told in cc

-- an occurrence is told twice
one_is_told_twice : IsTold keeps [] two (0 ∷ 1 ∷ 1 ∷ []) → ⊥
one_is_told_twice told = let is = computed_state (λ s o. s ++ o.number ∷ []) two [] (0 ∷ 1 ∷ 1 ∷ []) told in cc

-- they are told in another order
another_order : IsTold keeps [] two (1 ∷ 0 ∷ []) → ⊥
another_order told = let is = computed_state (λ s o. s ++ o.number ∷ []) two [] (1 ∷ 0 ∷ []) told in cc

two_of_three : IsToldPrefix keeps [] three (0 ∷ 1 ∷ [])
two_of_three = (2, (_, refl, (_, refl, refl)))

none_of_three : IsToldPrefix counts 4 three 4
none_of_three = (0, refl)

-- the first occurrence is skipped
first_is_skipped : IsToldPrefix keeps [] two (1 ∷ []) → ⊥
first_is_skipped (zero, told) = cc
first_is_skipped (suc zero, told) = let is = computed_state (λ s o. s ++ o.number ∷ []) (occurrence 0 4 ∷ []) [] (1 ∷ []) told in cc
first_is_skipped (suc (suc zero), told) = let is = computed_state (λ s o. s ++ o.number ∷ []) two [] (1 ∷ []) told in cc
first_is_skipped (suc (suc (suc n)), told) = let is = computed_state (λ s o. s ++ o.number ∷ []) two [] (1 ∷ []) told in cc

-- ---- what a box of a probe is told

-- boxes of numbers, in which a probe of the kind k counts by k
abbrev Counter : Type 0
Counter = DynBox ℕ (Unit {0}) (λ kind. ℕ)

abbrev counts_by_kind : (before : Counter) → PlainOccurrence → ℕ → Type 0
counts_by_kind before o noted = noted ≡ before.value + before.vtable

twice_by_two : (b : Counter) → IsTold (Boxed counts_by_kind) (record b { vtable = 2; value = 4 }) two (record b { vtable = 2; value = 8 })
twice_by_two b = (record b { vtable = 2; value = 6 }, (6, refl, refl), (record b { vtable = 2; value = 8 }, (8, refl, refl), refl))

-- the box is as it was
box_has_not_noted : (b : Counter) → Boxed counts_by_kind (record b { vtable = 2; value = 4 }) (occurrence 0 4) (record b { vtable = 2; value = 4 }) → ⊥
box_has_not_noted b (noted, by_two, is) = let same = ap (λ (c : Counter). c.value) is in cc

-- a probe of another kind is in the box
kind_has_changed : (b : Counter) → Boxed counts_by_kind (record b { vtable = 2; value = 4 }) (occurrence 0 4) (record b { vtable = 3; value = 6 }) → ⊥
kind_has_changed b (noted, by_two, is) = let same = ap (λ (c : Counter). c.vtable) is in cc

-- ---- what several probes are told

both_count : AreTold counts (0 ∷ 5 ∷ []) three (3 ∷ 8 ∷ [])
both_count = ((1, refl, (2, refl, (3, refl, refl))), ((6, refl, (7, refl, (8, refl, refl))), tt))

-- the second probe is told nothing
second_is_left_out : AreTold counts (0 ∷ 5 ∷ []) three (3 ∷ 5 ∷ []) → ⊥
second_is_left_out told = let is = computed_state (λ s o. s + 1) three 5 5 told.1.0 in cc

-- a probe is gone
second_is_gone : AreTold counts (0 ∷ 5 ∷ []) three (3 ∷ []) → ⊥
second_is_gone told = told.1

-- the first probe is told all, the second one occurrence, the third none
a_prefix_each : AreToldPrefixes counts (0 ∷ 5 ∷ 0 ∷ []) three (3 ∷ 6 ∷ 0 ∷ [])
a_prefix_each = ((3, (1, refl, (2, refl, (3, refl, refl)))), ((1, (6, refl, refl)), ((0, refl), tt)))

-- ---- what is reported

-- a report is appended
is_appended : Adds (λ report. report ≡ 2 ∷ []) (1 ∷ []) (1 ∷ 2 ∷ [])
is_appended = (2 ∷ [], refl, refl)

-- what the text had is gone
text_is_lost : Adds (λ report. report ≡ 2 ∷ []) (1 ∷ []) (2 ∷ []) → ⊥
text_is_lost (report, is, it) = cc

-- each probe reports its state, as one byte
a_report_each : AreReports (λ state report. report ≡ state ∷ []) (3 ∷ 8 ∷ []) ((3 ∷ []) ∷ (8 ∷ []) ∷ [])
a_report_each = (refl, (refl, tt))

-- the reports change places
in_another_order : AreReports (λ state report. report ≡ state ∷ []) (3 ∷ 8 ∷ []) ((8 ∷ []) ∷ (3 ∷ []) ∷ []) → ⊥
in_another_order are = let is = are.0 in cc

-- two probes that count, from 0 and from 5, are told three occurrences
both_have_reported : HaveReported counts (λ state report. report ≡ state ∷ []) (0 ∷ 5 ∷ []) three ((3 ∷ []) ∷ (8 ∷ []) ∷ [])
both_have_reported = (3 ∷ 8 ∷ [], both_count, a_report_each)

-- the report is that of the state before
report_comes_too_early : HaveReported counts (λ state report. report ≡ state ∷ []) (0 ∷ []) three ((0 ∷ []) ∷ []) → ⊥
report_comes_too_early ([], told, are) = told
report_comes_too_early (now ∷ rest, told, are) =
    let counted = computed_state (λ s o. s + 1) three 0 now told.0 in let reported = are.0 in cc
