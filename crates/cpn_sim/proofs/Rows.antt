-- Worked rows of what the two probes count, which go on over runs.
use Rattle.std.proofs.Common.{◌≡◌, ℕ, List, [], ◌∷◌, map, refl}
use Rattle.cpn_definitions.specs.Legal.{PlainOccurrence}
use Rattle.cpn_sim.specs.Counted.{moments_in, longest_stretch}
use Rattle.cpn_sim.specs.Probing.{PlainMoments, no_moments, moments_after, PlainStreak, no_streak, streak_after}

abbrev an_occurrence : ℕ → ℕ → PlainOccurrence
an_occurrence time transition = record { number = 0; time = time; element = record { transition = transition; binding = [] } }

-- the moments of occurrences at these times, behind others
abbrev moments_at : PlainMoments → List ℕ → PlainMoments
moments_at m [] = m
moments_at m (time ∷ times) = moments_at (moments_after m (an_occurrence time 0)) times

-- the streak of occurrences of these transitions, behind others
abbrev streak_of : PlainStreak → List ℕ → PlainStreak
streak_of s [] = s
streak_of s (transition ∷ transitions) = streak_of (streak_after s (an_occurrence 0 transition)) transitions

no_moments_yet : (moments_at no_moments []).count ≡ 0
no_moments_yet = refl

-- one run at the times 0, 0 and 3, and one at 3 and 0
moments_of_two_runs : (moments_at no_moments (0 ∷ 0 ∷ 3 ∷ 3 ∷ 0 ∷ [])).count ≡ 3
moments_of_two_runs = refl

-- the same of the list: occurrences at these times, and of these transitions
abbrev at_times : List ℕ → List PlainOccurrence
at_times times = map (λ time. an_occurrence time 0) times

abbrev of_transitions : List ℕ → List PlainOccurrence
of_transitions transitions = map (an_occurrence 0) transitions

moments_in_none : moments_in [] ≡ 0
moments_in_none = refl

moments_in_two_runs : moments_in (at_times (0 ∷ 0 ∷ 3 ∷ 3 ∷ 0 ∷ [])) ≡ 3
moments_in_two_runs = refl

longest_of_none : longest_stretch [] ≡ 0
longest_of_none = refl

longest_of_two_runs : longest_stretch (of_transitions (1 ∷ 1 ∷ 2 ∷ 2 ∷ 2 ∷ 1 ∷ [])) ≡ 3
longest_of_two_runs = refl

the_first_is_longest : longest_stretch (of_transitions (0 ∷ 0 ∷ 1 ∷ 0 ∷ [])) ≡ 2
the_first_is_longest = refl

no_streak_yet : (streak_of no_streak []).longest ≡ 0
no_streak_yet = refl

-- one run of the transitions 1, 1 and 2, and one of 2, 2 and 1
streak_of_two_runs : (streak_of no_streak (1 ∷ 1 ∷ 2 ∷ 2 ∷ 2 ∷ 1 ∷ [])).longest ≡ 3
streak_of_two_runs = refl

an_earlier_streak : (streak_of no_streak (0 ∷ 0 ∷ 1 ∷ 0 ∷ [])).longest ≡ 2
an_earlier_streak = refl
