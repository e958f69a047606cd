-- The bounds within which a run ends, in a net of one place: what is shown that is within them, and what is not within one of them alone.
use Rattle.std.proofs.Common.{◌≡◌, ℕ, zero, suc, ◌+◌, ◌-◌, ◌*◌, ◌^◌, ◌≤◌, true, false, pos, [], ◌∷◌, length, replicate, None, refl, arith}
use Rattle.std.proofs.lemmas.List.{length-replicate}
use Rattle.cpn_definitions.specs.Bounds.{IsBounded}
use Rattle.cpn_definitions.specs.Colour.{PlainColour, int_shape}
use Rattle.cpn_definitions.specs.Legal.{PlainOccurrence}
use Rattle.cpn_definitions.specs.Marking.{Tokens, AreSorted, token_at}
use Rattle.cpn_definitions.specs.Net.{PlainNet}
use Rattle.cpn_definitions.specs.Sound.{may_hold, IsMarking}
use Rattle.cpn_definitions.specs.Value.{int}
use Rattle.cpn_definitions.proofs.PlaceStamps.{all_replicate}
use Rattle.cpn_runs.specs.Run.{PlainFinished}
use Rattle.cpn_runs.specs.State.{PlainSetup, dead}
use Rattle.cpn_runs.proofs.BoundedStates.{none_grown}
use Rattle.cpn_book.specs.Bounds.{EndsInBounds}

abbrev digits : PlainColour
digits = record { shape = int_shape (pos 0) (pos 9); timed = true }

-- one place, and a run of it up to time 9 that starts from these tokens
abbrev one_place : PlainNet
one_place = record { places = record { name = []; colour = digits } ∷ []; transitions = []; variables = []; constants = []; constructors = []; functions = [] }

abbrev setup : Tokens → PlainSetup
setup tokens = record { net = one_place; start = tokens ∷ []; clock = 0; limits = record { steps = 5; until = 9; seats = 1 }; functions = []; monitors = []; seed = 0 }

-- what is shown of a run that ended at a clock with these tokens, after so many occurrences
abbrev occurrence : PlainOccurrence
occurrence = record { number = 0; time = 0; element = record { transition = 0; binding = [] } }

abbrev ended : ℕ → ℕ → Tokens → PlainFinished
ended clock occurrences tokens = record {
  opening = record { ready_count = 0; next = None };
  journal = [];
  occurrences = replicate occurrences occurrence;
  marking = tokens ∷ [];
  clock = clock;
  cause = dead;
  closing = record { ready_count = 0; next = None };
  values = [];
}

-- so many times 7 at 0
abbrev sevens : ℕ → Tokens
sevens number = replicate number (token_at (int (pos 7)) 0)

sevens_are_sorted : (number : ℕ) → AreSorted (sevens number)
sevens_are_sorted zero = tt
sevens_are_sorted (suc zero) = (tt, tt)
sevens_are_sorted (suc (suc number)) = (refl, sevens_are_sorted (suc number))

are_marking : (number : ℕ) → IsMarking one_place.places (sevens number ∷ [])
are_marking number = (sevens_are_sorted number, all_replicate (may_hold digits) number (token_at (int (pos 7)) 0) refl, tt)

are_bounded : (number most : ℕ) → number ≤ most → IsBounded most (sevens number ∷ [])
are_bounded number most few zero = let many = length-replicate number (token_at (int (pos 7)) 0) in omega (arith, many, few)
are_bounded number most few (suc p) = omega arith

-- ---- within the bounds

-- at the last time, with fewer than 2^48 tokens, as many as at the start
at_the_bounds : (number : ℕ) → number ≤ 2 ^ 48 - 1 → EndsInBounds (setup (sevens number)) (ended 9 0 (sevens number))
at_the_bounds number few = record { in_time = omega arith; marking = are_marking number; bounded = are_bounded number (2 ^ 48 - 1) few; grown = none_grown one_place.places (sevens number ∷ []) }

-- ---- beyond one of them

-- after the last time
after_the_last_time : EndsInBounds (setup []) (ended 10 0 []) → ⊥
after_the_last_time is = let in_time : 10 ≤ 9 = is.in_time in omega (arith, in_time)

-- with a value that the place may not hold, at the start and at the end
with_a_ten : EndsInBounds (setup (token_at (int (pos 10)) 0 ∷ [])) (ended 9 0 (token_at (int (pos 10)) 0 ∷ [])) → ⊥
with_a_ten is = let held : false ≡ true = is.marking.1 in cc

-- with 2^48 tokens, at the start and at the end
a_token_too_many : (number : ℕ) → number ≡ 2 ^ 48 → EndsInBounds (setup (sevens number)) (ended 9 0 (sevens number)) → ⊥
a_token_too_many number as_many is =
    let few : length (sevens number) ≤ 2 ^ 48 - 1 = is.bounded 0 in
    let many = length-replicate number (token_at (int (pos 7)) 0) in
    omega (arith, few, many, as_many)

-- with a token more than its two occurrences make, of none at the start
more_than_they_make : (number : ℕ) → number ≡ 2 * 4194304 + 1 → EndsInBounds (setup []) (ended 9 2 (sevens number)) → ⊥
more_than_they_make number as_many is =
    let few : length (sevens number) ≤ 0 + 2 * 4194304 = is.grown.few 0 none 0 in
    let many = length-replicate number (token_at (int (pos 7)) 0) in
    omega (arith, few, many, as_many)
  where
    none : IsBounded 0 ([] ∷ [])
    none zero = omega arith
    none (suc p) = omega arith
