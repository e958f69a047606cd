-- What a marking may be that so many occurrences leave of the empty one, in the worked net, and what it may not.
use Rattle.std.proofs.Common.{◌≡◌, ℕ, zero, suc, ◌+◌, ◌*◌, ◌≤◌, true, false, pos, [], ◌∷◌, length, replicate, refl, arith}
use Rattle.std.proofs.lemmas.List.{length-replicate}
use Rattle.cpn_definitions.specs.Bounds.{last_stamp, IsBounded, IsInTime}
use Rattle.cpn_definitions.specs.Marking.{Marking, Tokens, AreSorted, token_at}
use Rattle.cpn_definitions.specs.Sound.{may_hold, IsMarking}
use Rattle.cpn_definitions.specs.Value.{int}
use Rattle.cpn_definitions.proofs.PlaceStamps.{all_replicate}
use Rattle.cpn_runs.specs.Bounds.{HasGrown}
use Rattle.cpn_runs.proofs.WorkedNet.{seven, digits, worked}

abbrev empty : Marking
empty = [] ∷ [] ∷ []

empty_is_marking : IsMarking worked.places empty
empty_is_marking = (tt, refl, (tt, refl, tt))

empty_is_bounded : IsBounded 0 empty
empty_is_bounded zero = omega arith
empty_is_bounded (suc zero) = omega arith
empty_is_bounded (suc (suc p)) = omega arith

empty_is_in_time : IsInTime empty
empty_is_in_time zero = refl
empty_is_in_time (suc zero) = refl
empty_is_in_time (suc (suc p)) = refl

-- so many times 7 at 3 on place 0
abbrev sevens : ℕ → Tokens
sevens number = replicate number (token_at seven 3)

sevens_are_sorted : (number : ℕ) → AreSorted (sevens number)
sevens_are_sorted zero = tt
sevens_are_sorted (suc zero) = (tt, tt)
sevens_are_sorted (suc (suc number)) = (refl, sevens_are_sorted (suc number))

-- ---- 64 times 65,536 tokens for each occurrence

-- it is grown by no more of them
just_as_many : (occurrences number : ℕ) → number ≤ occurrences * 4194304 → HasGrown worked.places empty occurrences (sevens number ∷ [] ∷ [])
just_as_many occurrences number few = record {
  marking = λ is. (sevens_are_sorted number, all_replicate (may_hold digits) number (token_at seven 3) refl, (tt, refl, tt));
  few = bounded;
  in_time = λ is. in_time;
}
  where
    bounded : (k : ℕ) → IsBounded k empty → IsBounded (k + occurrences * 4194304) (sevens number ∷ [] ∷ [])
    bounded k is zero = let many = length-replicate number (token_at seven 3) in omega (arith, many, few)
    bounded k is (suc zero) = omega arith
    bounded k is (suc (suc p)) = omega arith

    in_time : IsInTime (sevens number ∷ [] ∷ [])
    in_time zero = all_replicate _ number (token_at seven 3) refl
    in_time (suc zero) = refl
    in_time (suc (suc p)) = refl

-- and not by one more
not_one_more : (occurrences : ℕ) → HasGrown worked.places empty occurrences (sevens (occurrences * 4194304 + 1) ∷ [] ∷ []) → ⊥
not_one_more occurrences is =
    let few : length (sevens (occurrences * 4194304 + 1)) ≤ 0 + occurrences * 4194304 = is.few 0 empty_is_bounded 0 in
    let many = length-replicate (occurrences * 4194304 + 1) (token_at seven 3) in
    omega (arith, few, many)

-- ---- a marking of the places, with stamps in time

-- not with a value that the place may not hold
not_a_ten : HasGrown worked.places empty 1 ((token_at (int (pos 10)) 3 ∷ []) ∷ [] ∷ []) → ⊥
not_a_ten is = let held : false ≡ true = (is.marking empty_is_marking).1 in cc

-- not with a stamp after the latest
not_so_late : HasGrown worked.places empty 1 ((token_at seven (last_stamp + 1) ∷ []) ∷ [] ∷ []) → ⊥
not_so_late is = let stamped : false ≡ true = is.in_time empty_is_in_time 0 in cc
