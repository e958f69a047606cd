-- By computing: lists of numbers, and the same lists turned round.
use Rattle.std.proofs.Common.{◌≡◌, refl, ℕ, List, [], ◌∷◌, true, false}
use Rattle.cpn_numbers.specs.NumberLists.{numbers_at, ends_with, with_last, with_number}

abbrev lists : List (List ℕ)
lists = (2 ∷ []) ∷ [] ∷ (0 ∷ 2 ∷ []) ∷ []

a_list : numbers_at lists 2 ≡ 0 ∷ 2 ∷ []
a_list = refl

past_the_last : numbers_at lists 3 ≡ []
past_the_last = refl

its_last : ends_with 2 (0 ∷ 2 ∷ []) ≡ true
its_last = refl

not_its_last : ends_with 0 (0 ∷ 2 ∷ []) ≡ false
not_its_last = refl

behind_the_others : with_last 0 (0 ∷ 2 ∷ []) ≡ 0 ∷ 2 ∷ 0 ∷ []
behind_the_others = refl

once : with_last 2 (0 ∷ 2 ∷ []) ≡ 0 ∷ 2 ∷ []
once = refl

in_one_list : with_number 1 7 lists ≡ (2 ∷ []) ∷ (7 ∷ []) ∷ (0 ∷ 2 ∷ []) ∷ []
in_one_list = refl
