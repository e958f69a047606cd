-- Worked rows of what is kept: elements of transition 1 with the values 3 and 9, and of transition 2 with the value 1.
use Rattle.std.proofs.Common.{◌≡◌, ℕ, ℤ, pos, true, false, List, [], ◌∷◌, Some, None, refl}
use Rattle.cpn_definitions.specs.Value.{int}
use Rattle.cpn_definitions.specs.Lists.{with_item}
use Rattle.cpn_definitions.specs.Occurrence.{PlainElement}
use Rattle.cpn_due.specs.Due.{PlainEnabled, enabled_cmp, is_kept, kept_of, without, due_at}

abbrev element : ℕ → ℤ → PlainElement
element t v = record { transition = t; binding = (0, int v) ∷ [] }

abbrev kept : ℕ → ℤ → ℕ → PlainEnabled
kept t v time = record { entry = record { earliest = time; element = element t v }; needs = [] }

abbrev three : List PlainEnabled
three = kept 1 (pos 3) 7 ∷ kept 1 (pos 9) 0 ∷ kept 2 (pos 1) 5 ∷ []

-- what is due comes in the order of the elements, and also at its very time
due_at_five : due_at 5 three ≡ kept 1 (pos 9) 0 ∷ kept 2 (pos 1) 5 ∷ []
due_at_five = refl

due_before_all : due_at 3 (kept 1 (pos 3) 7 ∷ kept 2 (pos 1) 5 ∷ []) ≡ []
due_before_all = refl

-- another time makes no other element
there : is_kept (element 1 (pos 9)) three ≡ true
there = refl

not_there : is_kept (element 2 (pos 9)) three ≡ false
not_there = refl

which : kept_of (element 2 (pos 1)) three ≡ Some (kept 2 (pos 1) 5)
which = refl

none_of_it : kept_of (element 1 (pos 1)) three ≡ None
none_of_it = refl

the_others : without (element 1 (pos 9)) three ≡ kept 1 (pos 3) 7 ∷ kept 2 (pos 1) 5 ∷ []
the_others = refl

-- an element goes where the order of values has it, whatever its time
put_between : with_item enabled_cmp (kept 1 (pos 5) 9) three ≡ kept 1 (pos 3) 7 ∷ kept 1 (pos 5) 9 ∷ kept 1 (pos 9) 0 ∷ kept 2 (pos 1) 5 ∷ []
put_between = refl
