-- A colour set has one list of all its values, and is small exactly where that list is short: what makes it small, and what
-- makes it not small.
use Rattle.std.proofs.Common.{◌≡◌, ◌⊎◌, ℕ, zero, suc, ◌+◌, ◌<◌, ◌≤◌, ◌==◌, pos, negsuc, Bool, true, false, List, [], ◌∷◌, length, replicate, refl, sym, ap, ◌∙◌, subst, inl, inr, arith, Less}
use Rattle.std.specs.List.{AllByRecursion}
use Rattle.std.proofs.lemmas.Bool.Decides.{nat_tests}
use Rattle.cpn_definitions.specs.Value.{PlainValue, unit, boolean, int, list, from_list}
use Rattle.cpn_definitions.specs.Order.{value_cmp}
use Rattle.cpn_definitions.specs.ValueOrder.{value_cmp_total, pos_cmp}
use Rattle.cpn_definitions.specs.Colour.{PlainShape, PlainColour, unit_shape, boolean_shape, int_shape, list_shape, admits}
use Rattle.cpn_definitions.specs.Lists.{Rises}
use Rattle.cpn_definitions.specs.Bindable.{AreAll, IsSmall}
use Rattle.cpn_definitions.proofs.RisingLists.{IsIn, in_from_contains, contains_from_in}
use Rattle.cpn_definitions.proofs.OneEnabledList.{rising_is_unique, asymmetric, after_first}
use Rattle.cpn_definitions.proofs.NumberTests.{compared_less}

-- ---- one list

pub one_list_of_all : (colour : PlainColour) (vs ws : List PlainValue) → AreAll colour vs → AreAll colour ws → vs ≡ ws
one_list_of_all colour vs ws av aw =
    rising_is_unique value_cmp value_cmp_total vs ws av.in_order aw.in_order (λ v in'. in_from_contains ws v ((aw.all v).0 ((av.all v).1 (contains_from_in vs v in')))) (λ v in'. in_from_contains vs v ((av.all v).0 ((aw.all v).1 (contains_from_in ws v in'))))

-- ---- a rising list is no longer than one that it is in

-- without its first item, what is in a rising list and after that item is in the rest
in_the_rest : (u v : PlainValue) (us vs : List PlainValue) → AllByRecursion (λ w. value_cmp u w ≡ Less) us → ((w : PlainValue) → IsIn w us → IsIn w (v ∷ vs)) → (value_cmp v u ≡ Less) ⊎ (v ≡ u) → (w : PlainValue) → IsIn w us → IsIn w vs
in_the_rest u v us vs above all order w in' = split order (all w in')
  where
    after : value_cmp u w ≡ Less
    after = after_first value_cmp u w us above in'

    split : (value_cmp v u ≡ Less) ⊎ (v ≡ u) → (v ≡ w) ⊎ IsIn w vs → IsIn w vs
    split order (inr rest) = rest
    split (inl less) (inl is) = absurd (asymmetric value_cmp value_cmp_total u w after (subst (λ z. value_cmp z u ≡ Less) is less))
    split (inr same) (inl is) = let self : value_cmp w w ≡ Less = subst (λ z. value_cmp z w ≡ Less) (sym same ∙ is) after in absurd (asymmetric value_cmp value_cmp_total w w self self)

pub no_longer : (us vs : List PlainValue) → Rises value_cmp us → Rises value_cmp vs → ((w : PlainValue) → IsIn w us → IsIn w vs) → length us ≤ length vs
no_longer [] vs ru rv all = omega arith
no_longer (u ∷ us) [] ru rv all = absurd (all u (inl refl))
no_longer (u ∷ us) (v ∷ vs) ru rv all = split (all u (inl refl)) (λ order. no_longer us vs ru.1 rv.1 (in_the_rest u v us vs ru.0 (λ w in'. all w (inr in')) order)) (λ less. no_longer (u ∷ us) vs ru rv.1 (whole less))
  where
    whole : IsIn u vs → (w : PlainValue) → IsIn w (u ∷ us) → IsIn w vs
    whole in' w (inl is) = subst (λ z. IsIn z vs) is in'
    whole in' w (inr rest) = in_the_rest u v us vs ru.0 (λ w in'. all w (inr in')) (inl (after_first value_cmp v u vs rv.0 in')) w rest

    split : (v ≡ u) ⊎ IsIn u vs → ((value_cmp v u ≡ Less) ⊎ (v ≡ u) → length us ≤ length vs) → (IsIn u vs → length (u ∷ us) ≤ length vs) → length (u ∷ us) ≤ length (v ∷ vs)
    split (inl same) short long = let le = short (inr same) in omega arith
    split (inr in') short long = let le = long in' in omega arith

-- ---- not small

-- a colour set that admits more than 256 values is not small
pub not_small : (colour : PlainColour) (us : List PlainValue) → Rises value_cmp us → ((v : PlainValue) → IsIn v us → admits colour v ≡ true) → 256 < length us → IsSmall colour → ⊥
not_small colour us rises admitted many small =
    let short = no_longer us small.0 rises small.1.in_order (λ v in'. in_from_contains small.0 v ((small.1.all v).0 (admitted v in'))) in
    let few = small.2 in
    absurd (omega arith)

-- ---- integers: the colour set of the integers from k to k + n is small exactly where n is below 256

abbrev pub integers : ℕ → ℕ → PlainColour
integers k n = record { shape = int_shape (pos k) (pos (k + n)); timed = false }

-- so many integers from one on
abbrev integers_from : ℕ → ℕ → List PlainValue
integers_from k zero = []
integers_from k (suc n) = int (pos k) ∷ integers_from (suc k) n

earlier : (i j : ℕ) → i < j → value_cmp (int (pos i)) (int (pos j)) ≡ Less
earlier i j lt = pos_cmp i j ∙ compared_less i j lt

all_later : (i k n : ℕ) → i < k → AllByRecursion (λ v. value_cmp (int (pos i)) v ≡ Less) (integers_from k n)
all_later i k zero lt = tt
all_later i k (suc n) lt = (earlier i k lt, all_later i (suc k) n (omega arith))

integers_rise : (k n : ℕ) → Rises value_cmp (integers_from k n)
integers_rise k zero = tt
integers_rise k (suc n) = (all_later k (suc k) n (omega arith), integers_rise (suc k) n)

integers_length : (k n : ℕ) → length (integers_from k n) ≡ n
integers_length k zero = refl
integers_length k (suc n) = ap suc (integers_length (suc k) n)

-- an integer of the range is among them, and what is among them is an integer of the range
is_among : (k n j : ℕ) → k ≤ j → j < k + n → IsIn (int (pos j)) (integers_from k n)
is_among k zero j le lt = absurd (omega arith)
is_among k (suc n) j le lt = split (k == j) refl (λ later. is_among (suc k) n j later (omega arith))
  where
    split : (t : Bool) → (k == j) ≡ t → (suc k ≤ j → IsIn (int (pos j)) (integers_from (suc k) n)) → IsIn (int (pos j)) (integers_from k (suc n))
    split true is rest = let same : k ≡ j = grind (arith, nat_tests) in inl (ap (λ i. int (pos i)) same)
    split false is rest = inr (rest (grind (arith, nat_tests)))

among_is : (k n : ℕ) (v : PlainValue) → IsIn v (integers_from k n) → (j : ℕ) × (k ≤ j) × (j < k + n) × (v ≡ int (pos j))
among_is k zero v in' = absurd in'
among_is k (suc n) v (inl is) = (k, omega arith, omega arith, sym is)
among_is k (suc n) v (inr rest) = let found = among_is (suc k) n v rest in (found.0, omega arith, omega arith, found.3)

within_range : (k n j : ℕ) → k ≤ j → j < k + suc n → admits (integers k n) (int (pos j)) ≡ true
within_range k n j le lt = grind (arith, nat_tests)

range_within : (k n j : ℕ) → admits (integers k n) (int (pos j)) ≡ true → (k ≤ j) × (j < k + suc n)
range_within k n j is = (grind (arith, nat_tests), grind (arith, nat_tests))

admitted_is_among : (k n : ℕ) (v : PlainValue) → admits (integers k n) v ≡ true → IsIn v (integers_from k (suc n))
admitted_is_among k n (int (pos j)) is = let bounds = range_within k n j is in is_among k (suc n) j bounds.0 bounds.1
admitted_is_among k n (int (negsuc j)) is = cc
admitted_is_among k n v is = cc

all_integers : (k n : ℕ) → AreAll (integers k n) (integers_from k (suc n))
all_integers k n = record {
  in_order = integers_rise k (suc n);
  all = λ v. ((λ is. contains_from_in (integers_from k (suc n)) v (admitted_is_among k n v is)), (λ has. let found = among_is k (suc n) v (in_from_contains (integers_from k (suc n)) v has) in subst (λ w. admits (integers k n) w ≡ true) (sym found.3) (within_range k n found.0 found.1 found.2)));
}

pub integers_are_small : (k n : ℕ) → n < 256 → IsSmall (integers k n)
integers_are_small k n few = (integers_from k (suc n), all_integers k n, few_of (length (integers_from k (suc n))) (integers_length k (suc n)))
  where
    few_of : (m : ℕ) → m ≡ suc n → m ≤ 256
    few_of m is = omega arith

pub integers_are_not_small : (k n : ℕ) → 256 ≤ n → IsSmall (integers k n) → ⊥
integers_are_not_small k n many = not_small (integers k n) (integers_from k (suc n)) (integers_rise k (suc n)) admitted (many_of (length (integers_from k (suc n))) (integers_length k (suc n)))
  where
    admitted : (v : PlainValue) → IsIn v (integers_from k (suc n)) → admits (integers k n) v ≡ true
    admitted v in' = let found = among_is k (suc n) v in' in subst (λ w. admits (integers k n) w ≡ true) (sym found.3) (within_range k n found.0 found.1 found.2)

    many_of : (m : ℕ) → m ≡ suc n → 256 < m
    many_of m is = omega arith

-- the colour set of all integers of 64 bits
abbrev pub all_of_64_bits : PlainColour
all_of_64_bits = record { shape = int_shape (negsuc 9223372036854775807) (pos 9223372036854775807); timed = false }

pub all_of_64_bits_are_not_small : IsSmall all_of_64_bits → ⊥
all_of_64_bits_are_not_small = not_small all_of_64_bits (integers_from 0 257) (integers_rise 0 257) admitted (many_of (length (integers_from 0 257)) (integers_length 0 257))
  where
    fits : (j : ℕ) → j < 257 → admits all_of_64_bits (int (pos j)) ≡ true
    fits j lt = grind (arith, nat_tests)

    admitted : (v : PlainValue) → IsIn v (integers_from 0 257) → admits all_of_64_bits v ≡ true
    admitted v in' = let found = among_is 0 257 v in' in subst (λ w. admits all_of_64_bits w ≡ true) (sym found.3) (fits found.0 found.2)

    many_of : (m : ℕ) → m ≡ 257 → 256 < m
    many_of m is = omega arith

-- ---- unit and the truth values are small

abbrev pub plain_colour : PlainShape → PlainColour
plain_colour shape = record { shape = shape; timed = false }

pub unit_is_small : IsSmall (plain_colour unit_shape)
unit_is_small = (unit ∷ [], record { in_order = (tt, tt); all = λ v. ((λ is. contains_from_in (unit ∷ []) v (to v is)), (λ has. from v (in_from_contains (unit ∷ []) v has))) }, omega arith)
  where
    to : (v : PlainValue) → admits (plain_colour unit_shape) v ≡ true → IsIn v (unit ∷ [])
    to unit is = inl refl
    to v is = cc

    from : (v : PlainValue) → IsIn v (unit ∷ []) → admits (plain_colour unit_shape) v ≡ true
    from v (inl is) = subst (λ w. admits (plain_colour unit_shape) w ≡ true) is refl
    from v (inr none) = absurd none

abbrev pub both_truths : List PlainValue
both_truths = boolean false ∷ boolean true ∷ []

pub all_truths : AreAll (plain_colour boolean_shape) both_truths
all_truths = record { in_order = ((refl, tt), (tt, tt)); all = λ v. ((λ is. contains_from_in both_truths v (to v is)), (λ has. from v (in_from_contains both_truths v has))) }
  where
    to : (v : PlainValue) → admits (plain_colour boolean_shape) v ≡ true → IsIn v both_truths
    to (boolean false) is = inl refl
    to (boolean true) is = inr (inl refl)
    to v is = cc

    from : (v : PlainValue) → IsIn v both_truths → admits (plain_colour boolean_shape) v ≡ true
    from v (inl is) = subst (λ w. admits (plain_colour boolean_shape) w ≡ true) is refl
    from v (inr (inl is)) = subst (λ w. admits (plain_colour boolean_shape) w ≡ true) is refl
    from v (inr (inr none)) = absurd none

pub truths_are_small : IsSmall (plain_colour boolean_shape)
truths_are_small = (both_truths, all_truths, omega arith)

-- ---- lists are not small, not even of unit

-- lists of k units and more, one for each number
abbrev units : ℕ → PlainValue
units k = list (from_list (replicate k unit))

abbrev unit_lists : ℕ → ℕ → List PlainValue
unit_lists k zero = []
unit_lists k (suc n) = units k ∷ unit_lists (suc k) n

shorter : (i j : ℕ) → i < j → value_cmp (units i) (units j) ≡ Less
shorter zero zero lt = absurd (omega arith)
shorter zero (suc j) lt = refl
shorter (suc i) zero lt = absurd (omega arith)
shorter (suc i) (suc j) lt = shorter i j (omega arith)

all_longer : (i k n : ℕ) → i < k → AllByRecursion (λ v. value_cmp (units i) v ≡ Less) (unit_lists k n)
all_longer i k zero lt = tt
all_longer i k (suc n) lt = (shorter i k lt, all_longer i (suc k) n (omega arith))

unit_lists_rise : (k n : ℕ) → Rises value_cmp (unit_lists k n)
unit_lists_rise k zero = tt
unit_lists_rise k (suc n) = (all_longer k (suc k) n (omega arith), unit_lists_rise (suc k) n)

unit_lists_length : (k n : ℕ) → length (unit_lists k n) ≡ n
unit_lists_length k zero = refl
unit_lists_length k (suc n) = ap suc (unit_lists_length (suc k) n)

units_admitted : (k : ℕ) → admits (plain_colour (list_shape unit_shape)) (units k) ≡ true
units_admitted zero = refl
units_admitted (suc k) = units_admitted k

unit_lists_admitted : (k n : ℕ) (v : PlainValue) → IsIn v (unit_lists k n) → admits (plain_colour (list_shape unit_shape)) v ≡ true
unit_lists_admitted k zero v in' = absurd in'
unit_lists_admitted k (suc n) v (inl is) = subst (λ w. admits (plain_colour (list_shape unit_shape)) w ≡ true) is (units_admitted k)
unit_lists_admitted k (suc n) v (inr rest) = unit_lists_admitted (suc k) n v rest

pub lists_are_not_small : IsSmall (plain_colour (list_shape unit_shape)) → ⊥
lists_are_not_small = not_small (plain_colour (list_shape unit_shape)) (unit_lists 0 257) (unit_lists_rise 0 257) (unit_lists_admitted 0 257) (many_of (length (unit_lists 0 257)) (unit_lists_length 0 257))
  where
    many_of : (m : ℕ) → m ≡ 257 → 256 < m
    many_of m is = omega arith
