-- Rows that exhibit the definition: six items, of which 0, 3 and 5 are joined, and 1 and 2.
use Rattle.std.proofs.Common.{◌≡◌, ℕ, zero, suc, ◌<◌, ◌≤◌, List, [], ◌∷◌, get_or, refl, subst, arith}
use Rattle.cpn_classes.specs.Joined.{IsJoined, paired, itself, turned, through}
use Rattle.cpn_classes.specs.Numbering.{Numbering, number_of, first_of, IsNumbering}
use Rattle.cpn_classes.specs.OneNumbering.{numbering_same}
use Rattle.cpn_classes.specs.JoinedPairs.{alike}

abbrev three_pairs : List (ℕ × ℕ)
three_pairs = (0, 3) ∷ (3, 5) ∷ (1, 2) ∷ []

abbrev three_classes : Numbering
three_classes = record { numbers = 0 ∷ 1 ∷ 1 ∷ 0 ∷ 2 ∷ 0 ∷ []; firsts = 0 ∷ 1 ∷ 4 ∷ [] }

below_six : (P : ℕ → Type 0) → P 0 → P 1 → P 2 → P 3 → P 4 → P 5 → (i : ℕ) → i < 6 → P i
below_six P a b c d e f zero lt = a
below_six P a b c d e f (suc zero) lt = b
below_six P a b c d e f (suc (suc zero)) lt = c
below_six P a b c d e f (suc (suc (suc zero))) lt = d
below_six P a b c d e f (suc (suc (suc (suc zero)))) lt = e
below_six P a b c d e f (suc (suc (suc (suc (suc zero))))) lt = f
below_six P a b c d e f (suc (suc (suc (suc (suc (suc i)))))) lt = absurd (omega arith)

below_three : (P : ℕ → Type 0) → P 0 → P 1 → P 2 → (c : ℕ) → c < 3 → P c
below_three P a b c zero lt = a
below_three P a b c (suc zero) lt = b
below_three P a b c (suc (suc zero)) lt = c
below_three P a b c (suc (suc (suc i))) lt = absurd (omega arith)

zero_three : IsJoined three_pairs 0 3
zero_three = paired 0 3 (0, omega arith, refl)

three_five : IsJoined three_pairs 3 5
three_five = paired 3 5 (1, omega arith, refl)

one_two : IsJoined three_pairs 1 2
one_two = paired 1 2 (2, omega arith, refl)

to_first : (i : ℕ) → i < 6 → IsJoined three_pairs i (first_of three_classes (number_of three_classes i))
to_first = below_six (λ i. IsJoined three_pairs i (first_of three_classes (number_of three_classes i))) (itself 0) (itself 1) (turned 1 2 one_two) (turned 0 3 zero_three) (itself 4)
    (through 5 3 0 (turned 3 5 three_five) (turned 0 3 zero_three))

pairs_alike : (p : ℕ × ℕ) (k : ℕ) → k < 3 → get_or three_pairs k p ≡ p → number_of three_classes p.0 ≡ number_of three_classes p.1
pairs_alike p = below_three (λ k. get_or three_pairs k p ≡ p → number_of three_classes p.0 ≡ number_of three_classes p.1) (same (0, 3) refl) (same (3, 5) refl) (same (1, 2) refl)
  where
    same : (q : ℕ × ℕ) → number_of three_classes q.0 ≡ number_of three_classes q.1 → q ≡ p → number_of three_classes p.0 ≡ number_of three_classes p.1
    same q h e = subst (λ (r : ℕ × ℕ). number_of three_classes r.0 ≡ number_of three_classes r.1) e h

in_three_classes : IsNumbering 6 three_pairs three_classes
in_three_classes = record {
  each = refl;
  joined = λ i j i_in j_in. (
    λ same. through i _ j (to_first i i_in) (rw same (turned j _ (to_first j j_in))),
    alike three_pairs (number_of three_classes) (λ a b h. pairs_alike (a, b) h.0 h.1 h.2) i j,
  );
  in_order = record {
    in_class = below_six (λ i. number_of three_classes i < 3) (omega arith) (omega arith) (omega arith) (omega arith) (omega arith) (omega arith);
    is_item = below_three (λ c. first_of three_classes c < 6) (omega arith) (omega arith) (omega arith);
    is_member = below_three (λ c. number_of three_classes (first_of three_classes c) ≡ c) refl refl refl;
    is_least = below_six (λ i. first_of three_classes (number_of three_classes i) ≤ i) (omega arith) (omega arith) (omega arith) (omega arith) (omega arith) (omega arith);
    rise = λ c d less lt. below_three (λ d. c < d → first_of three_classes c < first_of three_classes d) (λ less. absurd (omega arith)) (rises_to_one c) (rises_to_two c) d lt less;
  };
}
  where
    rises_to_one : (c : ℕ) → c < 1 → first_of three_classes c < 1
    rises_to_one zero less = omega arith
    rises_to_one (suc c) less = absurd (omega arith)

    rises_to_two : (c : ℕ) → c < 2 → first_of three_classes c < 4
    rises_to_two zero less = omega arith
    rises_to_two (suc zero) less = omega arith
    rises_to_two (suc (suc c)) less = absurd (omega arith)

-- and in no other ones
in_no_others : (n : Numbering) → IsNumbering 6 three_pairs n → n ≡ three_classes
in_no_others n is = numbering_same 6 three_pairs n three_classes is in_three_classes
