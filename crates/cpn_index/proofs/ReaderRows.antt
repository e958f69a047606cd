-- Which transitions a place bears on: rows, each computed by hand.
use Rattle.std.proofs.Common.{◌≡◌, true, false, [], ◌∷◌, refl}
use Rattle.std.specs.List.{list_any}
use Rattle.cpn_definitions.specs.Inscription.{sum_of, inscriptions_from, no_token}
use Rattle.cpn_definitions.specs.Net.{PlainArc}
use Rattle.cpn_index.specs.Readers.{has_term, reads_otherwise, bears, part_count, with_last}
use Rattle.cpn_index.proofs.SmallNets.{numbers, of_x, of_next}

-- x and x + 1 together
abbrev of_both : PlainArc
of_both = record { place = 0; colour = numbers; expr = sum_of (inscriptions_from ((of_x 0).expr ∷ (of_next 0).expr ∷ [])); terms = (of_x 0).terms }

abbrev of_no_token : PlainArc
of_no_token = record { place = 0; colour = numbers; expr = no_token; terms = [] }

-- ---- what an arc has

a_term_alone : reads_otherwise (of_x 0) ≡ false
a_term_alone = refl

no_term : has_term (of_next 0) ≡ false
no_term = refl

a_sum_has_its_term : has_term of_both ≡ true
a_sum_has_its_term = refl

a_sum_has_its_other_part : reads_otherwise of_both ≡ true
a_sum_has_its_other_part = refl

two_parts : part_count of_both.expr ≡ 2
two_parts = refl

-- no token is a part that is no term
no_token_is_no_term : reads_otherwise of_no_token ≡ true
no_token_is_no_term = refl

-- ---- where it comes from

of_another_place : list_any (bears has_term 0) (of_x 1 ∷ of_next 0 ∷ []) ≡ false
of_another_place = refl

of_the_place : list_any (bears reads_otherwise 0) (of_x 1 ∷ of_next 0 ∷ []) ≡ true
of_the_place = refl

-- ---- one number more

behind_others : with_last true 5 (2 ∷ 3 ∷ []) ≡ 2 ∷ 3 ∷ 5 ∷ []
behind_others = refl

just_once : with_last true 5 (2 ∷ 5 ∷ []) ≡ 2 ∷ 5 ∷ []
just_once = refl

not_there : with_last false 5 (2 ∷ 3 ∷ []) ≡ 2 ∷ 3 ∷ []
not_there = refl
