-- The bounds of markings, computed: the latest time stamp is one of 64 bits, and an occurrence reaches it; and which markings are
-- within which bounds.
use Rattle.std.proofs.Common.{◌≡◌, ℕ, zero, suc, ◌+◌, ◌<◌, ◌≤◌, ◌^◌, pos, true, false, [], ◌∷◌, Some, refl, arith}
use Rattle.cpn_definitions.specs.Value.{int}
use Rattle.cpn_definitions.specs.Bounds.{most_made, last_stamp, IsBounded, IsInTime}
use Rattle.cpn_definitions.specs.Colour.{int_shape}
use Rattle.cpn_definitions.specs.Inscription.{literal, one, later}
use Rattle.cpn_definitions.specs.Marking.{Marking, token_at}
use Rattle.cpn_definitions.specs.Net.{PlainNet}
use Rattle.cpn_definitions.specs.Outcome.{gives}
use Rattle.cpn_definitions.specs.Occurrence.{outputs_of}
use Rattle.cpn_definitions.specs.Times.{last_time}

-- ---- stamps

stamps_have_64_bits : last_stamp < 2 ^ 64
stamps_have_64_bits = omega arith

-- a transition that makes a 7, with the greatest delay of its own and the greatest of the token
abbrev latest_net : PlainNet
latest_net = record {
  places = record { name = []; colour = record { shape = int_shape (pos 0) (pos 9); timed = true } } ∷ [];
  transitions = record {
    name = [];
    guard = [];
    delay = Some (literal (int (pos last_time)));
    inputs = [];
    outputs = record { place = 0; colour = record { shape = int_shape (pos 0) (pos 9); timed = true }; expr = later (one (literal (int (pos 7)))) (literal (int (pos last_time))); terms = [] } ∷ [];
    vars = [];
  } ∷ [];
  variables = [];
  constants = [];
  constructors = [];
  functions = [];
}

-- at the last time the token has the latest stamp
latest_is_reached : outputs_of latest_net (record { transition = 0; binding = [] }) last_time ≡ gives (record { place = 0; value = int (pos 7); stamp = last_stamp } ∷ [])
unfolding outputs_of
latest_is_reached = refl

abbrev stamped_by : ℕ → Marking
stamped_by stamp = [] ∷ (token_at (int (pos 7)) stamp ∷ []) ∷ []

in_time : IsInTime (stamped_by last_stamp)
in_time zero = refl
in_time (suc zero) = refl
in_time (suc (suc p)) = refl

not_in_time : IsInTime (stamped_by (last_stamp + 1)) → ⊥
not_in_time is = let e : false ≡ true = is 1 in cc

-- ---- tokens

-- the most that an occurrence makes: 65,536 on each of 64 arcs
most_is : most_made ≡ 4194304
most_is = refl

abbrev two_and_one : Marking
two_and_one = (token_at (int (pos 7)) 0 ∷ token_at (int (pos 7)) 4 ∷ []) ∷ (token_at (int (pos 2)) 0 ∷ []) ∷ []

two_are_enough : IsBounded 2 two_and_one
two_are_enough zero = omega arith
two_are_enough (suc zero) = omega arith
two_are_enough (suc (suc p)) = omega arith

one_is_too_few : IsBounded 1 two_and_one → ⊥
one_is_too_few is = let few : 2 ≤ 1 = is 0 in absurd (omega (arith, few))
