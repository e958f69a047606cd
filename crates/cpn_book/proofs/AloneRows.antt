-- Rows by which going on alone is computed: what does, and what does not.
use Rattle.std.proofs.Common.{ℕ, [], ◌∷◌, refl, arith}
use Rattle.cpn_runs.specs.State.{claim_made, claim_completed, clock_moved, cut_made}
use Rattle.cpn_book.specs.GoingAlone.{AreCompletions, AreRounds, GoesOnAlone}

-- two open claims, of which the second is another seat's; then the clock moves, and seat 0 plays a round, which makes a cut
pub two_open_and_a_round : GoesOnAlone (claim_completed 0 1 ∷ claim_completed 1 2 ∷ clock_moved 5 ∷ claim_made 0 3 ∷ claim_completed 0 3 ∷ cut_made 3 ∷ [])
two_open_and_a_round = record {
  completions = claim_completed 0 1 ∷ claim_completed 1 2 ∷ [];
  rounds = clock_moved 5 ∷ claim_made 0 3 ∷ claim_completed 0 3 ∷ cut_made 3 ∷ [];
  are = refl;
  limit = 3;
  in_order = (omega arith, (omega arith, omega arith));
  alone = (refl, refl, tt);
}

-- completions against the order of number
pub not_against_the_order : (limit : ℕ) → AreCompletions 0 limit (claim_completed 0 1 ∷ claim_completed 1 0 ∷ []) → ⊥
not_against_the_order limit are = let second = are.1.0 in omega (arith, second)

-- a claim before the open ones are completed, and a move
pub no_claim_before : (limit : ℕ) → AreCompletions 0 limit (claim_made 0 1 ∷ claim_completed 0 0 ∷ []) → ⊥
no_claim_before limit are = are

pub no_move_before : (limit : ℕ) → AreCompletions 0 limit (clock_moved 1 ∷ claim_completed 0 0 ∷ []) → ⊥
no_move_before limit are = are

-- a round of another seat
pub no_other_seat : AreRounds (claim_made 1 0 ∷ claim_completed 1 0 ∷ []) → ⊥
no_other_seat are = let seat = are.0 in omega (arith, seat)

-- a claim that stays open, one that is made before the other is done, and the completion of another one
pub none_stays_open : AreRounds (claim_made 0 0 ∷ []) → ⊥
none_stays_open are = are

pub no_two_at_once : AreRounds (claim_made 0 0 ∷ claim_made 0 1 ∷ claim_completed 0 1 ∷ []) → ⊥
no_two_at_once are = let other = are.1 in cc

pub not_of_another : AreRounds (claim_made 0 0 ∷ claim_completed 0 1 ∷ []) → ⊥
not_of_another are = let other = are.1 in cc

-- a completion without its claim
pub none_without_its_claim : AreRounds (claim_completed 0 0 ∷ []) → ⊥
none_without_its_claim are = are
