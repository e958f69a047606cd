-- The stamps that the needs of a claim took are those of its picks.
use Rattle.std.proofs.Common.{◌≡◌, ℕ, true, List, [], ◌∷◌, refl, ap, ap₂}
use Rattle.std.specs.Option.{unwrap_or}
use Rattle.cpn_definitions.specs.Lists.{IsInOrder}
use Rattle.cpn_definitions.specs.Marking.{Marking, tokens_at, on_place, stamps, without_token}
use Rattle.cpn_definitions.specs.Occurrence.{Needed, needed_cmp, threshold, are_covered}
use Rattle.cpn_definitions.proofs.Subtraction.{AllAreSorted, sorted_without}
use Rattle.cpn_definitions.proofs.RicherMarkings.{covered_in_turn}
use Rattle.cpn_tmset.specs.StampsTaken.{stamps_taken}
use Rattle.cpn_tmset.proofs.CarriedStamps.{is_latest}
use Rattle.cpn_runs.specs.HoleRun.{PlainPick, picks_of}
use Rattle.cpn_runs.proofs.CarriedTokens.{CoveredInTurn, first_found, rest_covered}
use Rattle.cpn_log.specs.ClaimViews.{pick_with, picked_with}

in_turn : (time : ℕ) (needs : List Needed) (m : Marking) → AllAreSorted m → CoveredInTurn time needs m → picked_with time needs (stamps_taken time needs m) ≡ picks_of time needs m
in_turn time [] m sorted all = refl
in_turn time (need ∷ needs) m sorted all =
    let found = first_found time need needs m sorted all in
    let next = on_place need.place (without_token need.value (threshold time need)) m in
    let first = ap (λ o. pick_with time need (unwrap_or o 0)) (is_latest (threshold time need) (stamps need.value (tokens_at m need.place)) found) in
    let rest = in_turn time needs next (sorted_without need.place need.value (threshold time need) m sorted) (rest_covered time need needs m sorted all) in
    ap₂ (λ (p : PlainPick) ps. p ∷ ps) first rest

pub picks_are : (time : ℕ) (needs : List Needed) (m : Marking) → AllAreSorted m → IsInOrder needed_cmp needs → are_covered (threshold time) m needs ≡ true → picked_with time needs (stamps_taken time needs m) ≡ picks_of time needs m
picks_are time needs m sorted ordered all = in_turn time needs m sorted (λ p v. covered_in_turn time m needs p v ordered all)
