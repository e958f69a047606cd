-- What is kept where outputs are carried past picks: for each output a token of its value on its place is left over, which is not
-- later; and each pick is of the same value on the same place by the same threshold, and its stamp is not earlier.
use Rattle.std.proofs.Common.{◌≡◌, ℕ, suc, ◌≤◌, true, nat_lt, nat_le, List, [], ◌∷◌, ◌++◌, take, drop, refl, subst, ◌∙◌, arith, ltb-true}
use Rattle.std.proofs.lemmas.Bool.{cond_both, and_parts}
use Rattle.std.proofs.lemmas.List.{take-append-drop}
use Rattle.cpn_definitions.specs.Occurrence.{Made}
use Rattle.cpn_tmset.specs.Stamps.{is_preferred}
use Rattle.cpn_runs.specs.HoleRun.{PlainPick, PlainHoleRun}
use Rattle.cpn_runs.specs.Filling.{is_of_token, takes, pick_after, past_pick, claim_after, past_claim, claims_after, past_claims, picks_after, carried_past, IsLeftFor, IsLaterPick, EachTwo, filled_run}
use Rattle.cpn_runs.proofs.EachTwoItems.{each_itself, each_through, each_joined}

-- a pick takes a token that is later than its own
later_than_own : (made : Made) (pick : PlainPick) → takes pick made ≡ true → pick.stamp ≤ made.stamp
later_than_own made pick is =
    let preferred = and_parts (is_of_token pick made) (is_preferred pick.threshold pick.stamp made.stamp) is in
    let lt = ltb-true pick.stamp made.stamp (and_parts (nat_lt pick.stamp made.stamp) (nat_le made.stamp pick.threshold) preferred.1).0 in
    omega arith

-- ---- what is left over

left_through : (made mid left : Made) → IsLeftFor made mid → IsLeftFor mid left → IsLeftFor made left
left_through made mid left first second = record { place = second.place ∙ first.place; value = second.value ∙ first.value; stamp = omega (arith, first.stamp, second.stamp) }

left_by_pick : (made : Made) (pick : PlainPick) → IsLeftFor made (past_pick made pick)
left_by_pick made pick = record { place = refl; value = refl; stamp = cond_both (takes pick made) pick.stamp made.stamp (λ (s : ℕ). s ≤ made.stamp) (later_than_own made pick) (λ _. omega arith) }

left_by_claim : (made : Made) (picks : List PlainPick) → IsLeftFor made (past_claim made picks)
left_by_claim made [] = record { place = refl; value = refl; stamp = omega arith }
left_by_claim made (pick ∷ picks) = left_through made (past_pick made pick) (past_claim (past_pick made pick) picks) (left_by_pick made pick) (left_by_claim (past_pick made pick) picks)

left_by_claims : (made : Made) (later : List (List PlainPick)) → IsLeftFor made (past_claims made later)
left_by_claims made [] = record { place = refl; value = refl; stamp = omega arith }
left_by_claims made (picks ∷ later) = left_through made (past_claim made picks) (past_claims (past_claim made picks) later) (left_by_claim made picks) (left_by_claims (past_claim made picks) later)

-- one token is left over for each output
pub each_is_left : (outputs : List Made) (later : List (List PlainPick)) → EachTwo IsLeftFor outputs (carried_past outputs later)
each_is_left [] later = tt
each_is_left (made ∷ outputs) later = (left_by_claims made later, each_is_left outputs (claims_after made later))

-- ---- what the picks keep

kept_itself : (pick : PlainPick) → IsLaterPick pick pick
kept_itself pick = record { place = refl; value = refl; threshold = refl; stamp = omega arith }

kept_through : (old mid new : PlainPick) → IsLaterPick old mid → IsLaterPick mid new → IsLaterPick old new
kept_through old mid new first second = record { place = second.place ∙ first.place; value = second.value ∙ first.value; threshold = second.threshold ∙ first.threshold; stamp = omega (arith, first.stamp, second.stamp) }

pick_kept : (made : Made) (pick : PlainPick) → IsLaterPick pick (pick_after made pick)
pick_kept made pick = record { place = refl; value = refl; threshold = refl; stamp = cond_both (takes pick made) made.stamp pick.stamp (λ (s : ℕ). pick.stamp ≤ s) (later_than_own made pick) (λ _. omega arith) }

claim_kept : (made : Made) (picks : List PlainPick) → EachTwo IsLaterPick picks (claim_after made picks)
claim_kept made [] = tt
claim_kept made (pick ∷ picks) = (pick_kept made pick, claim_kept (past_pick made pick) picks)

claims_kept : (made : Made) (later : List (List PlainPick)) → EachTwo (EachTwo IsLaterPick) later (claims_after made later)
claims_kept made [] = tt
claims_kept made (picks ∷ later) = (claim_kept made picks, claims_kept (past_claim made picks) later)

all_kept : (outputs : List Made) (later : List (List PlainPick)) → EachTwo (EachTwo IsLaterPick) later (picks_after outputs later)
all_kept [] later = each_itself (EachTwo IsLaterPick) (each_itself IsLaterPick kept_itself) later
all_kept (made ∷ outputs) later = each_through (EachTwo IsLaterPick) (each_through IsLaterPick kept_through) later (claims_after made later) (picks_after outputs (claims_after made later)) (claims_kept made later) (all_kept outputs (claims_after made later))

-- each claim of a filled run has as many picks as before, which are kept
pub picks_kept : (k : ℕ) (outputs : List Made) (run : PlainHoleRun) → EachTwo (EachTwo IsLaterPick) run.picks (filled_run k outputs run).picks
picks_kept k outputs run =
    let first = take (suc k) run.picks in
    let later = drop (suc k) run.picks in
    let P : List (List PlainPick) → Type 0 = λ old. EachTwo (EachTwo IsLaterPick) old (first ++ picks_after outputs later) in
    subst P (take-append-drop (suc k) run.picks) (each_joined (EachTwo IsLaterPick) first first later (picks_after outputs later) (each_itself (EachTwo IsLaterPick) (each_itself IsLaterPick kept_itself) first) (all_kept outputs later))
