-- Worked cases of seats: whose events are which, and what becomes of a claim that a seat holds; in the worked net, from two tokens on place 0, at the
-- clock 3.
use Rattle.std.proofs.Common.{◌≡◌, ℕ, zero, suc, ◌≤◌, ◌==◌, true, false, cond, List, [], ◌∷◌, Some, refl, ap, ne_eqb, arith}
use Rattle.cpn_runs.specs.HoleRun.{PlainClaim}
use Rattle.cpn_runs.specs.State.{PlainEvent, PlainState, claim_made, claim_completed, clock_moved, cut_made, wants_memory}
use Rattle.cpn_runs.specs.HeldClaims.{IsOpenAt, IsCutAt}
use Rattle.cpn_runs.specs.SeatEvents.{events_by, NoneBy, AllBy}
use Rattle.cpn_runs.proofs.StopRows.{stopped_with}
use Rattle.cpn_runs.proofs.TwoSeats.{opened, done, both_claimed, second_done}

-- ---- whose events are which

-- the first seat claims, the clock moves, it completes its claim, and a cut is made
abbrev by_the_first : List PlainEvent
by_the_first = claim_made 0 0 ∷ clock_moved 5 ∷ claim_completed 0 0 ∷ cut_made 1 ∷ []

of_the_first : events_by 0 by_the_first ≡ claim_made 0 0 ∷ claim_completed 0 0 ∷ []
of_the_first = refl

of_no_other : events_by 1 by_the_first ≡ []
of_no_other = refl

no_other_made_one : (seat : ℕ) → (0 == seat) ≡ false → events_by seat by_the_first ≡ []
no_other_made_one seat other = ap (λ b. cond b (claim_made 0 0 ∷ cond b (claim_completed 0 0 ∷ []) []) (cond b (claim_completed 0 0 ∷ []) [])) other

none_by_others : NoneBy (1 ∷ 2 ∷ []) by_the_first
none_by_others zero among = absurd (let e : false ≡ true = among in cc)
none_by_others (suc seat) among = no_other_made_one (suc seat) (ne_eqb 0 (suc seat) (λ e. cc))

-- but the first made some
some_by_the_first : NoneBy (1 ∷ 0 ∷ []) by_the_first → ⊥
some_by_the_first none = let e : (claim_made 0 0 ∷ claim_completed 0 0 ∷ []) ≡ [] = none 0 refl in absurd (cc)

all_by_the_first : AllBy 0 by_the_first
all_by_the_first zero other = absurd (other refl)
all_by_the_first (suc seat) other = no_other_made_one (suc seat) (ne_eqb 0 (suc seat) (λ e. cc))

not_all_by_the_second : AllBy 1 by_the_first → ⊥
not_all_by_the_second all = let e : (claim_made 0 0 ∷ claim_completed 0 0 ∷ []) ≡ [] = all 0 (λ e. cc) in absurd (cc)

-- ---- a claim that is held

second_is_open : IsOpenAt both_claimed 1 (opened 1)
second_is_open = record { claim_is = refl; still_open = refl }

-- it is another claim than the first seat's, and a done claim is not open
not_of_the_first : IsOpenAt both_claimed 1 (opened 0) → ⊥
not_of_the_first o =
    let e : Some (opened 1) ≡ Some (opened 0) = o.claim_is in
    let claim : opened 1 ≡ opened 0 = cc in
    let seat : (opened 1).seat ≡ (opened 0).seat = ap (λ (c : PlainClaim). c.seat) claim in
    absurd (omega (arith, seat))

not_open_when_done : IsOpenAt second_done 1 (done 1) → ⊥
not_open_when_done o = let e : false ≡ true = o.still_open in absurd (cc)

-- the second is given back: a cut has removed it, and the first is open
abbrev after_the_cut : PlainState
after_the_cut = stopped_with (opened 0 ∷ []) (record { number = 1; cause = wants_memory })

second_is_cut : IsCutAt after_the_cut 1
second_is_cut = record { cut = record { number = 1; cause = wants_memory }; cut_is = refl; at_or_below = omega arith; gone = omega arith }

first_is_open : IsOpenAt after_the_cut 0 (opened 0)
first_is_open = record { claim_is = refl; still_open = refl }

first_is_not_cut : IsCutAt after_the_cut 0 → ⊥
first_is_not_cut c = let gone : 1 ≤ 0 = c.gone in absurd (omega (arith, gone))
