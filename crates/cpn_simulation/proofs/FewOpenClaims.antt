-- At most as many claims are open as a run has seats: each is open for a seat of the run, and none has two.
use Rattle.std.proofs.Common.{◌≡◌, ℕ, zero, suc, ◌+◌, ◌<◌, ◌≤◌, ◌==◌, ◌&&◌, ◌⊎◌, Bool, true, false, cond, List, [], ◌∷◌, inl, inr, refl, ap, arith, count_by, eq-eqb}
use Rattle.std.specs.Prelude.{nat_lt}
use Rattle.std.specs.List.{AllByRecursion}
use Rattle.std.proofs.lemmas.Bool.{cases_lt, le-ltb, lt-ltb}
use Rattle.std.proofs.lemmas.List.Sums.{sum_by-cons}
use Rattle.cpn_book.specs.States.{open_claims}
use Rattle.cpn_definitions.proofs.RisingLists.{each_implied}
use Rattle.cpn_edit.specs.Sessions.{PlainSession, IsNextRun, AreRuns, after_phase, after_run}
use Rattle.cpn_document.specs.declared.document.Start.{Start}
use Rattle.cpn_runs.specs.HoleRun.{PlainClaim, is_open}
use Rattle.cpn_runs.specs.Phases.{PlainPhase}
use Rattle.cpn_runs.specs.State.{PlainSetup, PlainEvent, PlainState, is_held_by, IsState}
use Rattle.cpn_runs.proofs.States.{IsClaimOf, every_state}
use Rattle.cpn_simulation.specs.AcceptedRuns.{IsOfWorkers, RunsAreOfWorkers}
use Rattle.cpn_simulation.specs.Reported.{session_from}

-- ---- one claim

-- a truth value counts 1 or 0
abbrev one_if : Bool → ℕ
one_if b = cond b 1 0

one_at_most : (b : Bool) → one_if b ≤ 1
one_at_most true = omega arith
one_at_most false = omega arith

-- whether a claim is open for one of the first seats
abbrev is_open_below : ℕ → PlainClaim → Bool
is_open_below n claim = is_open claim.status && nat_lt claim.seat n

-- of no seat at all
none_below : (opened : Bool) (seat : ℕ) → one_if (opened && nat_lt seat 0) ≡ 0
none_below false seat = refl
none_below true seat = ap one_if (le-ltb seat 0 (omega arith))

-- of one seat more
one_seat_more : (opened : Bool) (seat n : ℕ) → one_if (opened && nat_lt seat (suc n)) ≤ one_if (opened && nat_lt seat n) + one_if (opened && (seat == n))
one_seat_more false seat n = omega arith
one_seat_more true seat n = by (cases_lt seat n) (cases_lt seat (suc n))
  where
    by : (seat < n) ⊎ (n ≤ seat) → (seat < suc n) ⊎ (suc n ≤ seat) → one_if (nat_lt seat (suc n)) ≤ one_if (nat_lt seat n) + one_if (seat == n)
    by (inl below) second =
        let most = one_at_most (nat_lt seat (suc n)) in
        let there : one_if (nat_lt seat n) ≡ 1 = ap one_if (lt-ltb seat n below) in
        omega (arith, most, there)
    by (inr from) (inl upto) =
        let most = one_at_most (nat_lt seat (suc n)) in
        let there : one_if (seat == n) ≡ 1 = ap one_if (eq-eqb seat n (omega (arith, from, upto))) in
        omega (arith, most, there)
    by (inr from) (inr past) =
        let none : one_if (nat_lt seat (suc n)) ≡ 0 = ap one_if (le-ltb seat (suc n) past) in
        omega (arith, none)

-- of all seats
known_below : (opened : Bool) (seat n : ℕ) → seat < n → one_if (opened && nat_lt seat n) ≡ one_if opened
known_below false seat n below = refl
known_below true seat n below = ap one_if (lt-ltb seat n below)

-- ---- all claims

counted : (p : PlainClaim → Bool) (claim : PlainClaim) (claims : List PlainClaim) → count_by p (claim ∷ claims) ≡ one_if (p claim) + count_by p claims
counted p claim claims = sum_by-cons (λ c. cond (p c) 1 0) claim claims

none_open_below : (claims : List PlainClaim) → count_by (is_open_below 0) claims ≡ 0
none_open_below [] = refl
none_open_below (claim ∷ claims) =
    let all : count_by (is_open_below 0) (claim ∷ claims) ≡ one_if (is_open claim.status && nat_lt claim.seat 0) + count_by (is_open_below 0) claims = counted (is_open_below 0) claim claims in
    let first = none_below (is_open claim.status) claim.seat in
    let rest = none_open_below claims in
    omega (arith, all, first, rest)

more_open_below : (n : ℕ) (claims : List PlainClaim) → count_by (is_open_below (suc n)) claims ≤ count_by (is_open_below n) claims + count_by (is_held_by n) claims
more_open_below n [] = omega arith
more_open_below n (claim ∷ claims) =
    let all : count_by (is_open_below (suc n)) (claim ∷ claims) ≡ one_if (is_open claim.status && nat_lt claim.seat (suc n)) + count_by (is_open_below (suc n)) claims = counted (is_open_below (suc n)) claim claims in
    let before : count_by (is_open_below n) (claim ∷ claims) ≡ one_if (is_open claim.status && nat_lt claim.seat n) + count_by (is_open_below n) claims = counted (is_open_below n) claim claims in
    let own : count_by (is_held_by n) (claim ∷ claims) ≡ one_if (is_open claim.status && (claim.seat == n)) + count_by (is_held_by n) claims = counted (is_held_by n) claim claims in
    let first = one_seat_more (is_open claim.status) claim.seat n in
    let rest = more_open_below n claims in
    omega (arith, all, before, own, first, rest)

few_open_below : (n : ℕ) (claims : List PlainClaim) → ((seat : ℕ) → count_by (is_held_by seat) claims ≤ 1) → count_by (is_open_below n) claims ≤ n
few_open_below zero claims one = let none = none_open_below claims in omega (arith, none)
few_open_below (suc n) claims one =
    let more = more_open_below n claims in
    let before = few_open_below n claims one in
    let own = one n in
    omega (arith, more, before, own)

all_open_below : (n : ℕ) (claims : List PlainClaim) → AllByRecursion (λ (claim : PlainClaim). claim.seat < n) claims → count_by (is_open_below n) claims ≡ count_by (λ (claim : PlainClaim). is_open claim.status) claims
all_open_below n [] known = refl
all_open_below n (claim ∷ claims) known =
    let below : count_by (is_open_below n) (claim ∷ claims) ≡ one_if (is_open claim.status && nat_lt claim.seat n) + count_by (is_open_below n) claims = counted (is_open_below n) claim claims in
    let all : count_by (λ (c : PlainClaim). is_open c.status) (claim ∷ claims) ≡ one_if (is_open claim.status) + count_by (λ (c : PlainClaim). is_open c.status) claims = counted (λ (c : PlainClaim). is_open c.status) claim claims in
    let first = known_below (is_open claim.status) claim.seat n known.0 in
    let rest = all_open_below n claims known.1 in
    omega (arith, below, all, first, rest)

-- ---- runs

-- In each state that a journal leads to, at most as many claims are open as the run has seats.
few_open : (setup : PlainSetup) (journal : List PlainEvent) (state : PlainState) → IsState setup journal state → open_claims state ≤ setup.limits.seats
few_open setup journal state is =
    let reached = every_state setup journal state is in
    let known = each_implied (IsClaimOf setup) (λ (claim : PlainClaim). claim.seat < setup.limits.seats) state.claims (λ claim its. its.seat_known) reached.claims_are in
    let few = few_open_below setup.limits.seats state.claims reached.one_each in
    let all = all_open_below setup.limits.seats state.claims known in
    omega (arith, few, all)

next_of_workers : (s : PlainSession) (from : Start) (run : PlainPhase) → IsNextRun s from run → IsOfWorkers s.limits.seats run
next_of_workers s from run next made later state are is =
    let few = few_open run.setup made state is in
    let seats : run.setup.limits.seats ≡ s.limits.seats = ap (λ (x : PlainSetup). x.limits.seats) next.setup_is in
    omega (arith, few, seats)

all_of_workers : (s : PlainSession) (runs : List PlainPhase) → AreRuns s runs → AllByRecursion (IsOfWorkers s.limits.seats) runs
unfolding AreRuns
all_of_workers s [] are = tt
all_of_workers s (run ∷ runs) are = (next_of_workers (after_phase s are.0 are.1) are.0.start run are.4, all_of_workers (after_run (after_phase s are.0 are.1) run) runs are.6)

-- The law.
pub runs_are_of_workers : RunsAreOfWorkers
runs_are_of_workers model options runs are = all_of_workers (session_from model options) runs are
