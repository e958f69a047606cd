-- As many seats hold a claim as claims are open.
use Rattle.std.proofs.Common.{◌≡◌, ℕ, zero, suc, ◌+◌, ◌<◌, ◌≤◌, ◌==◌, ◌&&◌, ◌||◌, Bool, true, false, cond, List, [], ◌∷◌, length, Option, Some, None, refl, sym, ap, ◌∙◌, subst, arith, slice_get, count_by, eq-eqb, ne_eqb}
use Rattle.std.specs.List.{AllByRecursion, list_any}
use Rattle.std.specs.Option.{is_some}
use Rattle.std.proofs.lemmas.List.Sums.{sum_by-cons}
use Rattle.cpn_runs.specs.HoleRun.{PlainClaim, is_open}
use Rattle.cpn_runs.specs.State.{PlainSetup, PlainEvent, PlainState, is_held_by}
use Rattle.cpn_runs.proofs.States.{every_state}
use Rattle.cpn_log.specs.Logs.{PlainLog}
use Rattle.cpn_book.specs.Held.{held_from, AreHeld}
use Rattle.cpn_book.specs.StandingRuns.{IsTold}
use Rattle.cpn_book.proofs.HeldClaims.{counted, none_counted as none_such}
use Rattle.cpn_book.proofs.MovedClocks.{seats_known}

-- ---- sums

-- the sum of what the numbers below n have
abbrev sum_below : (ℕ → ℕ) → ℕ → ℕ
sum_below f zero = 0
sum_below f (suc n) = f 0 + sum_below (λ i. f (suc i)) n

same_sum : (f g : ℕ → ℕ) (n : ℕ) → ((i : ℕ) → i < n → f i ≡ g i) → sum_below f n ≡ sum_below g n
same_sum f g zero same = refl
same_sum f g (suc n) same =
    let here = same 0 (omega arith) in
    let later = same_sum (λ i. f (suc i)) (λ i. g (suc i)) n (λ i lt. same (suc i) (omega arith)) in
    omega (arith, here, later)

sum_of_two : (f g : ℕ → ℕ) (n : ℕ) → sum_below (λ i. f i + g i) n ≡ sum_below f n + sum_below g n
sum_of_two f g zero = omega arith
sum_of_two f g (suc n) = let later = sum_of_two (λ i. f (suc i)) (λ i. g (suc i)) n in omega (arith, later)

sum_of_none : (f : ℕ → ℕ) (n : ℕ) → ((i : ℕ) → i < n → f i ≡ 0) → sum_below f n ≡ 0
sum_of_none f zero none = refl
sum_of_none f (suc n) none =
    let here = none 0 (omega arith) in
    let later = sum_of_none (λ i. f (suc i)) n (λ i lt. none (suc i) (omega arith)) in
    omega (arith, here, later)

-- where one number alone has something
sum_of_one : (f : ℕ → ℕ) (n at : ℕ) → at < n → ((i : ℕ) → (at ≡ i → ⊥) → f i ≡ 0) → sum_below f n ≡ f at
sum_of_one f zero at lt none = absurd (omega arith)
sum_of_one f (suc n) zero lt none = let later = sum_of_none (λ i. f (suc i)) n (λ i below. none (suc i) (λ same. omega (arith, same))) in omega (arith, later)
sum_of_one f (suc n) (suc at) lt none =
    let here = none 0 (λ same. omega (arith, same)) in
    let later = sum_of_one (λ i. f (suc i)) n at (omega arith) (λ i other. none (suc i) (λ same. other (omega (arith, same)))) in
    omega (arith, here, later)

-- ---- the open claims, seat by seat

-- a claim counts at its own seat alone
own_seat : (seats : ℕ) (claim : PlainClaim) → claim.seat < seats → sum_below (λ s. cond (is_held_by s claim) 1 0) seats ≡ cond (is_open claim.status) 1 0
own_seat seats claim known =
    sum_of_one (λ s. cond (is_held_by s claim) 1 0) seats claim.seat known (λ s other. rw (of_another s (is_open claim.status) other) refl) ∙ rw (of_it (is_open claim.status)) refl
  where
    of_another : (s : ℕ) (b : Bool) → (claim.seat ≡ s → ⊥) → (b && (claim.seat == s)) ≡ false
    of_another s false other = refl
    of_another s true other = ne_eqb claim.seat s other

    of_it : (b : Bool) → (b && (claim.seat == claim.seat)) ≡ b
    of_it false = refl
    of_it true = eq-eqb claim.seat claim.seat refl

by_seats : (seats : ℕ) (claims : List PlainClaim) → AllByRecursion (λ (claim : PlainClaim). claim.seat < seats) claims → sum_below (λ s. count_by (is_held_by s) claims) seats ≡ count_by (λ (claim : PlainClaim). is_open claim.status) claims
by_seats seats [] known = sum_of_none (λ s. 0) seats (λ s lt. refl)
by_seats seats (claim ∷ claims) known =
    same_sum (λ s. count_by (is_held_by s) (claim ∷ claims)) (λ s. cond (is_held_by s claim) 1 0 + count_by (is_held_by s) claims) seats (λ s lt. counted (is_held_by s) claim claims)
    ∙ sum_of_two (λ s. cond (is_held_by s claim) 1 0) (λ s. count_by (is_held_by s) claims) seats
    ∙ joined (own_seat seats claim known.0) (by_seats seats claims known.1)
    ∙ sym (counted (λ c. is_open c.status) claim claims)
  where
    joined : {a b c d : ℕ} → a ≡ c → b ≡ d → a + b ≡ c + d
    joined e f = omega (arith, e, f)

-- ---- the seats that hold one

-- a seat that has no two open claims holds one or none
held_is_counted : (k seat : ℕ) (claims : List PlainClaim) → count_by (is_held_by seat) claims ≤ 1 → cond (is_some (held_from k seat claims)) 1 0 ≡ count_by (is_held_by seat) claims
held_is_counted k seat [] one = refl
held_is_counted k seat (claim ∷ claims) one =
    split (is_held_by seat claim) (subst (λ n. n ≤ 1) (counted (is_held_by seat) claim claims) one) (λ h. held_is_counted (suc k) seat claims h)
    ∙ sym (counted (is_held_by seat) claim claims)
  where
    later : Option ℕ
    later = held_from (suc k) seat claims

    rest : ℕ
    rest = count_by (is_held_by seat) claims

    split : (b : Bool) → cond b 1 0 + rest ≤ 1 → (rest ≤ 1 → cond (is_some later) 1 0 ≡ rest) → cond (is_some (cond b (Some k) later)) 1 0 ≡ cond b 1 0 + rest
    split true few deeper = omega (arith, few)
    split false few deeper = let e = deeper (omega (arith, few)) in omega (arith, e)

some_cons : (o : Option ℕ) (held : List (Option ℕ)) → count_by is_some (o ∷ held) ≡ cond (is_some o) 1 0 + count_by is_some held
some_cons o held = sum_by-cons (λ o'. cond (is_some o') 1 0) o held

some_counted_by : (held : List (Option ℕ)) (f : ℕ → Option ℕ) → ((s : ℕ) → s < length held → slice_get held s ≡ Some (f s)) → count_by is_some held ≡ sum_below (λ s. cond (is_some (f s)) 1 0) (length held)
some_counted_by [] f numbers = refl
some_counted_by (o ∷ held) f numbers =
    let first = numbers 0 (omega arith) in
    let same : o ≡ f 0 = cc in
    let later = some_counted_by held (λ s. f (suc s)) (λ s lt. numbers (suc s) (omega arith)) in
    some_cons o held ∙ rw same (omega (arith, later))

-- As many seats hold a claim as claims are open.
pub open_are_held : (seats : ℕ) (claims : List PlainClaim) (held : List (Option ℕ)) → AreHeld seats claims held → AllByRecursion (λ (claim : PlainClaim). claim.seat < seats) claims → ((s : ℕ) → count_by (is_held_by s) claims ≤ 1) → count_by is_some held ≡ count_by (λ (claim : PlainClaim). is_open claim.status) claims
open_are_held seats claims held holds known one =
    some_counted_by held (λ s. held_from 0 s claims) (λ s lt. holds.numbers s (omega (arith, holds.each)))
    ∙ ap (sum_below (λ s. cond (is_some (held_from 0 s claims)) 1 0)) holds.each
    ∙ same_sum (λ s. cond (is_some (held_from 0 s claims)) 1 0) (λ s. count_by (is_held_by s) claims) seats (λ s lt. held_is_counted 0 s claims (one s))
    ∙ by_seats seats claims known

-- and so in a state that a journal leads to
pub open_count_is : (setup : PlainSetup) (journal : List PlainEvent) (state : PlainState) (log : PlainLog) (held : List (Option ℕ)) → IsTold setup journal state log held → count_by is_some held ≡ count_by (λ (claim : PlainClaim). is_open claim.status) state.claims
open_count_is setup journal state log held told =
    let reached = every_state setup journal state told.reached in
    open_are_held setup.limits.seats state.claims held told.holds (seats_known setup state.claims reached.claims_are) reached.one_each

-- ---- where none is, or some are

-- no claim is open exactly where the count is 0
pub none_counted : (claims : List PlainClaim) → count_by (λ (claim : PlainClaim). is_open claim.status) claims ≡ 0 → list_any (λ claim. is_open claim.status) claims ≡ false
none_counted claims none = none_such (λ claim. is_open claim.status) claims (omega arith)

pub some_counted : (claims : List PlainClaim) → 0 < count_by (λ (claim : PlainClaim). is_open claim.status) claims → list_any (λ claim. is_open claim.status) claims ≡ true
some_counted [] some = absurd (omega arith)
some_counted (claim ∷ claims) some = split (is_open claim.status) (subst (λ n. 0 < n) (counted (λ c. is_open c.status) claim claims) some) (λ h. some_counted claims h)
  where
    rest : ℕ
    rest = count_by (λ (c : PlainClaim). is_open c.status) claims

    split : (b : Bool) → 0 < cond b 1 0 + rest → (0 < rest → list_any (λ c. is_open c.status) claims ≡ true) → (b || list_any (λ c. is_open c.status) claims) ≡ true
    split true h deeper = refl
    split false h deeper = deeper (omega (arith, h))

-- no seat holds one where the count is 0
pub none_held_where_none : (held : List (Option ℕ)) → count_by is_some held ≡ 0 → (s : ℕ) → s < length held → slice_get held s ≡ Some None
none_held_where_none [] none s lt = absurd (omega arith)
none_held_where_none (Some number ∷ held) none s lt = let e = some_cons (Some number) held in absurd (omega (arith, e))
none_held_where_none (None ∷ held) none zero lt = refl
none_held_where_none (None ∷ held) none (suc s) lt = let e = some_cons None held in none_held_where_none held (omega (arith, e)) s (omega arith)
