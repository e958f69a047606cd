-- An open claim of a number: the seat that holds it, and its job, which is ready to be evaluated.
use Rattle.std.proofs.Common.{◌≡◌, ℕ, zero, suc, ◌+◌, ◌<◌, ◌≤◌, ◌==◌, Bool, true, false, cond, List, [], ◌∷◌, map, Some, refl, sym, ap, ◌∙◌, subst, arith, slice_get, eq-eqb}
use Rattle.std.specs.List.{count_by}
use Rattle.std.specs.Option.{option_map}
use Rattle.std.proofs.lemmas.Bool.{and_parts, and_from}
use Rattle.std.proofs.lemmas.Option.{same_Some}
use Rattle.cpn_definitions.specs.Times.{last_time}
use Rattle.cpn_definitions.proofs.LegalSequences.{covered_is_bound}
use Rattle.cpn_definitions.proofs.SoundElements.{outputs_mean}
use Rattle.cpn_definitions.proofs.ListItems.{place_known}
use Rattle.cpn_jobs.specs.declared.work.Job.{Job}
use Rattle.cpn_jobs.specs.Views.{job_view}
use Rattle.cpn_log.specs.Logs.{stands_open, standing_of, standings, head_of, heads, seats, claims_made}
use Rattle.cpn_log.specs.LogViews.{log_view, job_in}
use Rattle.cpn_runs.specs.HoleRun.{PlainClaim, Status, open_claim, done_with, faulted_with, is_open}
use Rattle.cpn_runs.specs.Playable.{IsPlayable}
use Rattle.cpn_runs.specs.State.{PlainSetup, is_held_by}
use Rattle.cpn_runs.proofs.BoundedStates.{every_state_has_bounds}
use Rattle.cpn_runs.proofs.States.{IsClaimOf, every_state}
use Rattle.cpn_book.specs.Held.{held_from}
use Rattle.cpn_book.proofs.HeldClaims.{IsItsClaim, its_claim, counted, one_counted}
use Rattle.cpn_book.specs.Evaluations.{IsReadyToEvaluate}
use Rattle.cpn_book.specs.Standings.{IsAt, job_for, events_in}
use Rattle.cpn_book.specs.declared.standings.Standing as program
use Rattle.cpn_book.proofs.CountedClaims.{heads_are, heads_counted, standings_are}
use Rattle.cpn_book.proofs.DrawnElements.{ready_to_evaluate}
use Rattle.cpn_book.proofs.HeldJobs.{all_at, image_at}
use Rattle.cpn_book.proofs.HeldSeats.{holds_from}
use Rattle.cpn_book.proofs.JobsOfClaims.{job_of_open}

-- an item of images is that of an item
pub record IsImage {A B : Type 0} (f : A → B) (xs : List A) (i : ℕ) (y : B) : Type 0 where
  pub item : A
  pub there : slice_get xs i ≡ Some item
  pub is : f item ≡ y

pub image_of : {A B : Type 0} (f : A → B) (xs : List A) (i : ℕ) (y : B) → slice_get (map f xs) i ≡ Some y → IsImage f xs i y
image_of f [] i y at = cc
image_of f (x ∷ xs) zero y at = record { item = x; there = refl; is = same_Some (f x) y at }
image_of f (x ∷ xs) (suc i) y at = let rest = image_of f xs i y at in record { item = rest.item; there = rest.there; is = rest.is }

abbrev one_if : Bool → ℕ
one_if b = cond b 1 0

-- a seat that has one open claim at most holds the one that it has
pub held_there : (k seat : ℕ) (claims : List PlainClaim) (i : ℕ) (claim : PlainClaim) → slice_get claims i ≡ Some claim → is_held_by seat claim ≡ true → count_by (is_held_by seat) claims ≤ 1 → held_from k seat claims ≡ Some (k + i)
held_there k seat [] i claim at own one = cc
held_there k seat (c ∷ claims) zero claim at own one = rw (ap (is_held_by seat) (same_Some c claim at) ∙ own) (ap (λ (n : ℕ). Some n) (omega arith))
held_there k seat (c ∷ claims) (suc i) claim at own one =
    split (is_held_by seat c) refl (λ few. held_there (suc k) seat claims i claim at own few) (one_counted (is_held_by seat) claims i claim at own)
  where
    split : (b : Bool) → is_held_by seat c ≡ b → (count_by (is_held_by seat) claims ≤ 1 → held_from (suc k) seat claims ≡ Some (suc k + i)) → 1 ≤ count_by (is_held_by seat) claims → cond b (Some k) (held_from (suc k) seat claims) ≡ Some (k + suc i)
    split true mine later some =
        let sum : count_by (is_held_by seat) (c ∷ claims) ≡ one_if (is_held_by seat c) + count_by (is_held_by seat) claims = counted (is_held_by seat) c claims in
        let first : one_if (is_held_by seat c) ≡ 1 = ap one_if mine in
        absurd (omega (arith, one, sum, first, some))
    split false other later some =
        let sum : count_by (is_held_by seat) (c ∷ claims) ≡ one_if (is_held_by seat c) + count_by (is_held_by seat) claims = counted (is_held_by seat) c claims in
        let none : one_if (is_held_by seat c) ≡ 0 = ap one_if other in
        later (omega (arith, one, sum, none)) ∙ ap (λ (n : ℕ). Some n) (omega arith)

module _ (setup : PlainSetup) (s : program.Standing) (is : IsAt setup s) (number : ℕ) (open_now : slice_get (standings (log_view s.log)) number ≡ Some stands_open) where
  found : IsImage (λ (c : PlainClaim). standing_of c.status) is.at.state.claims number stands_open
  found = image_of (λ (c : PlainClaim). standing_of c.status) is.at.state.claims number stands_open (ap (λ ss. slice_get ss number) (sym (standings_are setup.start is.at.state.claims (log_view s.log) is.at.told.has)) ∙ open_now)

  its_open : is_open found.item.status ≡ true
  its_open = by found.item.status found.is
    where
      by : (status : Status) → standing_of status ≡ stands_open → is_open status ≡ true
      by open_claim _ = refl
      by (done_with outputs) h = cc
      by (faulted_with fault) h = cc

  its_head : slice_get (heads (log_view s.log)) number ≡ Some (head_of found.item)
  its_head = ap (λ hs. slice_get hs number) (heads_are setup.start is.at.state.claims (log_view s.log) is.at.told.has) ∙ image_at head_of is.at.state.claims number found.item found.there

  -- the log has so many claims
  pub number_within : number < claims_made (log_view s.log)
  number_within = let within = place_known (heads (log_view s.log)) number (head_of found.item) its_head in let long = heads_counted (log_view s.log) in omega (arith, within, long)

  -- the seat holds it
  pub holds_number : (seat : ℕ) → slice_get (seats (log_view s.log)) number ≡ Some seat → slice_get s.held.items seat ≡ Some (Some number)
  holds_number seat of_seat =
      let same : found.item.seat ≡ seat = same_Some found.item.seat seat (sym (image_at (λ h. h.seat) (heads (log_view s.log)) number (head_of found.item) its_head) ∙ of_seat) in
      let all = every_state setup (events_in s) is.at.state is.at.told.reached in
      let claim_is = all_at (IsClaimOf setup) is.at.state.claims number found.item all.claims_are found.there in
      let known : seat < setup.limits.seats = (let k = claim_is.seat_known in omega (arith, k, same)) in
      let own : is_held_by seat found.item ≡ true = and_from (is_open found.item.status) (found.item.seat == seat) its_open (eq-eqb found.item.seat seat same) in
      is.at.told.holds.numbers seat known ∙ ap Some (held_there 0 seat is.at.state.claims number found.item found.there own (all.one_each seat) ∙ ap (λ (n : ℕ). Some n) (omega arith))

  -- its job is ready to be evaluated
  pub number_is_ready : IsPlayable setup → (job : Job) → job_in s.log number ≡ Some job → IsReadyToEvaluate (job_view job)
  number_is_ready playable job at =
      let all = every_state setup (events_in s) is.at.state is.at.told.reached in
      let bounds = every_state_has_bounds setup (events_in s) is.at.state playable is.at.told.reached in
      let claim_is = all_at (IsClaimOf setup) is.at.state.claims number found.item all.claims_are found.there in
      let soon : found.item.time ≤ is.at.state.clock = all_at (λ (c : PlainClaim). c.time ≤ is.at.state.clock) is.at.state.claims number found.item bounds.claims_in_time found.there in
      let early : found.item.time ≤ last_time = (let c = bounds.clock in let until = playable.until in omega (arith, soon, c, until)) in
      let ready = ready_to_evaluate setup.net (head_of found.item) early (outputs_mean setup.net found.item.element found.item.time playable.sound (covered_is_bound setup.net claim_is.marking found.item.time found.item.element claim_is.was_covered) early) in
      let same : job_view job ≡ job_for setup.net (head_of found.item) =
      same_Some (job_view job) (job_for setup.net (head_of found.item))
      (sym (ap (option_map job_view) at) ∙ job_of_open setup s is.at number found.item found.there its_open) in
      subst IsReadyToEvaluate (sym same) ready

-- what a seat holds is open
pub held_stands_open : (setup : PlainSetup) (s : program.Standing) → IsAt setup s → (seat k : ℕ) → slice_get s.held.items seat ≡ Some (Some k) → slice_get (standings (log_view s.log)) k ≡ Some stands_open
held_stands_open setup s is seat k holds =
    let its : IsItsClaim 0 seat is.at.state.claims k = its_claim 0 seat is.at.state.claims k (holds_from setup.limits.seats is.at.state.claims s.held.items is.at.told.holds seat k holds) in
    let stands : slice_get is.at.state.claims k ≡ Some its.claim = ap (slice_get is.at.state.claims) (let e = its.is in omega (arith, e)) ∙ its.stands in
    ap (λ ss. slice_get ss k) (standings_are setup.start is.at.state.claims (log_view s.log) is.at.told.has)
    ∙ image_at (λ (c : PlainClaim). standing_of c.status) is.at.state.claims k its.claim stands
    ∙ ap Some (by its.claim.status (and_parts (is_open its.claim.status) (its.claim.seat == seat) its.held).0)
  where
    by : (status : Status) → is_open status ≡ true → standing_of status ≡ stands_open
    by open_claim _ = refl
    by (done_with outputs) h = cc
    by (faulted_with fault) h = cc

-- what a seat holds is a claim of the log
pub held_below : (setup : PlainSetup) (s : program.Standing) → IsAt setup s → (seat k : ℕ) → slice_get s.held.items seat ≡ Some (Some k) → k < claims_made (log_view s.log)
held_below setup s is seat k holds = number_within setup s is k (held_stands_open setup s is seat k holds)
