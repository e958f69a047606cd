-- The open claim that a seat holds: its place in the state, and its job.
use Rattle.std.proofs.Common.{◌≡◌, ℕ, zero, suc, ◌<◌, ◌≤◌, ◌==◌, true, List, [], ◌∷◌, length, map, Some, refl, sym, ap, ◌∙◌, subst, arith, slice_get}
use Rattle.std.specs.Option.{option_map}
use Rattle.std.specs.List.{AllByRecursion}
use Rattle.std.proofs.lemmas.Bool.{and_parts}
use Rattle.std.proofs.lemmas.Option.{same_Some}
use Rattle.cpn_definitions.proofs.ListItems.{place_known}
use Rattle.cpn_jobs.specs.Views.{job_view}
use Rattle.cpn_jobs.specs.Work.{PlainJob}
use Rattle.cpn_log.specs.Logs.{stands_open, standing_of, standings, head_of, claims_made}
use Rattle.cpn_log.specs.LogViews.{log_view, job_in}
use Rattle.cpn_runs.specs.HoleRun.{PlainClaim, Status, open_claim, done_with, faulted_with, is_open}
use Rattle.cpn_runs.specs.State.{PlainSetup}
use Rattle.cpn_runs.specs.GivingBack.{OnlyGivenBack}
use Rattle.cpn_runs.proofs.States.{given_back_where_open, every_state}
use Rattle.cpn_book.specs.Answers.{HasOpenClaim}
use Rattle.cpn_book.specs.Held.{held_from}
use Rattle.cpn_book.specs.Standings.{IsAt, job_for, events_in}
use Rattle.cpn_book.specs.declared.standings.Standing.{Standing}
use Rattle.cpn_book.proofs.ClaimedStandings.{counted}
use Rattle.cpn_book.proofs.CompletedClaims.{open_is_behind}
use Rattle.cpn_book.proofs.CountedClaims.{standings_are}
use Rattle.cpn_book.proofs.HeldClaims.{IsItsClaim, its_claim}
use Rattle.cpn_book.proofs.JobsOfClaims.{job_of_open}

-- the image of an item is that of the list's
pub image_at : {A B : Type 0} (f : A → B) (xs : List A) (i : ℕ) (x : A) → slice_get xs i ≡ Some x → slice_get (map f xs) i ≡ Some (f x)
image_at f [] i x at = cc
image_at f (z ∷ xs) zero x at = ap (λ w. Some (f w)) (same_Some z x at)
image_at f (z ∷ xs) (suc i) x at = image_at f xs i x at

pub all_at : {A : Type 0} (P : A → Type 0) (xs : List A) (i : ℕ) (x : A) → AllByRecursion P xs → slice_get xs i ≡ Some x → P x
all_at P [] i x all at = cc
all_at P (y ∷ xs) zero x all at = subst P (same_Some y x at) all.0
all_at P (y ∷ xs) (suc i) x all at = all_at P xs i x all.1 at

module _ (setup : PlainSetup) (old : Standing) (is : IsAt setup old) (seat number : ℕ) (held : slice_get old.held.items seat ≡ Some (Some number)) where
  pub held_known : seat < setup.limits.seats
  held_known = let within = place_known old.held.items seat (Some number) held in let long = is.at.told.holds.each in omega (arith, within, long)

  pub its : IsItsClaim 0 seat is.at.state.claims number
  its = its_claim 0 seat is.at.state.claims number (let e : Some (held_from 0 seat is.at.state.claims) ≡ Some (Some number) = sym (is.at.told.holds.numbers seat held_known) ∙ held in cc)

  pub claim_stands : slice_get is.at.state.claims number ≡ Some its.claim
  claim_stands = ap (slice_get is.at.state.claims) (let e = its.is in omega (arith, e)) ∙ its.stands

  pub its_open : is_open its.claim.status ≡ true
  its_open = (and_parts (is_open its.claim.status) (its.claim.seat == seat) its.held).0

  -- it is none of the committed ones
  pub held_behind : length (log_view old.log).committed ≤ number
  held_behind = open_is_behind setup is.at.state (log_view old.log) is.at.told.has number its.claim claim_stands its_open

  pub held_within : number < claims_made (log_view old.log)
  held_within = let within = place_known is.at.state.claims number its.claim claim_stands in let all = counted setup old is.at in omega (arith, within, all)

  -- no cut stands, unless for want of memory
  pub only_given_back : OnlyGivenBack is.at.state.cut
  only_given_back = given_back_where_open setup (events_in old) is.at.state number its.claim (every_state setup (events_in old) is.at.state is.at.told.reached) claim_stands its_open

  -- it is open, in the log too
  pub open_in_log : slice_get (standings (log_view old.log)) number ≡ Some stands_open
  open_in_log =
      ap (λ ss. slice_get ss number) (standings_are setup.start is.at.state.claims (log_view old.log) is.at.told.has)
      ∙ image_at (λ (c : PlainClaim). standing_of c.status) is.at.state.claims number its.claim claim_stands
      ∙ ap Some (stands its.claim.status its_open)
    where
      stands : (status : Status) → is_open status ≡ true → standing_of status ≡ stands_open
      stands open_claim _ = refl
      stands (done_with outputs) h = cc
      stands (faulted_with fault) h = cc

  -- the job is that of the claim
  pub job_of_claim : (job : PlainJob) → option_map job_view (job_in old.log number) ≡ Some job → job ≡ job_for setup.net (head_of its.claim)
  job_of_claim job job_is = same_Some job (job_for setup.net (head_of its.claim)) (sym job_is ∙ job_of_open setup old is.at number its.claim claim_stands its_open)

  -- the seat has an open claim of the number and job
  pub has_open_claim : (job : PlainJob) → option_map job_view (job_in old.log number) ≡ Some job → HasOpenClaim setup is.at.state seat number job
  has_open_claim job job_is = (its.claim, claim_stands, its.held, sym (job_of_claim job job_is))
