-- The next claim that is to be committed: the first behind those that are.
use Rattle.std.proofs.Common.{◌≡◌, ℕ, true, false, cond, List, [], ◌∷◌, ◌++◌, length, map, Some, None, refl, sym, ap, ◌∙◌, arith, slice_get}
use Rattle.std.specs.Option.{option_map}
use Rattle.std.proofs.lemmas.List.{length-map}
use Rattle.std.proofs.lemmas.Option.{same_Some}
use Rattle.cpn_core.specs.Elements.{element_view}
use Rattle.cpn_definitions.specs.Outcome.{Fault}
use Rattle.cpn_jobs.specs.declared.work.Job.{Job}
use Rattle.cpn_jobs.specs.Views.{job_view}
use Rattle.cpn_jobs.specs.Work.{PlainJob}
use Rattle.cpn_log.specs.Logs.{PlainLog, PlainHead, PlainClaimState, stands_done, stands_failed, standing_of, standings, head_of, heads, claims_made, begin_done, with_committed, next_committed, next_committed_of}
use Rattle.cpn_log.specs.LogViews.{log_view, job_in}
use Rattle.cpn_runs.specs.HoleRun.{PlainClaim, Status, open_claim, done_with, faulted_with, is_done}
use Rattle.cpn_runs.specs.State.{PlainSetup, cut_at, cut_by}
use Rattle.cpn_book.specs.Standings.{IsToldAt, job_for}
use Rattle.cpn_book.specs.declared.standings.Standing.{Standing}
use Rattle.cpn_book.proofs.JobsOfClaims.{job_says}

-- the first of what follows
pub first_behind : {A : Type 0} (xs ys : List A) → slice_get (xs ++ ys) (length xs) ≡ slice_get ys 0
first_behind [] ys = refl
first_behind (x ∷ xs) ys = first_behind xs ys

-- The next claim, which stands so.
pub record IsNext (log : PlainLog) (standing : PlainClaimState) : Type 0 where
  pub claim : PlainClaim
  pub rest : List PlainClaim
  pub first : log.claims ≡ claim ∷ rest
  pub stands : standing_of claim.status ≡ standing

pub next_stands : (log : PlainLog) (standing : PlainClaimState) → slice_get (standings log) (length log.committed) ≡ Some standing → IsNext log standing
next_stands log standing is = split log.claims refl (sym (first_behind (map (λ (head : PlainHead). stands_done) log.committed) (map (λ (claim : PlainClaim). standing_of claim.status) log.claims)) ∙ ap (slice_get (standings log)) (length-map log.committed (λ (head : PlainHead). stands_done)) ∙ is)
  where
    split : (claims : List PlainClaim) → log.claims ≡ claims → slice_get (map (λ (claim : PlainClaim). standing_of claim.status) log.claims) 0 ≡ Some standing → IsNext log standing
    split [] none there = let clash : None ≡ Some standing = ap (λ cs. slice_get (map (λ (claim : PlainClaim). standing_of claim.status) cs) 0) (sym none) ∙ there in cc
    split (claim ∷ rest) first there = record { claim = claim; rest = rest; first = first; stands = same_Some (standing_of claim.status) standing (ap (λ cs. slice_get (map (λ (c : PlainClaim). standing_of c.status) cs) 0) (sym first) ∙ there) }

pub done_stands : (status : Status) → standing_of status ≡ stands_done → is_done status ≡ true
done_stands open_claim is = cc
done_stands (done_with outputs) is = refl
done_stands (faulted_with fault) is = cc

pub failed_stands : (status : Status) (fault : Fault) → standing_of status ≡ stands_failed fault → status ≡ faulted_with fault
failed_stands open_claim fault is = cc
failed_stands (done_with outputs) fault is = cc
failed_stands (faulted_with other) fault is = let same : other ≡ fault = cc in ap faulted_with same

module _ (log : PlainLog) (next : IsNext log stands_done) where
  pub is_done_next : is_done next.claim.status ≡ true
  is_done_next = done_stands next.claim.status next.stands

  pub begins_done : begin_done log.claims ≡ true
  begins_done = ap begin_done next.first ∙ is_done_next

  pub committed_next : next_committed log ≡ with_committed log next.claim next.rest
  committed_next = ap (next_committed_of log) next.first ∙ ap (λ b. cond b (with_committed log next.claim next.rest) log) is_done_next

-- what the next claim says is what its job has
module _ (setup : PlainSetup) (s : Standing) (at : IsToldAt setup s) (standing : PlainClaimState) (next : IsNext (log_view s.log) standing) (job : Job) (is : job_in s.log (length (log_view s.log).committed) ≡ Some job) where
  job_next : job_view job ≡ job_for setup.net (head_of next.claim)
  job_next =
      let there : slice_get (heads (log_view s.log)) (length (log_view s.log).committed) ≡ Some (head_of next.claim) = first_behind (log_view s.log).committed (map head_of (log_view s.log).claims) ∙ ap (λ cs. slice_get (map head_of cs) 0) next.first in
      same_Some (job_view job) (job_for setup.net (head_of next.claim)) (sym (ap (option_map job_view) is) ∙ job_says setup s at (length (log_view s.log).committed) (head_of next.claim) (omega arith) there)

  pub element_next : element_view job.element.value ≡ next.claim.element
  element_next = ap (λ (j : PlainJob). j.element) job_next

  pub time_next : job.time ≡ next.claim.time
  time_next = ap (λ (j : PlainJob). j.time) job_next

-- where the next claim doesn't stand done, or there is none, no more can be committed
pub not_begun : (log : PlainLog) (standing : PlainClaimState) → IsNext log standing → (standing ≡ stands_done → ⊥) → begin_done log.claims ≡ false
not_begun log standing next other = ap begin_done next.first ∙ by next.claim.status next.stands
  where
    by : (status : Status) → standing_of status ≡ standing → is_done status ≡ false
    by open_claim is = refl
    by (done_with outputs) is = absurd (other (sym is))
    by (faulted_with fault) is = refl

-- where there is none, no cut is owed at it
pub none_next : (log : PlainLog) (k : ℕ) → length log.committed ≡ claims_made log → cut_at k (slice_get log.claims 0) ≡ None
none_next log k all = split log.claims refl
  where
    split : (claims : List PlainClaim) → log.claims ≡ claims → cut_at k (slice_get log.claims 0) ≡ None
    split [] is = ap (λ cs. cut_at k (slice_get cs 0)) is
    split (claim ∷ rest) is = let long = ap length is in absurd (omega (arith, all, long))

-- nor where it has no fault
pub owes_none : (log : PlainLog) (k : ℕ) (standing : PlainClaimState) → IsNext log standing → ((fault : Fault) → standing ≡ stands_failed fault → ⊥) → cut_at k (slice_get log.claims 0) ≡ None
owes_none log k standing next other = ap (λ cs. cut_at k (slice_get cs 0)) next.first ∙ by next.claim.status next.stands
  where
    by : (status : Status) → standing_of status ≡ standing → cut_by k next.claim.element status ≡ None
    by open_claim is = refl
    by (done_with outputs) is = refl
    by (faulted_with fault) is = absurd (other fault (sym is))

pub failed_next : (log : PlainLog) (fault : Fault) (next : IsNext log (stands_failed fault)) → next.claim.status ≡ faulted_with fault
failed_next log fault next = failed_stands next.claim.status fault next.stands
