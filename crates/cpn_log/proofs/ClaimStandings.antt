-- How a claim stands, by what became of it: a new one stands open, one that is completed stands done or failed, and the next one
-- to be committed is the one that stands done.
use Rattle.std.proofs.Common.{◌≡◌, ℕ, ◌+◌, ◌-◌, Bool, false, IsTrue, ◌↔◌, List, [], ◌∷◌, ◌++◌, map, length, Some, refl, sym, ap, subst, ◌∙◌, slice_get, arith}
use Rattle.std.specs.Option.{option_map}
use Rattle.std.proofs.lemmas.Option.{same_Some}
use Rattle.cpn_definitions.specs.Outcome.{Fault}
use Rattle.cpn_definitions.specs.Occurrence.{PlainElement, Needed, Made}
use Rattle.cpn_runs.specs.HoleRun.{PlainClaim, Status, done_with, faulted_with, is_done}
use Rattle.cpn_log.specs.Logs.{PlainHead, PlainLog, claims_made, begin_done, opened, standing_of, standings, stands_open, stands_done, stands_failed, with_status}
use Rattle.cpn_log.specs.ClaimViews.{claim_view}
use Rattle.cpn_log.specs.LogViews.{log_view}
use Rattle.cpn_log.specs.declared.claims.Claim.{Claim}
use Rattle.cpn_log.specs.declared.logs.Log.{Log}
use Rattle.cpn_log.proofs.KeptLogs.{among_at}
use Rattle.cpn_log.proofs.LogParts.{IsOpen, stands_in_second}
use Rattle.cpn_log.proofs.StatusStandings.{done_status}

-- a claim at a position behind the committed ones
stands_at : (log : PlainLog) (k n : ℕ) (claim : PlainClaim) → n ≡ length log.committed + k → slice_get log.claims k ≡ Some claim → slice_get (standings log) n ≡ Some (standing_of claim.status)
stands_at log k n claim at is = ap (slice_get (standings log)) at ∙ stands_in_second log k ∙ ap (option_map (λ (c : PlainClaim). standing_of c.status)) is

-- ---- the next one

-- it is committed exactly where it stands done
next_stands : (log : PlainLog) (done : Bool) → done ≡ begin_done log.claims → IsTrue done ↔ (slice_get (standings log) (length log.committed) ≡ Some stands_done)
next_stands log done is =
    let at : length log.committed ≡ length log.committed + 0 = omega arith in
    let next = ap (slice_get (standings log)) at ∙ stands_in_second log 0 in
    subst (λ b. IsTrue b ↔ (slice_get (standings log) (length log.committed) ≡ Some stands_done)) (sym is) (subst (λ o. IsTrue (begin_done log.claims) ↔ (o ≡ Some stands_done)) (sym next) (first log.claims))
  where
    first : (claims : List PlainClaim) → IsTrue (begin_done claims) ↔ (option_map (λ (c : PlainClaim). standing_of c.status) (slice_get claims 0) ≡ Some stands_done)
    first [] = (λ h. cc, λ h. cc)
    first (claim ∷ claims) =
        let own = done_status claim.status in
        (λ h. ap Some (own.0 h), λ h. own.1 (same_Some (standing_of claim.status) stands_done h))

-- so one that isn't done waits
pub next_waits : (log : Log) (claim : Claim) (rest : List Claim) → log.claims.items ≡ claim ∷ rest → is_done (claim_view claim).status ≡ false → IsTrue false ↔ (slice_get (standings (log_view log)) (length (log_view log).committed) ≡ Some stands_done)
next_waits log claim rest is waits = next_stands (log_view log) false (sym (ap (λ cs. begin_done (map claim_view cs)) is ∙ waits))

-- ---- a new one, and one that is completed

last_of : (cs : List PlainClaim) (c : PlainClaim) → slice_get (cs ++ c ∷ []) (length cs) ≡ Some c
last_of [] c = refl
last_of (d ∷ ds) c = last_of ds c

pub opened_stands : (log new : PlainLog) (seat : ℕ) (element : PlainElement) (time : ℕ) (needs : List Needed) → new.committed ≡ log.committed → new.claims ≡ log.claims ++ opened seat element time needs ∷ [] → slice_get (standings new) (claims_made log) ≡ Some stands_open
opened_stands log new seat element time needs committed claims =
    stands_at new (length log.claims) (claims_made log) (opened seat element time needs) (ap (λ (hs : List PlainHead). length hs + length log.claims) (sym committed))
    (ap (λ (cs : List PlainClaim). slice_get cs (length log.claims)) claims ∙ last_of log.claims (opened seat element time needs))

completed_stands : (log new : PlainLog) (number : ℕ) (status : Status) → IsOpen log number → new.committed ≡ log.committed → new.claims ≡ with_status status (number - length log.committed) log.claims → slice_get (standings new) number ≡ Some (standing_of status)
completed_stands log new number status o committed claims =
    let place = number - length log.committed in
    let parts = among_at log place o.claim o.is in
    let low = o.behind in
    let heads : length new.committed ≡ length log.committed = ap (λ (hs : List PlainHead). length hs) committed in
    stands_at new place number (record o.claim { status = status }) (omega (arith, low, heads))
    (ap (λ (cs : List PlainClaim). slice_get cs place) (claims ∙ parts.changed status) ∙ ap (slice_get (parts.before ++ record o.claim { status = status } ∷ parts.later)) (sym parts.place_is) ∙ there parts.before parts.later (record o.claim { status = status }))
  where
    there : (before later : List PlainClaim) (c : PlainClaim) → slice_get (before ++ c ∷ later) (length before) ≡ Some c
    there [] later c = refl
    there (d ∷ before) later c = there before later c

pub filled_stands : (log new : PlainLog) (number : ℕ) (outputs : List Made) → IsOpen log number → new.committed ≡ log.committed → new.claims ≡ with_status (done_with outputs) (number - length log.committed) log.claims → slice_get (standings new) number ≡ Some stands_done
filled_stands log new number outputs o committed claims = completed_stands log new number (done_with outputs) o committed claims

pub failed_stands : (log new : PlainLog) (number : ℕ) (fault : Fault) → IsOpen log number → new.committed ≡ log.committed → new.claims ≡ with_status (faulted_with fault) (number - length log.committed) log.claims → slice_get (standings new) number ≡ Some (stands_failed fault)
failed_stands log new number fault o committed claims = completed_stands log new number (faulted_with fault) o committed claims
