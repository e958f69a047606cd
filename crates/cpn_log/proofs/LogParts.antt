-- The committed part of a log and the claims behind it.
use Rattle.std.proofs.Common.{◌≡◌, ℕ, zero, suc, ◌+◌, ◌-◌, ◌<◌, ◌≤◌, List, [], ◌∷◌, ◌++◌, map, length, get_or, Some, None, Option, refl, sym, ap, ◌∙◌, slice_get, slice_set, arith, ⊎_elim}
use Rattle.std.specs.Option.{option_map}
use Rattle.std.proofs.lemmas.Bool.{cases_lt}
use Rattle.std.proofs.lemmas.List.{map-set, length-map}
use Rattle.std.proofs.lemmas.Option.{slice_get-map, slice_get_within, same_Some}
use Rattle.cpn_runs.specs.HoleRun.{PlainClaim, open_claim}
use Rattle.cpn_log.specs.Logs.{PlainHead, PlainLog, claims_made, head_of, heads, seats, stands_open, stands_done, standing_of, standings, with_status, changed_to}
use Rattle.cpn_log.proofs.StatusStandings.{open_status}
use Rattle.cpn_log.specs.ClaimViews.{claim_view, head_view, status_view}
use Rattle.cpn_log.specs.LogViews.{log_view}
use Rattle.cpn_log.specs.declared.claims.Claim.{Claim}
use Rattle.cpn_log.specs.declared.claims.Course.{Course}
use Rattle.cpn_log.specs.declared.claims.Head.{Head}
use Rattle.cpn_log.specs.declared.logs.Log.{Log}

-- ---- lists of two parts

pub at_place : {X : Type 0} (xs : List X) (i : ℕ) (x : X) → i < length xs → x ≡ get_or xs i x → slice_get xs i ≡ Some x
at_place [] i x within is = absurd (omega arith)
at_place (y ∷ ys) zero x within is = ap Some (sym is)
at_place (y ∷ ys) (suc i) x within is = at_place ys i x (omega arith) is

in_first_part : {X : Type 0} (xs ys : List X) (n : ℕ) → n < length xs → slice_get (xs ++ ys) n ≡ slice_get xs n
in_first_part [] ys n within = absurd (omega arith)
in_first_part (x ∷ xs) ys zero within = refl
in_first_part (x ∷ xs) ys (suc n) within = in_first_part xs ys n (omega arith)

in_second_part : {X : Type 0} (xs ys : List X) (n k : ℕ) → n ≡ length xs + k → slice_get (xs ++ ys) n ≡ slice_get ys k
in_second_part [] ys n k is = ap (slice_get ys) (omega arith)
in_second_part (x ∷ xs) ys zero k is = absurd (omega arith)
in_second_part (x ∷ xs) ys (suc n) k is = in_second_part xs ys n k (omega arith)

-- ---- how many claims

pub committed_is : (log : Log) → length (log_view log).committed ≡ length log.heads.items
committed_is log = length-map log.heads.items head_view

pub behind_is : (log : Log) → length (log_view log).claims ≡ length log.claims.items
behind_is log = length-map log.claims.items claim_view

pub made_is : (log : Log) → claims_made (log_view log) ≡ length log.heads.items + length log.claims.items
made_is log = let committed = committed_is log in let behind = behind_is log in omega (arith, committed, behind)

-- ---- a committed claim

pub seat_committed : (log : Log) (number : ℕ) (head : Head) → slice_get log.heads.items number ≡ Some head → slice_get (seats (log_view log)) number ≡ Some head.seat
seat_committed log number head is =
    let within = slice_get_within log.heads.items number head is in
    let committed = committed_is log in
    slice_get-map (λ (h : PlainHead). h.seat) (heads (log_view log)) number
    ∙ ap (option_map (λ (h : PlainHead). h.seat))
    (in_first_part (log_view log).committed (map head_of (log_view log).claims) number (omega (arith, within, committed)) ∙ slice_get-map head_view log.heads.items number ∙ ap (option_map head_view) is)

pub stands_committed : (log : Log) (number : ℕ) → number < length log.heads.items → slice_get (standings (log_view log)) number ≡ Some stands_done
stands_committed log number below =
    let committed = committed_is log in
    let heads_in = (log_view log).committed in
    in_first_part (map (λ head. stands_done) heads_in) (map (λ (c : PlainClaim). standing_of c.status) (log_view log).claims) number
    (let lengths = length-map heads_in (λ (head : PlainHead). stands_done) in omega (arith, committed, lengths, below))
    ∙ all_done heads_in number (omega (arith, committed, below))
  where
    all_done : (hs : List PlainHead) (n : ℕ) → n < length hs → slice_get (map (λ head. stands_done) hs) n ≡ Some stands_done
    all_done [] n lt = absurd (omega arith)
    all_done (h ∷ hs) zero lt = refl
    all_done (h ∷ hs) (suc n) lt = all_done hs n (omega arith)

-- ---- a claim behind the committed ones

-- how it stands
pub stands_in_second : (log : PlainLog) (place : ℕ) → slice_get (standings log) (length log.committed + place) ≡ option_map (λ (c : PlainClaim). standing_of c.status) (slice_get log.claims place)
stands_in_second log place =
    in_second_part (map (λ head. stands_done) log.committed) (map (λ (c : PlainClaim). standing_of c.status) log.claims) (length log.committed + place) place
    (let lengths = length-map log.committed (λ (head : PlainHead). stands_done) in omega (arith, lengths))
    ∙ slice_get-map (λ (c : PlainClaim). standing_of c.status) log.claims place

module _ (log : Log) (number position : ℕ) (claim : Claim) (at : number ≡ length log.heads.items + position) (is : slice_get log.claims.items position ≡ Some claim) where
  claim_at : slice_get (log_view log).claims position ≡ Some (claim_view claim)
  claim_at = slice_get-map claim_view log.claims.items position ∙ ap (option_map claim_view) is

  number_is : number ≡ length (log_view log).committed + position
  number_is = let committed = committed_is log in omega (arith, committed, at)

  pub seat_behind : slice_get (seats (log_view log)) number ≡ Some claim.head.seat
  seat_behind =
      slice_get-map (λ (h : PlainHead). h.seat) (heads (log_view log)) number
      ∙ ap (option_map (λ (h : PlainHead). h.seat)) (in_second_part (log_view log).committed (map head_of (log_view log).claims) number position number_is ∙ slice_get-map head_of (log_view log).claims position ∙ ap (option_map head_of) claim_at)

  pub stands_behind : slice_get (standings (log_view log)) number ≡ Some (standing_of (claim_view claim).status)
  stands_behind = ap (slice_get (standings (log_view log))) number_is ∙ stands_in_second (log_view log) position ∙ ap (option_map (λ (c : PlainClaim). standing_of c.status)) claim_at

-- ---- an open claim

-- An open claim of a log, by its number: it is behind the committed part.
pub record IsOpen (log : PlainLog) (number : ℕ) : Type 0 where
  pub behind : length log.committed ≤ number
  pub claim : PlainClaim
  pub is : slice_get log.claims (number - length log.committed) ≡ Some claim
  pub is_open : claim.status ≡ open_claim

pub open_at : (log : PlainLog) (number : ℕ) → slice_get (standings log) number ≡ Some stands_open → IsOpen log number
open_at log number is = ⊎_elim (λ lt. absurd (not_committed lt)) (λ ge. behind_at ge) (cases_lt number (length log.committed))
  where
    all_done : (hs : List PlainHead) (n : ℕ) → n < length hs → slice_get (map (λ head. stands_done) hs) n ≡ Some stands_open → ⊥
    all_done [] n lt h = absurd (omega arith)
    all_done (h' ∷ hs) zero lt h = cc
    all_done (h' ∷ hs) (suc n) lt h = all_done hs n (omega arith) h

    not_committed : number < length log.committed → ⊥
    not_committed lt =
        all_done log.committed number lt
        (sym (in_first_part (map (λ head. stands_done) log.committed) (map (λ (c : PlainClaim). standing_of c.status) log.claims) number (let lengths = length-map log.committed (λ (head : PlainHead). stands_done) in omega (arith, lengths, lt))) ∙ is)

    found : (o : Option PlainClaim) → option_map (λ (c : PlainClaim). standing_of c.status) o ≡ Some stands_open → (claim : PlainClaim) × (o ≡ Some claim) × (claim.status ≡ open_claim)
    found None h = cc
    found (Some claim) h = (claim, refl, open_status claim.status (same_Some (standing_of claim.status) stands_open h))

    behind_at : length log.committed ≤ number → IsOpen log number
    behind_at ge =
        let at : length log.committed + (number - length log.committed) ≡ number = omega (arith, ge) in
        let one = found (slice_get log.claims (number - length log.committed)) (sym (stands_in_second log (number - length log.committed)) ∙ ap (slice_get (standings log)) at ∙ is) in
        record { behind = ge; claim = one.0; is = one.1; is_open = one.2 }

-- ---- a claim has another course

pub course_at : (course : Course) (p : ℕ) (cs : List Claim) (claim : Claim) → slice_get cs p ≡ Some claim → map claim_view (slice_set cs p (record claim { course = course })) ≡ with_status (status_view course) p (map claim_view cs)
course_at course p cs claim is =
    map-set claim_view cs p (record claim { course = course })
    ∙ sym (ap (changed_to (status_view course) p (map claim_view cs)) (slice_get-map claim_view cs p ∙ ap (option_map claim_view) is))
