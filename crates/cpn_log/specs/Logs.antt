-- What a log holds: the claims of a run that are committed, by what they say, with the marking that they leave, and the claims
-- behind them, with what they took and the marking that all leave. Source: own choice.
use Rattle.std.specs.Prelude.{ℕ, ◌+◌, Bool, false, if◌then◌else◌, List, [], ◌∷◌, ◌++◌, length, map, drop, Option, Some, None, slice_get, slice_set}
use Rattle.cpn_definitions.specs.Marking.{Marking}
use Rattle.cpn_definitions.specs.Outcome.{Fault}
use Rattle.cpn_definitions.specs.Occurrence.{PlainElement, Needed, Made}
use Rattle.cpn_runs.specs.HoleRun.{PlainClaim, Status, open_claim, done_with, faulted_with, is_done, after_claim, PlainPick, PlainHoleRun}

-- What a committed claim says: the seat that made it, its element and time.
pub record PlainHead : Type 0 where
  pub seat : ℕ
  pub element : PlainElement
  pub time : ℕ

pub record PlainLog : Type 0 where
  -- the committed claims, in claim order
  pub committed : List PlainHead
  -- the marking that they leave
  pub settled : Marking
  -- the claims behind them, in claim order
  pub claims : List PlainClaim
  -- what each of these took, in claim order
  pub picks : List (List PlainPick)
  -- the marking that all the claims leave
  pub unclaimed : Marking

-- the run of the claims that are not committed: what they leave, and what they took
abbrev pub run_behind : PlainLog → PlainHoleRun
run_behind log = record { marking = log.unclaimed; picks = log.picks }

-- how many claims there are
abbrev pub claims_made : PlainLog → ℕ
claims_made log = length log.committed + length log.claims

-- what a claim says that isn't committed
abbrev pub head_of : PlainClaim → PlainHead
head_of claim = record { seat = claim.seat; element = claim.element; time = claim.time }

-- what each of the claims says, by its number
abbrev pub heads : PlainLog → List PlainHead
heads log = log.committed ++ map head_of log.claims

-- the seats that made the claims
abbrev pub seats : PlainLog → List ℕ
seats log = map (λ head. head.seat) (heads log)

-- How a claim stands: open, done with its outputs, or done with a fault of them.
pub data PlainClaimState : Type 0 where
  stands_open : PlainClaimState
  stands_done : PlainClaimState
  stands_failed : Fault → PlainClaimState

abbrev pub standing_of : Status → PlainClaimState
standing_of open_claim = stands_open
standing_of (done_with outputs) = stands_done
standing_of (faulted_with fault) = stands_failed fault

-- how each of the claims stands, by its number: the committed ones are done
abbrev pub standings : PlainLog → List PlainClaimState
standings log = map (λ head. stands_done) log.committed ++ map (λ claim. standing_of claim.status) log.claims

-- the claim of a seat on an element at a time, with its needs
abbrev pub opened : ℕ → PlainElement → ℕ → List Needed → PlainClaim
opened seat element time needs = record { seat = seat; element = element; time = time; needs = needs; status = open_claim }

abbrev pub changed_to : Status → ℕ → List PlainClaim → Option PlainClaim → List PlainClaim
changed_to status position claims None = claims
changed_to status position claims (Some claim) = slice_set claims position (record claim { status = status })

-- the claims, of which the one at a position has another status
abbrev pub with_status : Status → ℕ → List PlainClaim → List PlainClaim
with_status status position claims = changed_to status position claims (slice_get claims position)

-- the log of no claim, from a marking
abbrev pub started : Marking → PlainLog
started m = record { committed = []; settled = m; claims = []; picks = []; unclaimed = m }

-- whether the first of claims is done with its outputs
abbrev pub begin_done : List PlainClaim → Bool
begin_done [] = false
begin_done (claim ∷ claims) = is_done claim.status

-- the log when the next claim has joined the committed part
abbrev pub with_committed : PlainLog → PlainClaim → List PlainClaim → PlainLog
with_committed log claim claims = record {
  committed = log.committed ++ head_of claim ∷ [];
  settled = after_claim claim log.settled;
  claims = claims;
  picks = drop 1 log.picks;
  unclaimed = log.unclaimed;
}

abbrev pub next_committed_of : PlainLog → List PlainClaim → PlainLog
next_committed_of log [] = log
next_committed_of log (claim ∷ claims) = if is_done claim.status then with_committed log claim claims else log

-- the log when the next claim has joined the committed part, if it is done with its outputs
abbrev pub next_committed : PlainLog → PlainLog
next_committed log = next_committed_of log log.claims

-- the claim of a seat on an element at a time, with its needs, done with its outputs
abbrev pub made_and_done : ℕ → PlainElement → ℕ → List Needed → List Made → PlainClaim
made_and_done seat element time needs outputs = record { seat = seat; element = element; time = time; needs = needs; status = done_with outputs }

-- the log of one claim more, which is done and committed, where no claim stands behind the committed ones
abbrev pub with_occurred : PlainLog → PlainClaim → PlainLog
with_occurred log claim = record {
  committed = log.committed ++ head_of claim ∷ [];
  settled = after_claim claim log.settled;
  claims = [];
  picks = [];
  unclaimed = after_claim claim log.settled;
}
