-- Claims that seats hold while others act: what becomes of them. Source: own choice.
use Rattle.std.specs.Prelude.{◌≡◌, ◌⊎◌, ℕ, ◌≤◌, true, List, [], ◌++◌, length, Some, slice_get}
use Rattle.cpn_runs.specs.HoleRun.{PlainClaim, is_open}
use Rattle.cpn_runs.specs.State.{PlainSetup, PlainState, PlainCut, PlainEvent, Leads}
use Rattle.cpn_runs.specs.SeatEvents.{events_by}

-- The claim of a number is this one, and is open.
pub record IsOpenAt (state : PlainState) (number : ℕ) (claim : PlainClaim) : Type 0 where
  pub claim_is : slice_get state.claims number ≡ Some claim
  pub still_open : is_open claim.status ≡ true

-- A cut stands at or below the number, and no claim from the number on.
pub record IsCutAt (state : PlainState) (number : ℕ) : Type 0 where
  pub cut : PlainCut
  pub cut_is : state.cut ≡ Some cut
  pub at_or_below : cut.number ≤ number
  pub gone : length state.claims ≤ number

-- The claim is there as it was, and open; or a cut has removed it.
abbrev pub StaysOrCut : PlainState → ℕ → PlainClaim → Type 0
StaysOrCut state number claim = IsOpenAt state number claim ⊎ IsCutAt state number

-- the law: an open claim stays, while its seat makes no event, until a cut removes it
abbrev pub HeldClaimsStay : Type 0
HeldClaimsStay =
    (setup : PlainSetup) (old new : PlainState) (others : List PlainEvent) (number : ℕ) (claim : PlainClaim)
    → IsOpenAt old number claim → events_by claim.seat others ≡ [] → Leads setup old others new → StaysOrCut new number claim

-- the law: where others act first and then a seat, the seat's events are those that were there, and then its own, each once
abbrev pub OwnEventsStandOnce : Type 0
OwnEventsStandOnce =
    (seat : ℕ) (seen others own : List PlainEvent)
    → events_by seat others ≡ [] → events_by seat (seen ++ (others ++ own)) ≡ events_by seat seen ++ events_by seat own
