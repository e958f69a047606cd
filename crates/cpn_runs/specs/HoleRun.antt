-- The marking that the claims of a run leave, and the stamps that each of them took. Source: own choice.
use Rattle.std.specs.Prelude.{ℕ, Bool, true, false, if◌then◌else◌, List, [], ◌∷◌, take, Option, Some, None}
use Rattle.std.specs.Option.{option_map}
use Rattle.cpn_definitions.specs.Value.{PlainValue}
use Rattle.cpn_definitions.specs.Marking.{Marking, tokens_at, on_place, stamps, without_token}
use Rattle.cpn_definitions.specs.Outcome.{Fault}
use Rattle.cpn_definitions.specs.Occurrence.{PlainElement, Needed, Made, threshold, are_covered, subtract, add_made}
use Rattle.cpn_tmset.specs.Stamps.{latest_stamp}

-- What became of a claim: it is open, done with the tokens that it made, or done with a fault of its outputs.
pub data Status : Type 0 where
  open_claim : Status
  done_with : List Made → Status
  faulted_with : Fault → Status

-- A claim: the seat that made it, its element and time, its needs, and what became of it.
pub record PlainClaim : Type 0 where
  pub seat : ℕ
  pub element : PlainElement
  pub time : ℕ
  pub needs : List Needed
  pub status : Status

-- the tokens that a claim adds where it stands in the order: an open or faulted one adds nothing
abbrev pub added : Status → List Made
added open_claim = []
added (done_with outputs) = outputs
added (faulted_with fault) = []

-- A pick: a token that a claim took, by its place, value and stamp, and the threshold that the stamp was not to be above.
pub record PlainPick : Type 0 where
  pub place : ℕ
  pub value : PlainValue
  pub threshold : ℕ
  pub stamp : ℕ

-- the pick of a need from a marking
abbrev pub pick_of : ℕ → Needed → Marking → PlainPick
pick_of time need m = record { place = need.place; value = need.value; threshold = threshold time need; stamp = latest_stamp (threshold time need) (stamps need.value (tokens_at m need.place)) }

-- the picks of needs at a time, in the order in which the subtraction takes them
abbrev pub picks_of : ℕ → List Needed → Marking → List PlainPick
picks_of time [] m = []
picks_of time (need ∷ needs) m = pick_of time need m ∷ picks_of time needs (on_place need.place (without_token need.value (threshold time need)) m)

-- What claims leave: a marking, and for each claim, in claim order, what it took.
pub record PlainHoleRun : Type 0 where
  pub marking : Marking
  pub picks : List (List PlainPick)

-- the run of claims that one more claim begins with its picks
abbrev pub begun_with : List PlainPick → PlainHoleRun → PlainHoleRun
begun_with picks run = record { marking = run.marking; picks = picks ∷ run.picks }

-- the marking after a claim: less its needs at its time, plus what it adds
abbrev pub after_claim : PlainClaim → Marking → Marking
after_claim claim m = add_made (added claim.status) (subtract (threshold claim.time) claim.needs m)

-- HoleRun: in claim order each claim subtracts its needs at its time and adds its outputs. There is one where the needs of
-- each claim are covered where it stands.
abbrev pub hole_run : Marking → List PlainClaim → Option PlainHoleRun
hole_run m [] = Some (record { marking = m; picks = [] })
hole_run m (claim ∷ claims) =
    if are_covered (threshold claim.time) m claim.needs
    then option_map (begun_with (picks_of claim.time claim.needs m)) (hole_run (after_claim claim m) claims)
    else None

-- the marking that a run of claims leaves
abbrev pub marking_left : Marking → List PlainClaim → Option Marking
marking_left m claims = option_map (λ run. run.marking) (hole_run m claims)

-- Unclaimed: the marking that all present claims leave.
abbrev pub unclaimed : Marking → List PlainClaim → Option Marking
unclaimed start claims = marking_left start claims

-- Settled: the marking that the first k claims leave. It is asked of the committed ones, which are all done with their outputs.
abbrev pub settled : Marking → ℕ → List PlainClaim → Option Marking
settled start k claims = marking_left start (take k claims)

abbrev pub is_open : Status → Bool
is_open open_claim = true
is_open (done_with outputs) = false
is_open (faulted_with fault) = false

abbrev pub is_done : Status → Bool
is_done open_claim = false
is_done (done_with outputs) = true
is_done (faulted_with fault) = false
