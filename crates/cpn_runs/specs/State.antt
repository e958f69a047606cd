-- What a run's journal says: the events that may happen, and the state that they lead to.
-- Source: own choice. The occurrences of such a run are a legal occurrence sequence of Jensen and
-- Kristensen, chapter 11, which is a theorem and no part of this definition.
use Rattle.std.specs.Prelude.{◌≡◌, ◌≢◌, ℕ, suc, ◌<◌, ◌≤◌, ◌%◌, ◌&&◌, ◌==◌, ◌⊎◌, if◌then◌else◌, Bool, true, false, List, [], ◌∷◌, ◌++◌, length, take, Option, Some, None, MatchOption, slice_get, slice_set}
use Rattle.std.specs.List.{list_any}
use Rattle.cpn_definitions.specs.Inscription.{Functions}
use Rattle.cpn_definitions.specs.Marking.{Marking}
use Rattle.cpn_definitions.specs.Net.{PlainNet}
use Rattle.cpn_definitions.specs.Outcome.{Fault, Outcome, gives, faults, no_meaning}
use Rattle.cpn_definitions.specs.Occurrence.{PlainElement, Needed, Made, covered, needs_of, outputs_of}
use Rattle.cpn_definitions.specs.Enabled.{PlainEntry, Enabled, ready, IsDead}
use Rattle.cpn_definitions.specs.Legal.{LeastTime, PlainOccurrence}
use Rattle.cpn_draw.specs.Draw.{word}
use Rattle.cpn_monitor.specs.Monitors.{PlainMonitor}
use Rattle.std.specs.Option.{option_or}
use Rattle.cpn_runs.specs.Commits.{marked_from, stop_at_last, committed_from}
use Rattle.cpn_runs.specs.HoleRun.{PlainClaim, Status, open_claim, done_with, faulted_with, unclaimed, settled, is_open}

-- The limits of a run: how many claims it may make, the last time that it may reach, and its seats.
pub record PlainLimits : Type 0 where
  pub steps : ℕ
  pub until : ℕ
  pub seats : ℕ

-- What a run starts from: its net, marking and clock, its limits, its monitors with the functions that they call, and the seed of its draws.
pub record PlainSetup : Type 0 where
  pub net : PlainNet
  pub start : Marking
  pub clock : ℕ
  pub limits : PlainLimits
  pub functions : Functions
  pub monitors : List PlainMonitor
  pub seed : ℕ

-- An event of a run: a seat claims a ready element, under the next number; a seat completes the
-- claim of a number; the clock moves to a time; the claims from a number on are cut off.
pub data PlainEvent : Type 0 where
  claim_made : ℕ → ℕ → PlainEvent
  claim_completed : ℕ → ℕ → PlainEvent
  clock_moved : ℕ → PlainEvent
  cut_made : ℕ → PlainEvent

-- How a run ends: no element is covered at any time; as many claims were made as it may make; the least time at which an
-- element is covered is above the last one that it may reach; the outputs of an element had a fault; the monitor of a number stopped it; or a
-- claim was given back for want of memory.
pub data PlainEnd : Type 0 where
  dead : PlainEnd
  steps_made : PlainEnd
  until_passed : ℕ → PlainEnd
  fault_end : PlainElement → Fault → PlainEnd
  stopped_by : ℕ → PlainEnd
  wants_memory : PlainEnd

-- A cut: the number from which on claims were removed, and the cause.
pub record PlainCut : Type 0 where
  pub number : ℕ
  pub cause : PlainEnd

-- The state of a run: the clock, the claims, and the last cut.
pub record PlainState : Type 0 where
  pub clock : ℕ
  pub claims : List PlainClaim
  pub cut : Option PlainCut

abbrev pub first_state : PlainSetup → PlainState
first_state setup = record { clock = setup.clock; claims = []; cut = None }

-- the marking that the state's claims leave
abbrev pub unclaimed_in : PlainSetup → PlainState → Option Marking
unclaimed_in setup state = unclaimed setup.start state.claims

-- how many claims are committed: those of the longest prefix in which each is done without fault, and no monitor stops the run after any but the last
abbrev pub committed : PlainSetup → PlainState → ℕ
committed setup state = committed_from setup.monitors [] setup.start state.claims

abbrev pub committed_claims : PlainSetup → PlainState → List PlainClaim
committed_claims setup state = take (committed setup state) state.claims

-- the first of the monitors that stops the run after the last committed claim, if one does
abbrev pub stop_in : PlainSetup → PlainState → Option ℕ
stop_in setup state = stop_at_last setup.monitors (marked_from setup.start (committed_claims setup state))

-- the marking that the committed claims leave
abbrev pub settled_in : PlainSetup → PlainState → Option Marking
settled_in setup state = settled setup.start (committed setup state) state.claims

-- the cut that a claim of a number makes owed where it is the first that is not committed
abbrev pub cut_by : ℕ → PlainElement → Status → Option PlainCut
cut_by k e open_claim = None
cut_by k e (done_with outputs) = None
cut_by k e (faulted_with fault) = Some (record { number = k; cause = fault_end e fault })

abbrev pub cut_at : ℕ → Option PlainClaim → Option PlainCut
cut_at k None = None
cut_at k (Some claim) = cut_by k claim.element claim.status

-- whether a cause is that a monitor stops the run
abbrev pub is_cause : ℕ → PlainEnd → Bool
is_cause monitor dead = false
is_cause monitor steps_made = false
is_cause monitor (until_passed time) = false
is_cause monitor (fault_end e fault) = false
is_cause monitor (stopped_by other) = monitor == other
is_cause monitor wants_memory = false

-- whether a cut is the one that a monitor makes after so many claims
abbrev pub is_cut_by_stop : ℕ → ℕ → Option PlainCut → Bool
is_cut_by_stop k monitor None = false
is_cut_by_stop k monitor (Some cut) = (k == cut.number) && is_cause monitor cut.cause

-- the cut that a monitor makes owed which stops the run after so many claims, unless it stands
abbrev pub cut_by_stop : ℕ → Option ℕ → Option PlainCut → Option PlainCut
cut_by_stop k None stands = None
cut_by_stop k (Some monitor) stands = if is_cut_by_stop k monitor stands then None else Some (record { number = k; cause = stopped_by monitor })

-- the cut that is owed: after the committed claims, where a monitor stops the run after the last of them; else at the first claim that is not
-- committed, where it is done with a fault
abbrev pub owed_cut : PlainSetup → PlainState → Option PlainCut
owed_cut setup state = option_or (cut_by_stop (committed setup state) (stop_in setup state) state.cut) (cut_at (committed setup state) (slice_get state.claims (committed setup state)))

-- whether a claim is open, and is open for the seat
abbrev pub is_held_by : ℕ → PlainClaim → Bool
is_held_by seat claim = is_open claim.status && (claim.seat == seat)

-- the tokens that an element takes, of one that is covered
abbrev pub given_needs : Outcome (List Needed) → List Needed
given_needs (gives needs) = needs
given_needs (faults fault) = []
given_needs no_meaning = []

-- the outputs that an outcome gives, none where it gives none
abbrev pub given_outputs : Outcome (List Made) → List Made
given_outputs (gives outputs) = outputs
given_outputs (faults fault) = []
given_outputs no_meaning = []

-- the claim on an element that a seat makes at a time
abbrev pub new_claim : PlainNet → ℕ → ℕ → PlainElement → PlainClaim
new_claim n seat time e = record { seat = seat; element = e; time = time; needs = given_needs (needs_of n e); status = open_claim }

-- what becomes of a claim when its outputs are evaluated
abbrev pub status_after : Outcome (List Made) → Option Status
status_after (gives outputs) = Some (done_with outputs)
status_after (faults fault) = Some (faulted_with fault)
status_after no_meaning = None

-- The entry is the one that word k draws from the ready ones: the word modulo their number is its position.
abbrev pub IsDrawn : ℕ → ℕ → List PlainEntry → PlainEntry → Type 0
IsDrawn seed k entries drawn = slice_get entries (word seed k % length entries) ≡ Some drawn

-- Claim: no cut stands or is owed; the number is that of the next claim and below the limit; the seat is one of the
-- run's and has no open claim. The claim is open on the drawn one of the ready elements.
pub record MayClaim (setup : PlainSetup) (old : PlainState) (seat number : ℕ) (new : PlainState) : Type 0 where
  pub no_cut : old.cut ≡ None
  pub none_owed : owed_cut setup old ≡ None
  pub next_number : number ≡ length old.claims
  pub below_limit : number < setup.limits.steps
  pub seat_known : seat < setup.limits.seats
  pub seat_free : list_any (is_held_by seat) old.claims ≡ false
  pub marking : Marking
  pub marking_is : unclaimed_in setup old ≡ Some marking
  pub entries : List PlainEntry
  pub enabled : Enabled setup.net marking old.clock entries
  pub drawn : PlainEntry
  pub drawn_is : IsDrawn setup.seed number (ready old.clock entries) drawn
  pub new_is : new ≡ record old { claims = old.claims ++ new_claim setup.net seat old.clock drawn.element ∷ [] }

-- Completion: no cut is owed, and the claim is open and of the seat. It is then done with its outputs, or
-- with their fault.
pub record MayComplete (setup : PlainSetup) (old : PlainState) (seat number : ℕ) (new : PlainState) : Type 0 where
  pub none_owed : owed_cut setup old ≡ None
  pub held_claim : PlainClaim
  pub claim_is : slice_get old.claims number ≡ Some held_claim
  pub held : is_held_by seat held_claim ≡ true
  pub status : Status
  pub status_is : status_after (outputs_of setup.net held_claim.element held_claim.time) ≡ Some status
  pub new_is : new ≡ record old { claims = slice_set old.claims number (record held_claim { status = status }) }

-- Move: no cut stands or is owed; fewer claims were made than may be, and none is open; nothing is covered at the clock. The
-- clock moves to the least time at which an element is covered, which is not above the last that the run may reach.
pub record MayMove (setup : PlainSetup) (old : PlainState) (time : ℕ) (new : PlainState) : Type 0 where
  pub no_cut : old.cut ≡ None
  pub none_owed : owed_cut setup old ≡ None
  pub below_limit : length old.claims < setup.limits.steps
  pub none_open : list_any (λ claim. is_open claim.status) old.claims ≡ false
  pub marking : Marking
  pub marking_is : unclaimed_in setup old ≡ Some marking
  pub none_ready : (e : PlainElement) → covered setup.net marking old.clock e ≡ false
  pub least : LeastTime setup.net marking old.clock time
  pub in_time : time ≤ setup.limits.until
  pub new_is : new ≡ record old { clock = time }

-- A cut for want of memory: none is owed, and the claim of its number is open, and is given back.
pub record GivesBack (setup : PlainSetup) (old : PlainState) (cut : PlainCut) : Type 0 where
  pub none_owed : owed_cut setup old ≡ None
  pub claim : PlainClaim
  pub claim_is : slice_get old.claims cut.number ≡ Some claim
  pub opened : is_open claim.status ≡ true
  pub cause_is : cut.cause ≡ wants_memory

-- A cut that may be made: it is owed, or gives a claim back.
abbrev pub IsDue : PlainSetup → PlainState → PlainCut → Type 0
IsDue setup old cut = (owed_cut setup old ≡ Some cut) ⊎ GivesBack setup old cut

-- Cut: it is due, and has the number. The claims from that number on are removed, and the cut stands; what they took is
-- back in the marking that the claims leave. Claims ahead of the number may still be open.
pub record MayCut (setup : PlainSetup) (old : PlainState) (number : ℕ) (new : PlainState) : Type 0 where
  pub cut : PlainCut
  pub due : IsDue setup old cut
  pub number_is : number ≡ cut.number
  pub new_is : new ≡ record old { claims = take number old.claims; cut = Some cut }

-- the event may happen in the old state, and leads to the new one
abbrev pub Happens : PlainSetup → PlainState → PlainEvent → PlainState → Type 0
Happens setup old (claim_made seat number) new = MayClaim setup old seat number new
Happens setup old (claim_completed seat number) new = MayComplete setup old seat number new
Happens setup old (clock_moved time) new = MayMove setup old time new
Happens setup old (cut_made number) new = MayCut setup old number new

-- the events may happen one after another from the old state, and lead to the new one
abbrev pub Leads : PlainSetup → PlainState → List PlainEvent → PlainState → Type 0
Leads setup old [] new = new ≡ old
Leads setup old (event ∷ events) new = (mid : PlainState) × Happens setup old event mid × Leads setup mid events new

-- State: the journal's events may happen one after another from the start of the run, and lead to the state.
abbrev pub IsState : PlainSetup → List PlainEvent → PlainState → Type 0
IsState setup journal state = Leads setup (first_state setup) journal state

-- the claims as occurrences of a run, numbered from k
abbrev pub numbered : ℕ → List PlainClaim → List PlainOccurrence
numbered k [] = []
numbered k (claim ∷ claims) = record { number = k; time = claim.time; element = claim.element } ∷ numbered (suc k) claims

-- the occurrences of the committed claims, in claim order
abbrev pub committed_occurrences : PlainSetup → PlainState → List PlainOccurrence
committed_occurrences setup state = numbered 0 (committed_claims setup state)

-- the cause for which a run with no cut ends, the first that holds: the limit of claims is reached; nothing is covered at any
-- time; or the least time at which something is covered is above the last that the run may reach
abbrev pub HasCause : PlainSetup → PlainState → PlainEnd → Type 0
HasCause setup state steps_made = length state.claims ≡ setup.limits.steps
HasCause setup state dead =
    (length state.claims ≢ setup.limits.steps)
    × ((marking : Marking) × (unclaimed_in setup state ≡ Some marking) × IsDead setup.net marking)
HasCause setup state (until_passed time) =
    (length state.claims ≢ setup.limits.steps)
    × (setup.limits.until < time)
    × ((marking : Marking) × (unclaimed_in setup state ≡ Some marking) × LeastTime setup.net marking state.clock time)
HasCause setup state (fault_end e fault) = ⊥
HasCause setup state (stopped_by monitor) = ⊥
HasCause setup state wants_memory = ⊥

-- End: no claim is open and no cut is owed. The cause is that of the last cut, or else that for which a run
-- with no cut ends.
pub record EndsBy (setup : PlainSetup) (state : PlainState) (cause : PlainEnd) : Type 0 where
  pub none_open : list_any (λ claim. is_open claim.status) state.claims ≡ false
  pub none_owed : owed_cut setup state ≡ None
  pub has_cause : MatchOption state.cut (HasCause setup state cause) (λ cut. cause ≡ cut.cause)
