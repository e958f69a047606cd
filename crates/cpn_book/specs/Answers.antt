-- What the calls on a book answer in a state, and which events they append. Source: own choice.
use Rattle.std.specs.Prelude.{◌≡◌, ◌≢◌, ℕ, ◌<◌, ◌≤◌, if◌then◌else◌, true, false, List, [], ◌∷◌, ◌++◌, length, Option, Some, None, slice_get}
use Rattle.std.specs.Option.{option_map}
use Rattle.cpn_definitions.specs.Enabled.{IsDead}
use Rattle.cpn_definitions.specs.Legal.{LeastTime}
use Rattle.cpn_definitions.specs.Marking.{Marking}
use Rattle.cpn_jobs.specs.Views.{job_view}
use Rattle.cpn_jobs.specs.Work.{PlainJob}
use Rattle.cpn_runs.specs.Filling.{IsFilled}
use Rattle.cpn_runs.specs.HoleRun.{PlainClaim, is_open}
use Rattle.cpn_runs.specs.Run.{IsRun}
use Rattle.cpn_runs.specs.State.{PlainSetup, PlainState, PlainCut, PlainEvent, PlainEnd, wants_memory, claim_made, claim_completed, clock_moved, cut_made, unclaimed_in, owed_cut, is_held_by, MayClaim, MayComplete, MayMove, MayCut, EndsBy}
use Rattle.cpn_runs.specs.FinishedViews.{setup_view, finished_view}
use Rattle.cpn_book.specs.Bounds.{EndsInBounds}
use Rattle.cpn_book.specs.Held.{held_from}
use Rattle.cpn_book.specs.States.{open_claims, IsFull, AreReady, claimed_job, cut_events}
use Rattle.cpn_book.specs.Evaluations.{outputs_told}
use Rattle.cpn_book.specs.Tickets.{number_of, job_of, evaluated_number, evaluated_job}
use Rattle.cpn_book.specs.Books.{setup_in, journal_in, is_spent_in, InState}
use Rattle.cpn_book.specs.declared.tickets.Ticket.{Ticket}
use Rattle.cpn_book.specs.declared.tickets.Evaluated.{Evaluated}
use Rattle.cpn_book.specs.declared.books.Book.{Book}
use Rattle.cpn_book.specs.declared.answers.Claimed.{Claimed}
use Rattle.cpn_book.specs.declared.answers.Claimed.TheVariants as claims
use Rattle.cpn_book.specs.declared.answers.Completed.{Completed}
use Rattle.cpn_book.specs.declared.answers.Completed.TheVariants as completions
use Rattle.cpn_book.specs.declared.answers.GivenBack.{GivenBack}
use Rattle.cpn_book.specs.declared.answers.GivenBack.TheVariants as returns
use Rattle.cpn_book.specs.declared.answers.Advanced.{Advanced}
use Rattle.cpn_book.specs.declared.answers.Advanced.TheVariants as moves
use Rattle.cpn_book.specs.declared.answers.Finish.{Finish}
use Rattle.cpn_book.specs.declared.answers.Finish.TheVariants as finishes

-- ---- a claim

-- A ticket of a claim that may be made: it has the number and the job of that claim.
pub record IsTicket (setup : PlainSetup) (state : PlainState) (seat : ℕ) (ticket : Ticket) : Type 0 where
  pub after : PlainState
  pub may : MayClaim setup state seat (number_of ticket) after
  pub claim : PlainClaim
  pub claim_is : slice_get after.claims (number_of ticket) ≡ Some claim
  pub job_is : job_of ticket ≡ claimed_job setup claim

-- the answer to a seat that makes a claim
abbrev pub AnswersClaim : PlainSetup → PlainState → ℕ → Claimed → Type 0
AnswersClaim setup state seat claims.Over = state.cut ≢ None
AnswersClaim setup state seat claims.StepLimit = (state.cut ≡ None) × IsFull setup state
AnswersClaim setup state seat (claims.Busy number) = (state.cut ≡ None) × (length state.claims ≢ setup.limits.steps) × (held_from 0 seat state.claims ≡ Some number)
AnswersClaim setup state seat (claims.Nothing held) =
    (state.cut ≡ None) × (length state.claims ≢ setup.limits.steps) × (held_from 0 seat state.claims ≡ None) × AreReady setup state 0 × (held ≡ open_claims state)
AnswersClaim setup state seat (claims.Ticket ticket) = IsTicket setup state seat ticket

-- the events that it appends
abbrev pub claim_events : ℕ → Claimed → List PlainEvent
claim_events seat claims.Over = []
claim_events seat claims.StepLimit = []
claim_events seat (claims.Busy number) = []
claim_events seat (claims.Nothing held) = []
claim_events seat (claims.Ticket ticket) = claim_made seat (number_of ticket) ∷ []

-- a ticket is due
abbrev pub MayClaimNext : PlainSetup → PlainState → ℕ → Type 0
MayClaimNext setup state seat = (after : PlainState) × MayClaim setup state seat (length state.claims) after

-- ---- a completion

-- no cut stands at or below the number
abbrev pub IsNotCut : PlainState → ℕ → Type 0
IsNotCut state number = (cut : PlainCut) → state.cut ≡ Some cut → number < cut.number

-- the seat has an open claim of the number and job
abbrev pub HasOpenClaim : PlainSetup → PlainState → ℕ → ℕ → PlainJob → Type 0
HasOpenClaim setup state seat number job =
    (claim : PlainClaim) × (slice_get state.claims number ≡ Some claim) × (is_held_by seat claim ≡ true) × (claimed_job setup claim ≡ job)

-- the job of the open claim of a number, if there is one
abbrev pub job_if_open : PlainSetup → Option PlainClaim → Option PlainJob
job_if_open setup None = None
job_if_open setup (Some claim) = (if is_open claim.status then Some (claimed_job setup claim) else None)

abbrev pub open_job : PlainSetup → PlainState → ℕ → Option PlainJob
open_job setup state number = job_if_open setup (slice_get state.claims number)

-- A completion that may be made: it fills the claim with its outputs, so each later claim keeps its needs; it is in the journal, and so is
-- the cut that is owed after it.
pub record IsCompletion (setup : PlainSetup) (state : PlainState) (seat : ℕ) (done : Evaluated) (events : List PlainEvent) : Type 0 where
  pub open_claim : HasOpenClaim setup state seat (evaluated_number done) (evaluated_job done)
  pub after : PlainState
  pub may : MayComplete setup state seat (evaluated_number done) after
  pub fills : IsFilled setup state (evaluated_number done) (outputs_told (evaluated_job done)) after
  pub events_are : events ≡ claim_completed seat (evaluated_number done) ∷ cut_events (owed_cut setup after)

-- the claim of the first number is cut off: a cut of the second number stands, at or below it
abbrev pub IsCutBelow : PlainState → ℕ → ℕ → Type 0
IsCutBelow state claim cut_number = (cut : PlainCut) × (state.cut ≡ Some cut) × (cut_number ≡ cut.number) × (cut.number ≤ claim)

-- No cut stands at or below the number, and the seat has no open claim of the number and job; the job that is kept is that of the open claim of
-- the number, if there is one.
abbrev pub IsStranger : PlainSetup → PlainState → ℕ → ℕ → PlainJob → Option PlainJob → Type 0
IsStranger setup state seat number job kept = IsNotCut state number × (HasOpenClaim setup state seat number job → ⊥) × (kept ≡ open_job setup state number)

-- the answer to a seat that brings an evaluation, with the events that it appends
abbrev pub AnswersCompletion : PlainSetup → PlainState → ℕ → Evaluated → List PlainEvent → Completed → Type 0
AnswersCompletion setup state seat done events (completions.Void number) = (events ≡ []) × IsCutBelow state (evaluated_number done) number
AnswersCompletion setup state seat done events (completions.Stranger kept brought) =
    (events ≡ []) × (brought ≡ done) × IsStranger setup state seat (evaluated_number done) (evaluated_job done) (option_map (λ job. job_view job.value) kept)
AnswersCompletion setup state seat done events completions.Done = IsNotCut state (evaluated_number done) × IsCompletion setup state seat done events

-- the answer of a book to a seat that brings an evaluation, and the book after it
abbrev pub AnswersEvaluation : Book → Book → ℕ → Evaluated → Completed → Type 0
AnswersEvaluation old new seat done answer =
    InState old (λ state. (events : List PlainEvent) × (journal_in new ≡ journal_in old ++ events) × AnswersCompletion (setup_in old) state seat done events answer)

-- ---- a claim that is given back

-- A ticket of an open claim of the seat is given back: the cut for want of memory at its number may be made, and is the one event.
pub record IsGivingBack (setup : PlainSetup) (state : PlainState) (seat : ℕ) (ticket : Ticket) (events : List PlainEvent) : Type 0 where
  pub open_claim : HasOpenClaim setup state seat (number_of ticket) (job_of ticket)
  pub after : PlainState
  pub may : MayCut setup state (number_of ticket) after
  pub cut_is : after.cut ≡ Some (record { number = number_of ticket; cause = wants_memory })
  pub events_are : events ≡ cut_made (number_of ticket) ∷ []

-- the answer to a seat that gives a ticket back, with the events that it appends
abbrev pub AnswersGivingBack : PlainSetup → PlainState → ℕ → Ticket → List PlainEvent → GivenBack → Type 0
AnswersGivingBack setup state seat ticket events (returns.Void number) = (events ≡ []) × IsCutBelow state (number_of ticket) number
AnswersGivingBack setup state seat ticket events (returns.Stranger kept brought) =
    (events ≡ []) × (brought ≡ ticket) × IsStranger setup state seat (number_of ticket) (job_of ticket) (option_map (λ job. job_view job.value) kept)
AnswersGivingBack setup state seat ticket events returns.Cut = IsNotCut state (number_of ticket) × IsGivingBack setup state seat ticket events

-- the answer of a book to a seat that gives a ticket back, and the book after it
abbrev pub AnswersTicket : Book → Book → ℕ → Ticket → GivenBack → Type 0
AnswersTicket old new seat ticket answer =
    InState old (λ state. (events : List PlainEvent) × (journal_in new ≡ journal_in old ++ events) × AnswersGivingBack (setup_in old) state seat ticket events answer)

-- ---- a move of the clock

-- no cut stands, and fewer claims were made than may be
abbrev pub GoesOn : PlainSetup → PlainState → Type 0
GoesOn setup state = (state.cut ≡ None) × (length state.claims ≢ setup.limits.steps)

-- nothing is ready, and no claim is open
abbrev pub IsIdle : PlainSetup → PlainState → Type 0
IsIdle setup state = AreReady setup state 0 × (open_claims state ≡ 0)

-- the answer where the clock is to move
abbrev pub AnswersAdvance : PlainSetup → PlainState → Advanced → Type 0
AnswersAdvance setup state moves.Spent = ⊥
AnswersAdvance setup state moves.Over = state.cut ≢ None
AnswersAdvance setup state moves.StepLimit = (state.cut ≡ None) × IsFull setup state
AnswersAdvance setup state moves.Ready = GoesOn setup state × ((number : ℕ) × AreReady setup state number × (0 < number))
AnswersAdvance setup state (moves.Open number) = GoesOn setup state × AreReady setup state 0 × (number ≡ open_claims state) × (0 < number)
AnswersAdvance setup state moves.Dead = GoesOn setup state × IsIdle setup state × ((marking : Marking) × (unclaimed_in setup state ≡ Some marking) × IsDead setup.net marking)
AnswersAdvance setup state (moves.Until time) =
    GoesOn setup state × IsIdle setup state × ((marking : Marking) × (unclaimed_in setup state ≡ Some marking) × LeastTime setup.net marking state.clock time) × (setup.limits.until < time)
AnswersAdvance setup state (moves.Moved time) = (after : PlainState) × MayMove setup state time after

-- the events that it appends
abbrev pub move_events : Advanced → List PlainEvent
move_events (moves.Moved time) = clock_moved time ∷ []
move_events (moves.Until time) = []
move_events moves.Dead = []
move_events (moves.Open number) = []
move_events moves.Ready = []
move_events moves.StepLimit = []
move_events moves.Over = []
move_events moves.Spent = []

-- ---- the end

-- the answer of a book that is asked to finish
abbrev pub AnswersFinish : Book → Finish → Type 0
AnswersFinish book finishes.Spent = is_spent_in book ≡ true
AnswersFinish book (finishes.Running same) = (is_spent_in book ≡ false) × (same ≡ book) × InState book (λ state. (cause : PlainEnd) → EndsBy (setup_in book) state cause → ⊥)
AnswersFinish book (finishes.Ended finished) =
    (is_spent_in book ≡ false) × IsRun (setup_in book) (finished_view finished) × ((finished_view finished).journal ≡ journal_in book) × (setup_view finished.setup ≡ setup_in book)
    × EndsInBounds (setup_in book) (finished_view finished)
