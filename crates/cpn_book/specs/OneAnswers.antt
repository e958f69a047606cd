-- When two answers to a call are the same, and the laws that a book has one state, and a call on it one answer. Source: own choice.
use Rattle.std.specs.Prelude.{◌≡◌, ℕ, List}
use Rattle.std.specs.Option.{option_map}
use Rattle.cpn_jobs.specs.Views.{job_view}
use Rattle.cpn_runs.specs.State.{PlainSetup, PlainState, PlainEvent, IsState}
use Rattle.cpn_runs.specs.FinishedViews.{setup_view, finished_view}
use Rattle.cpn_book.specs.Answers.{AnswersClaim, AnswersCompletion, AnswersGivingBack, AnswersAdvance, AnswersFinish}
use Rattle.cpn_book.specs.Books.{setup_in, journal_in, IsBook}
use Rattle.cpn_book.specs.Tickets.{number_of, job_of}
use Rattle.cpn_book.specs.declared.tickets.Evaluated.{Evaluated}
use Rattle.cpn_book.specs.declared.tickets.Ticket.{Ticket}
use Rattle.cpn_book.specs.declared.books.Book.{Book}
use Rattle.cpn_book.specs.declared.answers.Claimed.{Claimed}
use Rattle.cpn_book.specs.declared.answers.Claimed.TheVariants as claims
use Rattle.cpn_book.specs.declared.answers.Completed.{Completed}
use Rattle.cpn_book.specs.declared.answers.Completed.TheVariants as completions
use Rattle.cpn_book.specs.declared.answers.GivenBack.{GivenBack}
use Rattle.cpn_book.specs.declared.answers.GivenBack.TheVariants as returns
use Rattle.cpn_book.specs.declared.answers.Advanced.{Advanced}
use Rattle.cpn_book.specs.declared.answers.Finish.{Finish}
use Rattle.cpn_book.specs.declared.answers.Finish.TheVariants as finishes

-- ---- one state

-- The journal of a book leads to a state, and to no other. So what holds in each state of a book holds in that one.
pub record HasOneState (book : Book) : Type 0 where
  pub state : PlainState
  pub reached : IsState (setup_in book) (journal_in book) state
  pub only : (other : PlainState) → IsState (setup_in book) (journal_in book) other → other ≡ state

abbrev pub BooksHaveOneState : Type 0
BooksHaveOneState = (book : Book) → IsBook book → HasOneState book

-- ---- one answer

-- the same answer to a claim: of one kind, with the same number, or tickets of the same number and job
abbrev pub IsSameClaimed : Claimed → Claimed → Type 0
IsSameClaimed claims.Over claims.Over = Unit {0}
IsSameClaimed claims.StepLimit claims.StepLimit = Unit {0}
IsSameClaimed (claims.Busy number) (claims.Busy number') = number ≡ number'
IsSameClaimed (claims.Nothing held) (claims.Nothing held') = held ≡ held'
IsSameClaimed (claims.Ticket ticket) (claims.Ticket ticket') = (number_of ticket ≡ number_of ticket') × (job_of ticket ≡ job_of ticket')
IsSameClaimed a b = ⊥

-- the same answer to a completion: of one kind, with the same number, or the same job and evaluation
abbrev pub IsSameCompleted : Completed → Completed → Type 0
IsSameCompleted completions.Done completions.Done = Unit {0}
IsSameCompleted (completions.Void number) (completions.Void number') = number ≡ number'
IsSameCompleted (completions.Stranger kept brought) (completions.Stranger kept' brought') =
    (option_map (λ job. job_view job.value) kept ≡ option_map (λ job. job_view job.value) kept') × (brought ≡ brought')
IsSameCompleted a b = ⊥

-- the same answer to a ticket that is given back: of one kind, with the same number, or the same job and ticket
abbrev pub IsSameGivenBack : GivenBack → GivenBack → Type 0
IsSameGivenBack returns.Cut returns.Cut = Unit {0}
IsSameGivenBack (returns.Void number) (returns.Void number') = number ≡ number'
IsSameGivenBack (returns.Stranger kept brought) (returns.Stranger kept' brought') =
    (option_map (λ job. job_view job.value) kept ≡ option_map (λ job. job_view job.value) kept') × (brought ≡ brought')
IsSameGivenBack a b = ⊥

-- the same answer where a book is asked to finish: of one kind, with the same book, or with the same run of one setup
abbrev pub IsSameFinish : Finish → Finish → Type 0
IsSameFinish finishes.Spent finishes.Spent = Unit {0}
IsSameFinish (finishes.Running book) (finishes.Running book') = book ≡ book'
IsSameFinish (finishes.Ended finished) (finishes.Ended finished') = (setup_view finished.setup ≡ setup_view finished'.setup) × (finished_view finished ≡ finished_view finished')
IsSameFinish a b = ⊥

-- In a state a seat that makes a claim has one answer. So each answer comes exactly where what it says holds.
abbrev pub ClaimsHaveOneAnswer : Type 0
ClaimsHaveOneAnswer = (setup : PlainSetup) (state : PlainState) (seat : ℕ) (a b : Claimed) → AnswersClaim setup state seat a → AnswersClaim setup state seat b → IsSameClaimed a b

-- In a state an evaluation that a seat brings has one answer, which appends the same events.
abbrev pub CompletionsHaveOneAnswer : Type 0
CompletionsHaveOneAnswer = (setup : PlainSetup) (state : PlainState) (seat : ℕ) (done : Evaluated) (events events' : List PlainEvent) (a b : Completed)
    → AnswersCompletion setup state seat done events a → AnswersCompletion setup state seat done events' b → IsSameCompleted a b × (events ≡ events')

-- In a state a ticket that a seat gives back has one answer, which appends the same events.
abbrev pub GivingBackHasOneAnswer : Type 0
GivingBackHasOneAnswer = (setup : PlainSetup) (state : PlainState) (seat : ℕ) (ticket : Ticket) (events events' : List PlainEvent) (a b : GivenBack)
    → AnswersGivingBack setup state seat ticket events a → AnswersGivingBack setup state seat ticket events' b → IsSameGivenBack a b × (events ≡ events')

-- In a state the clock that is to move has one answer.
abbrev pub MovesHaveOneAnswer : Type 0
MovesHaveOneAnswer = (setup : PlainSetup) (state : PlainState) (a b : Advanced) → AnswersAdvance setup state a → AnswersAdvance setup state b → a ≡ b

-- A book that is asked to finish has one answer. So it is running exactly where no cause ends its state, and ends otherwise with one run.
abbrev pub FinishesHaveOneAnswer : Type 0
FinishesHaveOneAnswer = (book : Book) (a b : Finish) → AnswersFinish book a → AnswersFinish book b → IsSameFinish a b
