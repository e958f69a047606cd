-- What a seat has seen of the run that it works on, and what its calls tell of it. Source: own choice.
use Rattle.std.specs.Prelude.{◌≡◌, ℕ, ◌++◌, Bool, true, false, List, [], Option, Some, None}
use Rattle.cpn_runs.specs.State.{PlainSetup, PlainEvent, PlainState, IsState}
use Rattle.cpn_book.specs.Answers.{AnswersClaim, claim_events, AnswersCompletion, AnswersGivingBack, AnswersAdvance, move_events}
use Rattle.cpn_book.specs.Books.{setup_in, journal_in, is_spent_in, IsBook}
use Rattle.cpn_book.specs.declared.books.Book.{Book}
use Rattle.cpn_book.specs.declared.answers.Claimed.{Claimed}
use Rattle.cpn_book.specs.declared.answers.Completed.{Completed}
use Rattle.cpn_book.specs.declared.answers.GivenBack.{GivenBack}
use Rattle.cpn_book.specs.declared.answers.Advanced.{Advanced}
use Rattle.cpn_book.specs.declared.answers.Advanced.TheVariants as moves
use Rattle.cpn_book.specs.declared.tickets.Ticket.{Ticket}
use Rattle.cpn_book.specs.declared.tickets.Evaluated.{Evaluated}
use Rattle.cpn_runs.specs.SeatEvents.{NoneBy, AllBy}

-- A run as far as it was seen: the setup that it starts from, its events, and whether its book was spent.
pub record Seen : Type 0 where
  pub setup : PlainSetup
  pub journal : List PlainEvent
  pub spent : Bool

-- what is to be seen in a book
abbrev pub seen_in : Book → Seen
seen_in book = record { setup = setup_in book; journal = journal_in book; spent = is_spent_in book }

-- The same run, seen later: what was seen is still there, and a book that was spent is spent.
pub record IsLater (old new : Seen) : Type 0 where
  pub setup : new.setup ≡ old.setup
  pub more : List PlainEvent
  pub journal : new.journal ≡ old.journal ++ more
  pub spent : old.spent ≡ true → new.spent ≡ true

-- A fact about what was seen before and after, of a desk that tells what it sees.
abbrev pub IfSeen : Option Seen → Option Seen → (Seen → Seen → Type 0) → Type 0
IfSeen None new Fact = Unit {0}
IfSeen (Some old) new Fact = (now : Seen) × (new ≡ Some now) × Fact old now

-- what such a desk sees after calls of its own
abbrev pub Later : Option Seen → Option Seen → Type 0
Later old new = IfSeen old new IsLater

-- A call of a seat with these numbers: first came claims and completions of others, with moves of the clock and cuts, up to the journal at
-- which the call was made; the last events are the call's own. What is then seen leads to a state.
pub record SeesCall (numbers : List ℕ) (own : List PlainEvent) (old new : Seen) : Type 0 where
  pub others : List PlainEvent
  pub apart : NoneBy numbers others
  pub at : List PlainEvent
  pub at_is : at ≡ old.journal ++ others
  pub setup : new.setup ≡ old.setup
  pub journal : new.journal ≡ at ++ own
  pub state : PlainState
  pub reached : IsState new.setup new.journal state
  pub spent : old.spent ≡ true → new.spent ≡ true

-- A claim: the answer is that of the state of the journal at which it was made. Its book was not spent, and is not.
pub record ClaimsAt (numbers : List ℕ) (seat : ℕ) (answer : Claimed) (old new : Seen) : Type 0 where
  pub call : SeesCall numbers (claim_events seat answer) old new
  pub answer_is : (state : PlainState) → IsState old.setup call.at state → AnswersClaim old.setup state seat answer
  pub unspent : old.spent ≡ false
  pub unspent_still : new.spent ≡ false

-- the same of a completion
pub record CompletesAt (numbers : List ℕ) (seat : ℕ) (done : Evaluated) (answer : Completed) (old new : Seen) : Type 0 where
  pub own : List PlainEvent
  pub call : SeesCall numbers own old new
  pub answer_is : (state : PlainState) → IsState old.setup call.at state → AnswersCompletion old.setup state seat done own answer
  pub unspent : old.spent ≡ false
  pub unspent_still : new.spent ≡ false

-- the same of a ticket that is given back
pub record GivesBackAt (numbers : List ℕ) (seat : ℕ) (ticket : Ticket) (answer : GivenBack) (old new : Seen) : Type 0 where
  pub own : List PlainEvent
  pub call : SeesCall numbers own old new
  pub answer_is : (state : PlainState) → IsState old.setup call.at state → AnswersGivingBack old.setup state seat ticket own answer
  pub unspent : old.spent ≡ false
  pub unspent_still : new.spent ≡ false

-- A move of the clock: the answer is that of the state of the journal at which it was made; that the book is spent is answered exactly where it is.
pub record AdvancesAt (numbers : List ℕ) (answer : Advanced) (old new : Seen) : Type 0 where
  pub call : SeesCall numbers (move_events answer) old new
  pub answer_is : new.spent ≡ false → (state : PlainState) → IsState old.setup call.at state → AnswersAdvance old.setup state answer
  pub spent : new.spent ≡ true → answer ≡ moves.Spent
  pub only_spent : answer ≡ moves.Spent → new.spent ≡ true

-- A call that wants memory: it has made no event, and the book is spent.
pub record WantsMemoryAt (numbers : List ℕ) (old new : Seen) : Type 0 where
  pub call : SeesCall numbers [] old new
  pub spent : new.spent ≡ true

-- What a call of a seat makes of a book: these events more, and every claim and completion of them is by the seat.
pub record Makes (seat : ℕ) (old new : Book) (own : List PlainEvent) : Type 0 where
  pub is_book : IsBook new
  pub setup : setup_in new ≡ setup_in old
  pub journal : journal_in new ≡ journal_in old ++ own
  pub own_all : AllBy seat own
  pub spent : is_spent_in old ≡ true → is_spent_in new ≡ true
