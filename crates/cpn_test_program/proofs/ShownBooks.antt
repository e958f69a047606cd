-- What a book tells can be printed: its claims are of binding elements.
use Rattle.std.proofs.Common.{◌≡◌, refl, sym, subst, ℕ, Bool, true, false, if◌then◌else◌, List, ◌∷◌, Option, Some, None, slice_get}
use Rattle.std.specs.List.{AllByRecursion}
use Rattle.std.specs.Option.{option_map}
use Rattle.cpn_definitions.specs.Net.{PlainNet}
use Rattle.cpn_definitions.proofs.LegalSequences.{covered_is_bound}
use Rattle.cpn_definitions.proofs.ListItems.{split_at, all_parts}
use Rattle.cpn_jobs.specs.Views.{job_view}
use Rattle.cpn_jobs.specs.Work.{PlainJob}
use Rattle.cpn_runs.specs.HoleRun.{PlainClaim, is_open}
use Rattle.cpn_runs.specs.State.{PlainSetup, claim_made}
use Rattle.cpn_runs.proofs.States.{IsClaimOf, every_state, event_reaches}
use Rattle.cpn_book.specs.Answers.{AnswersClaim, AnswersEvaluation, AnswersTicket, job_if_open, open_job}
use Rattle.cpn_book.specs.Books.{setup_in, journal_in, InState, IsBook}
use Rattle.cpn_book.specs.States.{claimed_job}
use Rattle.cpn_book.specs.Tickets.{number_of, evaluated_number}
use Rattle.cpn_book.specs.declared.books.Book.{Book}
use Rattle.cpn_book.specs.declared.tickets.Evaluated.{Evaluated}
use Rattle.cpn_book.specs.declared.tickets.Ticket.{Ticket}
use Rattle.cpn_book.specs.declared.answers.Claimed.{Claimed}
use Rattle.cpn_book.specs.declared.answers.Claimed.TheVariants as claims
use Rattle.cpn_book.specs.declared.answers.Completed.{Completed}
use Rattle.cpn_book.specs.declared.answers.Completed.TheVariants as completions
use Rattle.cpn_book.specs.declared.answers.GivenBack.{GivenBack}
use Rattle.cpn_book.specs.declared.answers.GivenBack.TheVariants as returns
use Rattle.cpn_test_program.specs.Shown.{IsShown, HasElement, KeptHasElement, TellsElement, KeepsElement, TicketKeepsElement}

-- a claim among those of a run has a binding element
claim_shown : (setup : PlainSetup) (claims : List PlainClaim) (k : ℕ) (claim : PlainClaim) → AllByRecursion (IsClaimOf setup) claims → slice_get claims k ≡ Some claim → HasElement setup.net (claimed_job setup claim)
claim_shown setup claims k claim all at =
    let parts = split_at claims k claim at in
    let this = (all_parts (IsClaimOf setup) parts.before (claim ∷ parts.later) (subst (AllByRecursion (IsClaimOf setup)) parts.is all)).1.0 in
    covered_is_bound setup.net this.marking claim.time claim.element this.was_covered

-- the ticket in the answer to a claim, if there is one, is of a binding element
ticket_told : (book : Book) (seat : ℕ) (answer : Claimed) → IsBook book → InState book (λ state. AnswersClaim (setup_in book) state seat answer) → TellsElement (setup_in book).net answer
ticket_told book seat claims.Over is tells = tt
ticket_told book seat claims.StepLimit is tells = tt
ticket_told book seat (claims.Busy number) is tells = tt
ticket_told book seat (claims.Nothing held) is tells = tt
ticket_told book seat (claims.Ticket ticket) is tells =
    let setup = setup_in book in
    let state = is.state in
    let made = tells state is.reached in
    let reached = event_reaches setup (journal_in book) state (claim_made seat (number_of ticket)) made.after (every_state setup (journal_in book) state is.reached) made.may in
    subst (HasElement setup.net) (sym made.job_is) (claim_shown setup made.after.claims (number_of ticket) made.claim reached.claims_are made.claim_is)

pub ticket_shown
    : (n : PlainNet) (book : Book) (seat : ℕ) (answer : Claimed)
    → IsShown n book
    → InState book (λ state. AnswersClaim (setup_in book) state seat answer)
    → TellsElement n answer
ticket_shown n book seat answer is tells = subst (λ m. TellsElement m answer) is.net (ticket_told book seat answer is.kept tells)

-- the job of the open claim of a number, if there is one, has a binding element
kept_in : (setup : PlainSetup) (claims : List PlainClaim) (k : ℕ) (found : Option PlainClaim) → AllByRecursion (IsClaimOf setup) claims → slice_get claims k ≡ found → KeptHasElement setup.net (job_if_open setup found)
kept_in setup claims k None all at = tt
kept_in setup claims k (Some claim) all at = by_status (is_open claim.status)
  where
    by_status : (opened : Bool) → KeptHasElement setup.net (if opened then Some (claimed_job setup claim) else None)
    by_status true = claim_shown setup claims k claim all at
    by_status false = tt

-- so it is of the job that a stranger is answered with
stranger_shown : (book : Book) (is : IsBook book) (number : ℕ) (kept : Option PlainJob) → kept ≡ open_job (setup_in book) is.state number → KeptHasElement (setup_in book).net kept
stranger_shown book is number kept kept_is =
    let setup = setup_in book in
    let state = is.state in
    subst (KeptHasElement setup.net) (sym kept_is) (kept_in setup state.claims number (slice_get state.claims number) (every_state setup (journal_in book) state is.reached).claims_are refl)

kept_told
    : (book after : Book) (seat : ℕ) (done : Evaluated) (answer : Completed)
    → IsBook book
    → AnswersEvaluation book after seat done answer
    → KeepsElement (setup_in book).net answer
kept_told book after seat done completions.Done is tells = tt
kept_told book after seat done (completions.Void number) is tells = tt
kept_told book after seat done (completions.Stranger kept brought) is tells =
    let told = (tells is.state is.reached).2 in
    stranger_shown book is (evaluated_number done) (option_map (λ job. job_view job.value) kept) told.2.2

pub kept_shown
    : (n : PlainNet) (book after : Book) (seat : ℕ) (done : Evaluated) (answer : Completed)
    → IsShown n book
    → AnswersEvaluation book after seat done answer
    → KeepsElement n answer
kept_shown n book after seat done answer is tells = subst (λ m. KeepsElement m answer) is.net (kept_told book after seat done answer is.kept tells)

given_back_told
    : (book after : Book) (seat : ℕ) (ticket : Ticket) (answer : GivenBack)
    → IsBook book
    → AnswersTicket book after seat ticket answer
    → TicketKeepsElement (setup_in book).net answer
given_back_told book after seat ticket returns.Cut is tells = tt
given_back_told book after seat ticket (returns.Void number) is tells = tt
given_back_told book after seat ticket (returns.Stranger kept brought) is tells =
    let told = (tells is.state is.reached).2 in
    stranger_shown book is (number_of ticket) (option_map (λ job. job_view job.value) kept) told.2.2

pub given_back_shown
    : (n : PlainNet) (book after : Book) (seat : ℕ) (ticket : Ticket) (answer : GivenBack)
    → IsShown n book
    → AnswersTicket book after seat ticket answer
    → TicketKeepsElement n answer
given_back_shown n book after seat ticket answer is tells = subst (λ m. TicketKeepsElement m answer) is.net (given_back_told book after seat ticket answer is.kept tells)
