-- What is asked for of what is printed, so that each value has its text. Source: own choice.
use Rattle.std.specs.Prelude.{◌≡◌, ◌≤◌, ◌<◌, true, Option, Some, None}
use Rattle.std.specs.Option.{option_map}
use Rattle.cpn_definitions.specs.Named.{IsNamed}
use Rattle.cpn_definitions.specs.Net.{PlainNet}
use Rattle.cpn_definitions.specs.Sound.{IsSound}
use Rattle.cpn_definitions.specs.Times.{last_time}
use Rattle.cpn_jobs.specs.Views.{job_view}
use Rattle.cpn_jobs.specs.Work.{PlainJob}
use Rattle.cpn_runs.specs.Bounds.{most_steps}
use Rattle.cpn_runs.specs.Playable.{IsPlayable}
use Rattle.cpn_runs.specs.State.{PlainSetup, PlainLimits}
use Rattle.cpn_report.specs.Printable.{is_binding_element}
use Rattle.cpn_book.specs.Books.{setup_in, IsBook}
use Rattle.cpn_book.specs.Tickets.{job_of}
use Rattle.cpn_book.specs.declared.books.Book.{Book}
use Rattle.cpn_book.specs.declared.answers.Claimed.{Claimed}
use Rattle.cpn_book.specs.declared.answers.Claimed.TheVariants as claims
use Rattle.cpn_book.specs.declared.answers.Completed.{Completed}
use Rattle.cpn_book.specs.declared.answers.Completed.TheVariants as completions
use Rattle.cpn_book.specs.declared.answers.GivenBack.{GivenBack}
use Rattle.cpn_book.specs.declared.answers.GivenBack.TheVariants as returns

-- Limits within their ranges.
pub record AreLimits (limits : PlainLimits) : Type 0 where
  pub steps : limits.steps ≤ most_steps
  pub until : limits.until ≤ last_time
  pub some_seat : 0 < limits.seats
  pub few_seats : limits.seats ≤ 64

-- A setup that a run may start from, of a net that names what is printed.
pub record IsShownSetup (setup : PlainSetup) : Type 0 where
  pub playable : IsPlayable setup
  pub named : IsNamed setup.net

-- A book of the net, which names what is printed.
pub record IsShown (n : PlainNet) (book : Book) : Type 0 where
  pub kept : IsBook book
  pub net : (setup_in book).net ≡ n
  pub sound : IsSound n
  pub named : IsNamed n

-- the job is of a binding element
abbrev pub HasElement : PlainNet → PlainJob → Type 0
HasElement n job = is_binding_element n job.element ≡ true

-- a ticket in the answer is of a binding element
abbrev pub TellsElement : PlainNet → Claimed → Type 0
TellsElement n claims.Over = Unit {0}
TellsElement n claims.StepLimit = Unit {0}
TellsElement n (claims.Busy number) = Unit {0}
TellsElement n (claims.Nothing held) = Unit {0}
TellsElement n (claims.Ticket ticket) = HasElement n (job_of ticket)

-- the job that is kept, if there is one, is of a binding element
abbrev pub KeptHasElement : PlainNet → Option PlainJob → Type 0
KeptHasElement n None = Unit {0}
KeptHasElement n (Some job) = HasElement n job

-- the job that the answer to an evaluation keeps is so
abbrev pub KeepsElement : PlainNet → Completed → Type 0
KeepsElement n completions.Done = Unit {0}
KeepsElement n (completions.Void number) = Unit {0}
KeepsElement n (completions.Stranger kept brought) = KeptHasElement n (option_map (λ job. job_view job.value) kept)

-- the job that the answer to a ticket keeps is so
abbrev pub TicketKeepsElement : PlainNet → GivenBack → Type 0
TicketKeepsElement n returns.Cut = Unit {0}
TicketKeepsElement n (returns.Void number) = Unit {0}
TicketKeepsElement n (returns.Stranger kept brought) = KeptHasElement n (option_map (λ job. job_view job.value) kept)
