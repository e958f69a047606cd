-- What a book stands for, and what it keeps true. Source: own choice.
use Rattle.std.specs.Prelude.{◌≡◌, ℕ, ◌<◌, ◌≤◌, Bool, false, List, [], map, vec_len, vec_capacity}
use Rattle.cpn_definitions.specs.Enabled.{PlainEntry, ready}
use Rattle.cpn_index.specs.Index.{clock_in, listed_in, IsIndexOf}
use Rattle.cpn_jobs.specs.Views.{work_view}
use Rattle.cpn_jobs.specs.Work.{PlainWork}
use Rattle.cpn_log.specs.LogViews.{log_view}
use Rattle.cpn_monitor.specs.Kept.{values_until}
use Rattle.cpn_monitor.specs.Views.{measuring_view}
use Rattle.cpn_runs.specs.Playable.{IsPlayable}
use Rattle.cpn_runs.specs.Run.{HasOutlook, PlainFinished}
use Rattle.cpn_definitions.specs.Legal.{PlainOccurrence}
use Rattle.cpn_runs.specs.State.{PlainSetup, PlainEvent, PlainState, PlainEnd, IsState}
use Rattle.cpn_runs.specs.FinishedViews.{setup_view, outlook_view}
use Rattle.cpn_book.specs.Standings.{events_in, occurrences_in, IsAt, HasCommitted}
use Rattle.cpn_book.specs.Works.{AreWorks}
use Rattle.cpn_book.specs.Shown.{outlook_at}
use Rattle.cpn_book.specs.declared.books.Book.{Book}

-- the setup that the book's run starts from
abbrev pub setup_in : Book → PlainSetup
setup_in book = setup_view book.setup

-- its events so far
abbrev pub journal_in : Book → List PlainEvent
journal_in book = events_in book.standing

-- what its index has as enabled, from its clock on
abbrev pub index_in : Book → List PlainEntry
index_in book = listed_in book.index

-- its committed occurrences
abbrev pub committed_in : Book → List PlainOccurrence
committed_in book = occurrences_in book.standing

-- the works that it keeps
abbrev pub works_in : Book → List PlainWork
works_in book = map (λ work. work_view work.value) book.works.items

-- whether an earlier call wanted memory
abbrev pub is_spent_in : Book → Bool
is_spent_in book = book.spent

-- how many seat numbers were given
abbrev pub entered_in : Book → ℕ
entered_in book = book.entered

-- it holds of the state that the book's journal leads to
abbrev pub InState : Book → (PlainState → Type 0) → Type 0
InState book P = (state : PlainState) → IsState (setup_in book) (journal_in book) state → P state

-- A book that is not spent: its run stands where the journal leads, its index is that of the net and the unclaimed marking, at the clock,
-- and where nothing is ready there is room for the move of the clock.
pub record IsRunning (book : Book) : Type 0 where
  pub at : IsAt (setup_in book) book.standing
  pub index : IsIndexOf (setup_in book).net (log_view book.standing.log).unclaimed book.index
  pub clock : clock_in book.index ≡ book.standing.clock
  pub room : ready book.standing.clock (index_in book) ≡ [] → vec_len book.standing.journal < vec_capacity book.standing.journal

-- A book: from a setup that a run may start from, with the work of each transition and the outlook at the start. Its journal leads to
-- a state, and what was committed stands, also where the book is spent. No more seat numbers were given than the run has seats.
pub record IsBook (book : Book) : Type 0 where
  pub playable : IsPlayable (setup_in book)
  pub works : AreWorks (setup_in book).net (works_in book)
  pub opening : HasOutlook (setup_in book) (setup_in book).start (setup_in book).clock (outlook_view book.opening)
  pub state : PlainState
  pub reached : IsState (setup_in book) (journal_in book) state
  pub committed : HasCommitted (setup_in book) book.standing
  pub running : is_spent_in book ≡ false → IsRunning book
  pub entered : entered_in book ≤ (setup_in book).limits.seats

-- what the book shows where its run ends by a cause
abbrev pub shown : Book → PlainEnd → PlainFinished
shown book cause = record {
  opening = outlook_view book.opening;
  journal = journal_in book;
  occurrences = committed_in book;
  marking = (log_view book.standing.log).unclaimed;
  clock = book.standing.clock;
  cause = cause;
  closing = outlook_at (clock_in book.index) (index_in book);
  values = values_until book.standing.clock (measuring_view book.standing.measuring).values;
}
