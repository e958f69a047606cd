-- What the steps of a book's calls keep, and what they change. Source: own choice.
use Rattle.std.specs.Prelude.{◌≡◌, ℕ, ◌<◌, ◌≤◌, true, List, ◌++◌, ◌∷◌, [], Some, None}
use Rattle.cpn_definitions.specs.Enabled.{next_time}
use Rattle.cpn_log.specs.Logs.{claims_made}
use Rattle.cpn_log.specs.LogViews.{log_view}
use Rattle.cpn_runs.specs.State.{PlainEvent, clock_moved}
use Rattle.cpn_book.specs.Standings.{StillCommitted}
use Rattle.cpn_book.specs.Books.{setup_in, journal_in, index_in, IsRunning}
use Rattle.cpn_book.specs.declared.books.Book.{Book}
use Rattle.cpn_book.specs.declared.answers.Advanced.{Advanced}
use Rattle.cpn_book.specs.declared.answers.Advanced.TheVariants as moves

-- A book that follows another: of the same run, its journal goes on from there, and what was committed stands.
pub record Follows (old new : Book) : Type 0 where
  pub setup : new.setup ≡ old.setup
  pub works : new.works ≡ old.works
  pub opening : new.opening ≡ old.opening
  pub spent : new.spent ≡ old.spent
  pub entered : new.entered ≡ old.entered
  pub more : List PlainEvent
  pub events : journal_in new ≡ journal_in old ++ more
  pub committed : StillCommitted (setup_in old) old.standing new.standing

-- A book like another but for its clock, its index and its journal.
pub record IsMovedFrom (old new : Book) : Type 0 where
  pub book : new ≡ record old { standing = new.standing; index = new.index }
  pub standing : new.standing ≡ record old.standing { clock = new.standing.clock; journal = new.standing.journal }

-- A book like another, but that it is spent, and for its index and its journal.
pub record IsSpentFrom (old new : Book) : Type 0 where
  pub book : new ≡ record old { spent = true; standing = new.standing; index = new.index }
  pub standing : new.standing ≡ record old.standing { journal = new.standing.journal }

-- a book like another, but for how many seat numbers were given
abbrev pub IsEnteredFrom : Book → Book → Type 0
IsEnteredFrom old new = new ≡ record old { entered = new.entered }

-- A run that goes on, where no claim is open: no cut stands, fewer claims were made than may be, and the next time is one that it may
-- reach.
pub record MayGoOn (book : Book) : Type 0 where
  pub uncut : book.standing.cut ≡ None
  pub below : claims_made (log_view book.standing.log) < book.setup.limits.steps
  pub time : ℕ
  pub next : next_time (index_in book) ≡ Some time
  pub in_time : time ≤ book.setup.limits.until

-- the answer where nothing is ready and no claim is open
abbrev pub Moves : Book → Book → Advanced → Type 0
Moves old new (moves.Moved time) =
    IsRunning new × IsMovedFrom old new × (journal_in new ≡ journal_in old ++ clock_moved time ∷ []) × (next_time (index_in old) ≡ Some time) × (time ≤ old.setup.limits.until)
Moves old new (moves.Until time) = (new ≡ old) × (next_time (index_in old) ≡ Some time) × (old.setup.limits.until < time)
Moves old new moves.Dead = (new ≡ old) × (next_time (index_in old) ≡ None)
Moves old new (moves.Open number) = ⊥
Moves old new moves.Ready = ⊥
Moves old new moves.StepLimit = ⊥
Moves old new moves.Over = ⊥
Moves old new moves.Spent = ⊥
