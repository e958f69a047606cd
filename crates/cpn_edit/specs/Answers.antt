-- How the calls on a session answer.
use Rattle.std.specs.Prelude.{◌≡◌, ℕ, List, [], ◌∷◌, Option, Some, None}
use Rattle.cpn_book.specs.Books.{setup_in}
use Rattle.cpn_book.specs.declared.books.Book.{Book}
use Rattle.cpn_definitions.specs.Marking.{Marking}
use Rattle.cpn_document.specs.declared.document.Start.{Start}
use Rattle.cpn_edit_texts.specs.Edits.{EditedPhase}
use Rattle.cpn_edit.specs.Sessions.{PlainSession, after_phase, setup_of, StartsAt}
use Rattle.cpn_edit.specs.Standing.{Stands, IsBetween}
use Rattle.cpn_edit.specs.declared.sessions.Session.{Session}
use Rattle.cpn_edit.specs.declared.sessions.Between.{Between}

-- The next phase is taken, and its start is answered; where none is left there is no answer, and the session stands as it did.
abbrev pub TakesPhase : PlainSession → Option Start → Session → Type 0
TakesPhase s None session = (s.phases ≡ []) × Stands s session
TakesPhase s (Some start) session = (phase : EditedPhase) × (left : List EditedPhase) × (s.phases ≡ phase ∷ left) × (start ≡ phase.start) × Stands (after_phase s phase left) session

-- A run is begun: a book of its setup, in which nothing has happened yet.
pub record Begins (s : PlainSession) (from : Start) (between : Between) (book : Book) : Type 0 where
  pub start : Marking
  pub clock : ℕ
  pub starts_at : StartsAt s from start clock
  pub setup_is : setup_in book ≡ setup_of s start clock
  pub stands : IsBetween s between
