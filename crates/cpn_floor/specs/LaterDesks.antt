-- What a desk is after calls of its own. Source: own choice.
use Rattle.std.specs.Prelude.{◌≡◌, ℕ, List, Option}
use Rattle.cpn_book.specs.Desks.{BookName}
use Rattle.cpn_book.specs.Seen.{Seen, Later}

-- A desk after calls of its own: it has the seat numbers, the seat and the book that it had, has seen what it had seen and perhaps more, and what
-- holds of a desk between calls holds of it.
pub record IsLaterDesk {D : Type 0} (seen : D → Option Seen) (numbers : D → List ℕ) (seat : D → ℕ) (book : D → BookName) (Keeps : D → Type 0) (old new : D) : Type 0 where
  pub later : Later (seen old) (seen new)
  pub same_numbers : numbers new ≡ numbers old
  pub same_seat : seat new ≡ seat old
  pub same_book : book new ≡ book old
  pub keeps : Keeps new
