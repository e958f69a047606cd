-- What a join tells. Source: own choice.
use Rattle.std.specs.Prelude.{◌≡◌, ℕ, ◌++◌, true, Some}
use Rattle.cpn_runs.specs.FinishedViews.{setup_view}
use Rattle.cpn_runs.specs.SeatEvents.{is_among}
use Rattle.cpn_runs.specs.declared.runs.Setup.{Setup}
use Rattle.cpn_seats.specs.declared.seats.Seat.{Seat}
use Rattle.cpn_seats.specs.declared.views.View.{View}
use Rattle.cpn_seats.specs.Seats.{numbers_of, journal_of, setup_of, spent_of, given_of}
use Rattle.cpn_seats.specs.Turns.{journal_told, AreDistinct, GoesOnFrom}

-- The view after a join, of two views.
pub record AreJoined (v w new : View) : Type 0 where
  pub setup : new.setup ≡ v.setup
  pub other_setup : (s t : Setup) → new.setup ≡ Some s → w.setup ≡ Some t → setup_view t ≡ setup_view s
  pub numbers : new.numbers ≡ v.numbers ++ w.numbers
  pub distinct : AreDistinct new.numbers
  pub own_seen : GoesOnFrom (journal_told v.seen) v.numbers (journal_told new.seen)
  pub other_seen : GoesOnFrom (journal_told w.seen) w.numbers (journal_told new.seen)
  pub given : new.given ≡ v.given
  pub spent : new.spent ≡ v.spent

-- A seat into which another one was joined: both are of one run; its numbers are its own, then the other's, none of them twice, and no number of
-- the one was the other's. What each of the two had seen is the first part of what it has seen, and in the rest no claim and no completion is by a
-- number that was that one's.
pub record IsJoined (seat other new : Seat) : Type 0 where
  pub setup : setup_of new ≡ setup_of seat
  pub other_setup : setup_of new ≡ setup_of other
  pub numbers : numbers_of new ≡ numbers_of seat ++ numbers_of other
  pub apart : (n : ℕ) → is_among n (numbers_of seat) ≡ true → is_among n (numbers_of other) ≡ true → ⊥
  pub distinct : AreDistinct (numbers_of new)
  pub own_seen : GoesOnFrom (journal_of seat) (numbers_of seat) (journal_of new)
  pub other_seen : GoesOnFrom (journal_of other) (numbers_of other) (journal_of new)
  pub given : given_of new ≡ given_of seat
  pub spent : spent_of new ≡ spent_of seat
