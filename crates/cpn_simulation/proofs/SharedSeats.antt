-- The seats at which workers share a book: what they have seen after a call, one more of them, one less, and all of them after a crew has worked.
use Rattle.std.proofs.Common.{◌≡◌, ℕ, suc, ◌<◌, Bool, List, [], ◌∷◌, ◌++◌, length, map, Option, Some, None, slice_index_or, refl, sym, ◌∙◌, subst, arith}
use Rattle.std.specs.List.{AllByRecursion}
use Rattle.std.specs.Option.{option_map}
use Rattle.std.proofs.lemmas.List.{map-append}
use Rattle.std.proofs.lemmas.Option.{same_Some}
use Rattle.cpn_book.specs.Seen.{Seen, IsLater, IfSeen, Later, SeesCall}
use Rattle.cpn_book.proofs.LaterRuns.{later_trans}
use Rattle.cpn_book.proofs.SeatCalls.{is_later}
use Rattle.cpn_definitions.proofs.ListItems.{all_parts}
use Rattle.cpn_definitions.proofs.RisingLists.{each_appended}
use Rattle.cpn_floor.specs.LaterDesks.{IsLaterDesk}
use Rattle.cpn_runs.specs.FinishedViews.{setup_view}
use Rattle.cpn_runs.specs.State.{PlainEvent}
use Rattle.cpn_runs.specs.declared.runs.Setup.{Setup}
use Rattle.cpn_seats.specs.Joins.{IsJoined}
use Rattle.cpn_seats.specs.Seats.{table_of, book_name_of, journal_of, spent_of, IsSeatOf, seen_of}
use Rattle.cpn_seats.specs.declared.seats.Seat.{Seat}
use Rattle.cpn_seats.specs.declared.seats.SeatDesk.{SeatDesk}
use Rattle.cpn_simulation.specs.SharedBooks.{AreSeatsOf, HaveSeen}

-- ---- what a seat has seen after a call

-- after it looked on
pub looked_later : (numbers : List ℕ) (old new : Option Seen) → IfSeen old new (SeesCall numbers []) → Later old new
looked_later numbers None new looks = tt
looked_later numbers (Some seen) new looks = (looks.0, looks.1, is_later numbers seen looks.0 [] looks.2)

-- after it took in another one: of the same setup it has seen a longer journal
after_joining : (o n : Option Setup) (old new more : List PlainEvent) (spent now : Bool) → option_map setup_view n ≡ option_map setup_view o → new ≡ old ++ more → now ≡ spent
    → Later (option_map (λ setup. record { setup = setup_view setup; journal = old; spent = spent }) o) (option_map (λ setup. record { setup = setup_view setup; journal = new; spent = now }) n)
after_joining None n old new more spent now same is still = tt
after_joining (Some s) None old new more spent now same is still = cc
after_joining (Some s) (Some t) old new more spent now same is still =
    (record { setup = setup_view t; journal = new; spent = now }, refl, record { setup = same_Some (setup_view t) (setup_view s) same; more = more; journal = is; spent = λ was. still ∙ was })

pub joined_later : (seat other new : Seat) → IsJoined seat other new → Later (seen_of seat) (seen_of new)
joined_later seat other new j =
    after_joining seat.token.me.0.setup new.token.me.0.setup (journal_of seat) (journal_of new) j.own_seen.0 (spent_of seat) (spent_of new) j.setup j.own_seen.1 j.spent

-- seats that act on the same book are of one table
one_table : (seat other : Seat) → book_name_of other ≡ book_name_of seat → table_of other ≡ table_of seat
one_table seat other same = cc

-- ---- things that have a seat each

module _ {A : Type 0} (seat_of : A → Seat) where
  -- with one more
  pub all_with_last : (P : Seat → Type 0) (xs ys : List A) (x : A) → ys ≡ xs ++ x ∷ [] → AllByRecursion P (map seat_of xs) → P (seat_of x) → AllByRecursion P (map seat_of ys)
  all_with_last P xs ys x is all last =
      subst (λ (zs : List A). AllByRecursion P (map seat_of zs)) (sym is)
      (subst (AllByRecursion P) (sym (map-append seat_of xs (x ∷ []))) (each_appended P (map seat_of xs) (seat_of x ∷ []) all (last, tt)))

  -- the others, and the last one
  pub all_but_last : (P : Seat → Type 0) (xs ys : List A) (x : A) → ys ≡ xs ++ x ∷ [] → AllByRecursion P (map seat_of ys) → AllByRecursion P (map seat_of xs) × P (seat_of x)
  all_but_last P xs ys x is all =
      let both = all_parts P (map seat_of xs) (seat_of x ∷ []) (subst (AllByRecursion P) (map-append seat_of xs (x ∷ [])) (subst (λ (zs : List A). AllByRecursion P (map seat_of zs)) is all)) in
      (both.0, both.1.0)

  -- after something that is known of each
  pub all_after
      : (P Q : Seat → Type 0) (Change : A → A → Type 0) → ((x y : A) → Change x y → P (seat_of x) → Q (seat_of y))
      → (xs ys : List A) → length ys ≡ length xs → ((k : ℕ) (d : A) → k < length xs → Change (slice_index_or xs k d) (slice_index_or ys k d))
      → AllByRecursion P (map seat_of xs) → AllByRecursion Q (map seat_of ys)
  all_after P Q Change step [] [] long each all = tt
  all_after P Q Change step [] (y ∷ ys) long each all = cc
  all_after P Q Change step (x ∷ xs) [] long each all = cc
  all_after P Q Change step (x ∷ xs) (y ∷ ys) long each all =
      (step x y (each 0 x (omega arith)) all.0, all_after P Q Change step xs ys (omega (arith, long)) (λ k d lt. each (suc k) d (omega (arith, lt))) all.1)

-- ---- desks of a crew

-- what is known of seats holds of those that a crew leaves, where it holds of each seat at the same table that has seen what one had seen
module _ {A : Type 0} (seat_of : A → Seat) (numbers : A → List ℕ) (number : A → ℕ) (Keeps : A → Type 0) where
  abbrev Worked : A → A → Type 0
  Worked x y = IsLaterDesk (λ a. seen_of (seat_of a)) numbers number (λ a. book_name_of (seat_of a)) Keeps x y

  pub at_desk_still : (desk : SeatDesk) (xs ys : List A) → length ys ≡ length xs → ((k : ℕ) (d : A) → k < length xs → Worked (slice_index_or xs k d) (slice_index_or ys k d))
      → AreSeatsOf desk (map seat_of xs) → AreSeatsOf desk (map seat_of ys)
  at_desk_still desk = all_after seat_of (IsSeatOf desk) (IsSeatOf desk) Worked (λ x y worked at. one_table (seat_of x) (seat_of y) worked.same_book ∙ at)

  pub have_seen_still : (before : Option Seen) (xs ys : List A) → length ys ≡ length xs → ((k : ℕ) (d : A) → k < length xs → Worked (slice_index_or xs k d) (slice_index_or ys k d))
      → HaveSeen before (map seat_of xs) → HaveSeen before (map seat_of ys)
  have_seen_still before = all_after seat_of (λ s. Later before (seen_of s)) (λ s. Later before (seen_of s)) Worked (λ x y worked seen. later_trans before (seen_of (seat_of x)) (seen_of (seat_of y)) seen worked.later)

-- ---- a book that goes on

pub goes_on : (old new : Seen) → Later (Some old) (Some new) → IsLater old new
goes_on old new later = subst (IsLater old) (sym (same_Some new later.0 later.1)) later.2
