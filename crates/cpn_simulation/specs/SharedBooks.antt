-- Seats at which workers share a book. Source: own choice.
use Rattle.std.specs.Prelude.{List, Option}
use Rattle.std.specs.List.{AllByRecursion}
use Rattle.cpn_book.specs.Seen.{Seen, Later}
use Rattle.cpn_seats.specs.Seats.{IsSeatOf, seen_of}
use Rattle.cpn_seats.specs.declared.seats.Seat.{Seat}
use Rattle.cpn_seats.specs.declared.seats.SeatDesk.{SeatDesk}

-- the seats are of the desk
abbrev pub AreSeatsOf : SeatDesk → List Seat → Type 0
AreSeatsOf desk seats = AllByRecursion (λ seat. IsSeatOf desk seat) seats

-- each of the seats has seen what was seen before, and perhaps more
abbrev pub HaveSeen : Option Seen → List Seat → Type 0
HaveSeen before seats = AllByRecursion (λ seat. Later before (seen_of seat)) seats
