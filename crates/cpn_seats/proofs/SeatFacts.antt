-- Facts about a seat from those about its token.
use Rattle.std.proofs.Common.{◌≡◌, ℕ, ◌≤◌, true, List, Option, Some, None, refl, ap, sym, ◌∙◌, subst}
use Rattle.std.specs.Option.{is_some, option_map}
use Rattle.atomic_table.specs.Table.{Me}
use Rattle.atomic_table.specs.Seated.{TableId}
use Rattle.cpn_runs.specs.FinishedViews.{setup_view}
use Rattle.cpn_runs.specs.declared.runs.Setup.{Setup}
use Rattle.cpn_book.specs.Seen.{IfSeen}
use Rattle.cpn_seats.specs.declared.seats.Seat.{Seat}
use Rattle.cpn_seats.specs.declared.views.View.{View}
use Rattle.cpn_seats.specs.Joins.{AreJoined, IsJoined}
use Rattle.cpn_seats.specs.SeenViews.{seen_by}
use Rattle.cpn_seats.specs.HeldClaims.{KeepsHeld}
use Rattle.cpn_seats.specs.Seats.{IsSameSeat, table_of, number_of_seat, numbers_of, journal_of, setup_of, seen_of, given_of}
use Rattle.cpn_seats.specs.Turns.{Slot, AreDistinct, GoesOnFrom, IsAtRest}
use Rattle.cpn_seats.proofs.HeldClaims.{kept_by}
use Rattle.cpn_seats.proofs.Numbers.{distinct_apart}
use Rattle.cpn_seats.specs.Splits.{IsTokenSplitOff, IsSplitOff}

pub same_seat : (old new : Seat) → table_of new ≡ table_of old → number_of_seat new ≡ number_of_seat old → numbers_of new ≡ numbers_of old → given_of old ≤ given_of new → IsSameSeat old new
same_seat old new table number numbers given = record { table = table; number = number; numbers = numbers; given = given }

-- what is as it was is at rest still
pub still_at_rest : (old new : Me Slot View) (number : ℕ) → new ≡ old → IsAtRest old number → IsAtRest new number
still_at_rest old new number same rest = subst (λ (m : Me Slot View). IsAtRest m number) (sym same) rest

pub split_off : (place : TableId) (seat other : Seat) → table_of seat ≡ place → IsTokenSplitOff place seat.token.me other.token other.number → IsSplitOff seat other
split_off place seat other at s = record {
  table = s.table ∙ sym at;
  numbers = ap (λ (v : View). v.numbers) s.view_is;
  seen = ap (λ (v : View). seen_by v) s.view_is;
  spent = ap (λ (v : View). v.spent) s.view_is;
  given = ap (λ (v : View). v.given) s.view_is;
  last_given = s.last_given;
  fresh = s.fresh;
  no_event = s.no_event;
  room = s.room;
}

one_setup : (a b : Option Setup) → is_some a ≡ true → is_some b ≡ true → ((s t : Setup) → a ≡ Some s → b ≡ Some t → setup_view t ≡ setup_view s) → option_map setup_view a ≡ option_map setup_view b
one_setup None b here there same = absurd (cc)
one_setup (Some s) None here there same = absurd (cc)
one_setup (Some s) (Some t) here there same = ap Some (sym (same s t refl refl))

pub joined_seat : (seat other new : Seat) → AreJoined seat.token.me.0 other.token.me.0 new.token.me.0 → IsJoined seat other new
joined_seat seat other new j = record {
  setup = ap (λ s. option_map setup_view s) j.setup;
  other_setup = one_setup new.token.me.0.setup other.token.me.0.setup new.at_rest.here other.at_rest.here j.other_setup;
  numbers = j.numbers;
  apart = distinct_apart (numbers_of seat) (numbers_of other) (subst AreDistinct j.numbers j.distinct);
  distinct = j.distinct;
  own_seen = j.own_seen;
  other_seen = j.other_seen;
  given = j.given;
  spent = j.spent;
}

-- what was held under a seat's numbers is held by a seat that has seen more, by none of them
pub held_still : (old new : Seat) (numbers : List ℕ) → setup_of new ≡ setup_of old → GoesOnFrom (journal_of old) numbers (journal_of new) → IfSeen (seen_of old) (seen_of new) (KeepsHeld numbers)
held_still old new numbers setup goes = kept_by old.token.me.0 new.token.me.0 numbers setup goes

pub own_held : (seat other new : Seat) → IsJoined seat other new → IfSeen (seen_of seat) (seen_of new) (KeepsHeld (numbers_of seat))
own_held seat other new j = held_still seat new (numbers_of seat) j.setup j.own_seen

pub other_held : (seat other new : Seat) → IsJoined seat other new → IfSeen (seen_of other) (seen_of new) (KeepsHeld (numbers_of other))
other_held seat other new j = held_still other new (numbers_of other) j.other_setup j.other_seen
