-- The rule of the table in which seats take turns at a book, and what each step tells the seat that makes it. Source: own choice.
use Rattle.std.specs.Prelude.{◌≡◌, ◌⊎◌, ℕ, zero, suc, ◌+◌, ◌%◌, ◌^◌, ◌<◌, ◌≤◌, ◌==◌, Bool, true, false, cond, List, [], ◌∷◌, ◌++◌, length, map, Option, Some, None}
use Rattle.std.specs.Option.{is_some}
use mathlib.Core.Option as core
use lib.ListN.{get_elem?}
use Rattle.atomic_table.specs.Table.{State, Me, Step}
use Rattle.cpn_runs.specs.State.{PlainSetup, PlainEvent}
use Rattle.cpn_runs.specs.Views.{event_view}
use Rattle.cpn_runs.specs.FinishedViews.{setup_view}
use Rattle.cpn_runs.specs.declared.runs.Setup.{Setup}
use Rattle.cpn_runs.specs.declared.events.Event.{Event}
use Rattle.cpn_book.specs.Books.{setup_in, journal_in, is_spent_in, entered_in, IsBook}
use Rattle.cpn_book.specs.declared.books.Book.{Book}
use Rattle.cpn_runs.specs.SeatEvents.{is_among, events_by, NoneBy, AllBy}
use Rattle.cpn_seats.specs.declared.views.View.{View}

-- ---- journals and numbers

-- the events of a book as the program keeps them
abbrev pub events_of : Book → List Event
events_of book = book.standing.journal.items

-- the journal that a list of these is
abbrev pub journal_told : List Event → List PlainEvent
journal_told events = map event_view events

-- no number stands twice in a list
abbrev pub AreDistinct : List ℕ → Type 0
AreDistinct [] = Unit {0}
AreDistinct (n ∷ ns) = (is_among n ns ≡ true → ⊥) × AreDistinct ns

-- a journal goes on from another one, by events of which no claim and no completion is by one of these seats
abbrev pub GoesOnFrom : List PlainEvent → List ℕ → List PlainEvent → Type 0
GoesOnFrom seen numbers journal = (others : List PlainEvent) × (journal ≡ seen ++ others) × NoneBy numbers others

-- the numbers of a list without the last one, and the last one
abbrev pub before_last : List ℕ → List ℕ
before_last [] = []
before_last (x ∷ []) = []
before_last (x ∷ y ∷ ys) = x ∷ before_last (y ∷ ys)

abbrev pub last_of : List ℕ → ℕ
last_of [] = 0
last_of (x ∷ []) = x
last_of (x ∷ y ∷ ys) = last_of (y ∷ ys)

-- the numbers below one, the greatest first
abbrev pub numbers_below : ℕ → List ℕ
numbers_below zero = []
numbers_below (suc n) = n ∷ numbers_below n

-- whether the first of two lists is not longer than the second
abbrev pub is_not_longer : List Event → List Event → Bool
is_not_longer [] ys = true
is_not_longer (x ∷ xs) [] = false
is_not_longer (x ∷ xs) (y ∷ ys) = is_not_longer xs ys

-- ---- views

-- the view of the first seat, which has entered the book: it has each number that was given, the last one first, and has seen the whole journal
abbrev pub first_view : Book → View
first_view book = record {
  setup = Some book.setup;
  numbers = numbers_below (entered_in book);
  seen = events_of book;
  met = events_of book;
  met_numbers = [];
  met_setup = None;
  given = entered_in book;
  spent = is_spent_in book;
  waits = false;
  turn = 0;
  holds = false;
  found = None;
}

-- the view of a seat that was joined away
abbrev pub no_view : View
no_view = record { setup = None; numbers = []; seen = []; met = []; met_numbers = []; met_setup = None; given = 0; spent = false; waits = false; turn = 0; holds = false; found = None }

-- a turn was drawn
abbrev pub with_turn : View → ℕ → View
with_turn v turn = record v { waits = true; turn = turn; holds = false; found = None }

-- the turn is served, and the slot is in the seat's hands, with this in it
abbrev pub holding : View → Book → View
holding v x = record v { waits = true; holds = true; found = Some x }

-- the turn is over, after which this lies in the slot, and these numbers are the seat's
abbrev pub after_turn : View → Book → List ℕ → View
after_turn v x numbers = record {
  setup = v.setup;
  numbers = numbers;
  seen = events_of x;
  met = events_of x;
  met_numbers = [];
  met_setup = None;
  given = entered_in x;
  spent = is_spent_in x;
  waits = false;
  turn = 0;
  holds = false;
  found = None;
}

-- the same view with other numbers
abbrev pub with_numbers : View → List ℕ → View
with_numbers v numbers = record v { numbers = numbers; met_numbers = []; met_setup = None }

-- a split: the new seat has the last number, the old one those before it
abbrev pub left_of : View → View
left_of v = with_numbers v (before_last v.numbers)

abbrev pub right_of : View → View
right_of v = with_numbers v (last_of v.numbers ∷ [])

-- a join: the seat has seen what the one saw that saw more, and the numbers of both; what the other one saw is kept beside it
abbrev pub both_of : View → View → View
both_of v w = record v {
  numbers = v.numbers ++ w.numbers;
  seen = cond (is_not_longer w.seen v.seen) v.seen w.seen;
  met = cond (is_not_longer w.seen v.seen) w.seen v.seen;
  met_numbers = cond (is_not_longer w.seen v.seen) w.numbers v.numbers;
  met_setup = w.setup;
}

-- it was told that what the other one saw is a part of what the seat has seen, of the same run
abbrev pub after_meeting : View → View
after_meeting v = record v { met = v.seen; met_numbers = []; met_setup = None }

-- ---- the rule

-- f of each view, added up
abbrev pub total : (View → ℕ) → List View → ℕ
total f [] = 0
total f (v ∷ vs) = f v + total f vs

abbrev pub one_if : Bool → ℕ
one_if b = cond b 1 0

-- a view counts as one turn that is out, where it has one
abbrev pub turns_out : View → ℕ
turns_out v = one_if v.waits

-- how many numbers a view has
abbrev pub numbers_out : View → ℕ
numbers_out v = length v.numbers

-- What the rule says of one view, where `home` is the book that was last put back into the slot: its turn is not yet served or is the one served, and
-- where it holds the slot it has found `home`; the journal at home goes on from what it has seen, and from what it has met; its numbers were
-- given, each once; what it has noted of the book still holds.
pub record Fits (drawn served : ℕ) (setup : PlainSetup) (home : Book) (v : View) : Type 0 where
  pub turn : v.waits ≡ true → (served ≤ v.turn) × (v.turn < drawn)
  pub holding : v.holds ≡ true → (v.waits ≡ true) × (v.turn ≡ served) × (v.found ≡ Some home)
  pub some_number : v.waits ≡ true → 0 < length v.numbers
  pub behind : GoesOnFrom (journal_told v.seen) v.numbers (journal_in home)
  pub met : GoesOnFrom (journal_told v.met) v.met_numbers (journal_in home)
  pub met_own : (n : ℕ) → is_among n v.met_numbers ≡ true → is_among n v.numbers ≡ true
  pub below : (n : ℕ) → is_among n v.numbers ≡ true → n < entered_in home
  pub distinct : AreDistinct v.numbers
  pub given : v.given ≤ entered_in home
  pub spent : v.spent ≡ true → is_spent_in home ≡ true
  pub setup_is : (s : Setup) → v.setup ≡ Some s → setup_view s ≡ setup
  pub met_setup_is : (s : Setup) → v.met_setup ≡ Some s → setup_view s ≡ setup

-- Two views have no turn and no number in common.
pub record Apart (v w : View) : Type 0 where
  pub turns : v.waits ≡ true → w.waits ≡ true → v.turn ≡ w.turn → ⊥
  pub numbers : (n : ℕ) → is_among n v.numbers ≡ true → is_among n w.numbers ≡ true → ⊥

-- what the slot has: nothing only once the desk was closed
abbrev pub Slot : Type 0
Slot = Option Book

-- the slot is at home, or in the hands of a seat whose turn is served
abbrev pub AtHome : Book → List (core.Option Slot) → List View → Type 0
AtHome home homes views = (homes ≡ core.some (Some home) ∷ []) ⊎ ((homes ≡ core.none ∷ []) × (seat : ℕ) × (v : View) × (get_elem? views seat ≡ core.some v) × (v.holds ≡ true))

-- The rule. The first two words count turns modulo 2^64; the rule says nothing of the others, which only count. Each turn from the one served to
-- below the one drawn is one view's. What lies at home is a book of the desk's setup; each number that it gave is one view's, and no claim and no
-- completion is by one that is not given.
pub record KeepsTurns (setup : PlainSetup) (s : State Slot View) : Type 0 where
  pub drawn : ℕ
  pub served : ℕ
  pub counts : List ℕ
  pub home : Book
  pub words : s.words ≡ drawn % 2 ^ 64 ∷ served % 2 ^ 64 ∷ counts
  pub out : total turns_out s.views + served ≡ drawn
  pub wide : total numbers_out s.views ≡ entered_in home
  pub few : setup.limits.seats ≤ 64
  pub setup_is : setup_in home ≡ setup
  pub is_book : IsBook home
  pub known : (n : ℕ) → entered_in home ≤ n → events_by n (journal_in home) ≡ []
  pub at_home : AtHome home s.homes s.views
  pub fits : (i : ℕ) (v : View) → get_elem? s.views i ≡ core.some v → Fits drawn served setup home v
  pub apart : (i j : ℕ) (v w : View) → get_elem? s.views i ≡ core.some v → get_elem? s.views j ≡ core.some w → (i ≡ j → ⊥) → Apart v w

-- A book with which a desk may be opened: a seat number is left, and no claim and no completion is by one that is left.
pub record Opens (book : Book) : Type 0 where
  pub is_book : IsBook book
  pub room : entered_in book < (setup_in book).limits.seats
  pub known : (n : ℕ) → entered_in book ≤ n → events_by n (journal_in book) ≡ []

-- ---- what a step tells

-- a seat's view and what it has in its hands
abbrev Own : Type 0
Own = Me Slot View

abbrev At : Type 0
At = Step Slot

-- a turn is drawn
abbrev pub Draws : At → Own → ℕ → Own → Type 0
Draws at m n m' = (turn : ℕ) × (n ≡ turn % 2 ^ 64) × (m' ≡ (with_turn m.0 turn, []))

-- What a seat finds in the slot when its turn is served.
pub record Finds (v : View) (x : Book) : Type 0 where
  pub is_book : IsBook x
  pub setup_is : (s : Setup) → v.setup ≡ Some s → setup_in x ≡ setup_view s
  pub behind : GoesOnFrom (journal_told v.seen) v.numbers (journal_in x)
  pub below : (n : ℕ) → is_among n v.numbers ≡ true → n < entered_in x
  pub spent : v.spent ≡ true → is_spent_in x ≡ true
  pub given : v.given ≤ entered_in x
  pub known : (n : ℕ) → entered_in x ≤ n → events_by n (journal_in x) ≡ []

-- it is looked whether the turn is served, and then the slot is in the seat's hands
abbrev pub Looked : Bool → Own → Own → Type 0
Looked true m m' = (x : Book) × (m' ≡ (holding m.0 x, (0, Some x) ∷ [])) × Finds m.0 x
Looked false m m' = m' ≡ m

abbrev pub Looks : At → Own → ℕ → Own → Type 0
Looks at m n m' = Looked (n == m.0.turn % 2 ^ 64) m m'

-- What a call of a seat makes of the book: events more, of which each claim and completion is by the seat.
pub record Made (number : ℕ) (old new : Book) : Type 0 where
  pub is_book : IsBook new
  pub setup : setup_in new ≡ setup_in old
  pub events : List PlainEvent
  pub journal : journal_in new ≡ journal_in old ++ events
  pub own : AllBy number events
  pub spent : is_spent_in old ≡ true → is_spent_in new ≡ true

-- What a seat may put back that acts under a number: what a call of its own made of the book that it found, with so many numbers more given.
pub record PutBack (v : View) (number : ℕ) (more : ℕ) (y : Book) : Type 0 where
  pub holds : v.holds ≡ true
  pub x : Book
  pub found : v.found ≡ Some x
  pub made : Made number x y
  pub among : is_among number v.numbers ≡ true
  pub given : entered_in y ≡ entered_in x + more

abbrev pub IsPutBack : Me Slot View → ℕ → ℕ → Type 0
IsPutBack m number more = (y : Book) × (m.1 ≡ (0, Some y) ∷ []) × PutBack m.0 number more y

-- the next turn is served: the slot goes home as it is now, and these numbers are the seat's
abbrev pub ServedOne : View → List ℕ → Slot → Own → Type 0
ServedOne v numbers None m' = Unit {0}
ServedOne v numbers (Some y) m' = m' ≡ (after_turn v y numbers, [])

abbrev pub ServedWith : View → List ℕ → List (ℕ × Slot) → Own → Type 0
ServedWith v numbers [] m' = Unit {0}
ServedWith v numbers (x ∷ xs) m' = ServedOne v numbers x.1 m'

abbrev pub Serves : At → Own → ℕ → Own → Type 0
Serves at m n m' = ServedWith m.0 m.0.numbers m.1 m'

-- the number that was given next, by what was found
abbrev pub number_given : Option Book → ℕ
number_given None = 0
number_given (Some x) = entered_in x

-- the numbers of a seat to which one more was given
abbrev pub more_numbers : View → List ℕ
more_numbers v = v.numbers ++ number_given v.found ∷ []

-- the next turn is served, with one number more, which is the seat's
abbrev pub ServesMore : At → Own → ℕ → Own → Type 0
ServesMore at m n m' = ServedWith m.0 (more_numbers m.0) m.1 m'

-- What a join tells by the load after it: both are of one setup, what the one saw that saw less is a part of what the seat has seen, what came
-- since is by none of its numbers, and no number stands twice.
pub record Met (v : View) : Type 0 where
  pub setup : (s t : Setup) → v.setup ≡ Some s → v.met_setup ≡ Some t → setup_view t ≡ setup_view s
  pub more : GoesOnFrom (journal_told v.met) v.met_numbers (journal_told v.seen)
  pub distinct : AreDistinct v.numbers

abbrev pub Meets : At → Own → ℕ → Own → Type 0
Meets at m n m' = (m' ≡ (after_meeting m.0, [])) × Met m.0

-- a word of which the rule says nothing counts: no view changes
abbrev pub Counts : At → Own → ℕ → Own → Type 0
Counts at m n m' = m' ≡ m

-- ---- a seat between two calls

-- It has no turn and nothing in its hands, acts under a number of its own, and was not joined away.
pub record IsAtRest (m : Me Slot View) (number : ℕ) : Type 0 where
  pub empty : m.1 ≡ []
  pub idle : m.0.waits ≡ false
  pub among : is_among number m.0.numbers ≡ true
  pub here : is_some m.0.setup ≡ true
