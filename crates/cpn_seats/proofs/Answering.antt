-- What a call of a seat tells, from what the seat found in the slot and what it put back.
use Rattle.std.proofs.Common.{◌≡◌, ℕ, suc, ◌+◌, ◌<◌, ◌≤◌, true, List, [], ◌∷◌, ◌++◌, Option, Some, None, Result, Ok, Err, IfOk, OnErr, refl, sym, ap, ◌∙◌, subst, arith, append-nil}
use Rattle.std.specs.Option.{is_some, option_map}
use Rattle.atomic_table.specs.Table.{Me}
use Rattle.cpn_memory.specs.declared.memory_wanted.Memory.{Memory}
use Rattle.cpn_runs.specs.State.{PlainSetup, PlainEvent}
use Rattle.cpn_runs.specs.FinishedViews.{setup_view}
use Rattle.cpn_runs.specs.declared.runs.Setup.{Setup}
use Rattle.cpn_book.specs.Books.{setup_in, journal_in, is_spent_in, entered_in, IsBook}
use Rattle.cpn_book.specs.declared.books.Book.{Book}
use Rattle.cpn_book.specs.Steps.{IsEnteredFrom}
use Rattle.cpn_runs.specs.SeatEvents.{is_among, events_by}
use Rattle.cpn_book.specs.Seen.{Seen, seen_in, IfSeen, Later, Makes}
use Rattle.cpn_book.proofs.SeatCalls.{Comes}
use Rattle.cpn_seats.specs.declared.views.View.{View}
use Rattle.cpn_seats.specs.SeenViews.{seen_by}
use Rattle.cpn_seats.specs.Turns.{Slot, numbers_below, first_view, journal_told, with_turn, holding, after_turn, Looked, Finds, IsPutBack, ServedWith, IsAtRest, more_numbers, left_of, right_of}
use Rattle.cpn_seats.proofs.Numbers.{before_last-push, last_of-push, has_first}

-- the turn has come: the book is at hand, which goes on from what was seen
pub record Holds (v : View) (m : Me Slot View) (y : Book) : Type 0 where
  pub turn : ℕ
  pub view_is : m.0 ≡ holding (with_turn v turn) y
  pub finds : Finds v y

abbrev value_or : {A : Type 0} → A → Option A → A
value_or d None = d
value_or d (Some x) = x

abbrev first_or : {A : Type 0} → A → List (ℕ × Option A) → A
first_or d [] = d
first_or d (z ∷ zs) = value_or d z.1

the_same : {A : Type 0} (x y : A) (l : List (ℕ × Option A)) → l ≡ (0, Some x) ∷ [] → l ≡ (0, Some y) ∷ [] → x ≡ y
the_same x y l e f = ap (first_or x) (sym e ∙ f)

pub holds : (v : View) (m : Me Slot View) (y : Book) (h : (turn : ℕ) × Looked true (with_turn v turn, []) m) → m.1 ≡ (0, Some y) ∷ [] → Holds v m y
holds v m y h taken =
    let x = h.1.0 in
    let is = h.1.1 in
    let f = h.1.2 in
    let same : x ≡ y = the_same x y m.1 (ap (λ (k : Me Slot View). k.1) is) taken in
    record {
      turn = h.0;
      view_is = ap (λ (k : Me Slot View). k.0) is ∙ ap (λ (z : Book). holding (with_turn v h.0) z) same;
      finds = subst (λ (z : Book). Finds v z) same (record { is_book = f.is_book; setup_is = f.setup_is; behind = f.behind; below = f.below; spent = f.spent; given = f.given; known = f.known });
    }

pub held_some : (v : View) (m : Me Slot View) → ((turn : ℕ) × Looked true (with_turn v turn, []) m) → (x : Book) × (m.1 ≡ (0, Some x) ∷ [])
held_some v m h = (h.1.0, ap (λ (k : Me Slot View). k.1) h.1.1)

pub seat_known : (v : View) (y : Book) (number : ℕ) → Finds v y → is_among number v.numbers ≡ true → number < (setup_in y).limits.seats
seat_known v y number f is = let a = f.below number is in let b = f.is_book.entered in omega arith

pub puts_back : (v : View) (m n : Me Slot View) (y b : Book) (number more : ℕ) (own : List PlainEvent) → Holds v m y → n ≡ (m.0, (0, Some b) ∷ []) → Makes number y b own → is_among number v.numbers ≡ true
    → entered_in b ≡ entered_in y + more → IsPutBack n number more
puts_back v m n y b number more own h is made among given =
    let mine : n.0 ≡ holding (with_turn v h.turn) y = ap (λ (k : Me Slot View). k.0) is ∙ h.view_is in (
      b,
      ap (λ (k : Me Slot View). k.1) is,
      record {
        holds = ap (λ (k : View). k.holds) mine;
        x = y;
        found = ap (λ (k : View). k.found) mine;
        made = record { is_book = made.is_book; setup = made.setup; events = own; journal = made.journal; own = made.own_all; spent = made.spent };
        among = subst (λ (ns : List ℕ). is_among number ns ≡ true) (sym (ap (λ (k : View). k.numbers) mine)) among;
        given = given;
      },
    )

-- the seat after its turn
pub ends_as : (v : View) (m n l : Me Slot View) (y b : Book) → Holds v m y → n ≡ (m.0, (0, Some b) ∷ []) → ServedWith n.0 n.0.numbers n.1 l → l ≡ (after_turn v b v.numbers, [])
ends_as v m n l y b h is served =
    let s : l ≡ (after_turn m.0 b m.0.numbers, []) = subst (λ (k : Me Slot View). ServedWith k.0 k.0.numbers k.1 l) is served in
    s ∙ ap (λ (k : View). (after_turn k b k.numbers, [])) h.view_is

pub rests : (v : View) (b : Book) (number : ℕ) (k l : Me Slot View) → k.0 ≡ v → IsAtRest k number → l ≡ (after_turn v b v.numbers, []) → IsAtRest l number
rests v b number k l is r e = record {
  empty = ap (λ (z : Me Slot View). z.1) e;
  idle = ap (λ (z : Me Slot View). z.0.waits) e;
  among = ap (λ (z : Me Slot View). is_among number z.0.numbers) e ∙ sym (ap (λ (z : View). is_among number z.numbers) is) ∙ r.among;
  here = ap (λ (z : Me Slot View). is_some z.0.setup) e ∙ sym (ap (λ (z : View). is_some z.setup) is) ∙ r.here;
}

-- the numbers given never fall
pub given_more : (v : View) (y b : Book) (ns : List ℕ) (l : Me Slot View) → l.0 ≡ after_turn v b ns → Finds v y → entered_in y ≤ entered_in b → v.given ≤ l.0.given
given_more v y b ns l is f more =
    let was = f.given in
    let now : l.0.given ≡ entered_in b = ap (λ (k : View). k.given) is in
    omega arith

-- a fact of what a seat has seen, old and new
pub seen_as : (v : View) (y b : Book) (ns : List ℕ) (R : Option Seen → Option Seen → Type 0) → Finds v y → setup_in b ≡ setup_in y
    → ((new : Option Seen) → R None new) → ((t : Seen) → Comes v.numbers t y → R (Some t) (Some (seen_in b)))
    → R (seen_by v) (seen_by (after_turn v b ns))
seen_as v y b ns R f setup nothing something = by_setup v.setup refl
  where
    before : Setup → Seen
    before s = record { setup = setup_view s; journal = journal_told v.seen; spent = v.spent }

    after : Setup → Seen
    after s = record { setup = setup_view s; journal = journal_in b; spent = is_spent_in b }

    by_setup : (o : Option Setup) → v.setup ≡ o → R (option_map before o) (option_map after o)
    by_setup None is = nothing None
    by_setup (Some s) is =
        let same = f.setup_is s is in
        let now : seen_in b ≡ after s = ap (λ (z : PlainSetup). record { setup = z; journal = journal_in b; spent = is_spent_in b }) (setup ∙ same) in
        subst (λ (u : Seen). R (Some (before s)) (Some u)) now
        (something (before s) (record { others = f.behind.0; apart = f.behind.2; journal = f.behind.1; setup = same; spent = f.spent }))

-- ---- the calls

if_none : (A : Type 0) (Fact : A → Seen → Seen → Type 0) (r : Result A Memory) (new : Option Seen) → IfOk r (λ a. IfSeen None new (Fact a))
if_none A Fact (Ok a) new = tt
if_none A Fact (Err e) new = tt

if_some : (A : Type 0) (Fact : A → Seen → Seen → Type 0) (old new : Seen) (r : Result A Memory) → IfOk r (λ a. Fact a old new) → IfOk r (λ a. IfSeen (Some old) (Some new) (Fact a))
if_some A Fact old new (Ok a) h = (new, refl, h)
if_some A Fact old new (Err e) h = tt

wants_none : (A : Type 0) (Fact : Seen → Seen → Type 0) (r : Result A Memory) (new : Option Seen) → OnErr r (IfSeen None new Fact)
wants_none A Fact (Ok a) new = tt
wants_none A Fact (Err e) new = tt

wants_some : (A : Type 0) (Fact : Seen → Seen → Type 0) (old new : Seen) (r : Result A Memory) → OnErr r (Fact old new) → OnErr r (IfSeen (Some old) (Some new) Fact)
wants_some A Fact old new (Ok a) h = tt
wants_some A Fact old new (Err e) h = (new, refl, h)

-- what an answer tells
pub tells
    : (A : Type 0) (Fact : A → Seen → Seen → Type 0) (v : View) (y b : Book) (ns : List ℕ) (r : Result A Memory) (l : Me Slot View)
    → l.0 ≡ after_turn v b ns
    → Finds v y
    → setup_in b ≡ setup_in y
    → ((seen : Seen) → Comes v.numbers seen y → IfOk r (λ a. Fact a seen (seen_in b)))
    → IfOk r (λ a. IfSeen (seen_by v) (seen_by l.0) (Fact a))
tells A Fact v y b ns r l is f setup fact =
    subst (λ (k : View). IfOk r (λ a. IfSeen (seen_by v) (seen_by k) (Fact a))) (sym is)
    (seen_as v y b ns (λ old new. IfOk r (λ a. IfSeen old new (Fact a))) f setup (if_none A Fact r) (λ seen comes. if_some A Fact seen (seen_in b) r (fact seen comes)))

-- what want of memory tells
pub wants
    : (A : Type 0) (Fact : Seen → Seen → Type 0) (v : View) (y b : Book) (ns : List ℕ) (r : Result A Memory) (l : Me Slot View)
    → l.0 ≡ after_turn v b ns
    → Finds v y
    → setup_in b ≡ setup_in y
    → ((seen : Seen) → Comes v.numbers seen y → OnErr r (Fact seen (seen_in b)))
    → OnErr r (IfSeen (seen_by v) (seen_by l.0) Fact)
wants A Fact v y b ns r l is f setup fact =
    subst (λ (k : View). OnErr r (IfSeen (seen_by v) (seen_by k) Fact)) (sym is)
    (seen_as v y b ns (λ old new. OnErr r (IfSeen old new Fact)) f setup (wants_none A Fact r) (λ seen comes. wants_some A Fact seen (seen_in b) r (fact seen comes)))

-- what any call tells
pub sees
    : (Fact : Seen → Seen → Type 0) (v : View) (y b : Book) (ns : List ℕ) (l : Me Slot View)
    → l.0 ≡ after_turn v b ns
    → Finds v y
    → setup_in b ≡ setup_in y
    → ((seen : Seen) → Comes v.numbers seen y → Fact seen (seen_in b))
    → IfSeen (seen_by v) (seen_by l.0) Fact
sees Fact v y b ns l is f setup fact =
    subst (λ (k : View). IfSeen (seen_by v) (seen_by k) Fact) (sym is)
    (seen_as v y b ns (λ old new. IfSeen old new Fact) f setup (λ new. tt) (λ seen comes. (seen_in b, refl, fact seen comes)))

-- ---- a split

pub look_makes : (number : ℕ) (b : Book) → IsBook b → Makes number b b []
look_makes number b is = record { is_book = is; setup = refl; journal = sym (append-nil (journal_in b)); own_all = λ n ne. refl; spent = λ s. s }

-- a seat that enters makes no event
pub enter_makes : (number : ℕ) (y b : Book) → IsBook b → IsEnteredFrom y b → Makes number y b []
enter_makes number y b is same = record {
  is_book = is;
  setup = ap setup_in same;
  journal = ap journal_in same ∙ sym (append-nil (journal_in y));
  own_all = λ n ne. refl;
  spent = λ s. ap is_spent_in same ∙ s;
}

-- the first seat of a desk: it is at rest with the number that the book gave it
pub opened_rests : (b : Book) (m : Me Slot View) (number : ℕ) → entered_in b ≡ suc number → m ≡ (first_view b, []) → IsAtRest m number
opened_rests b m number is me = record {
  empty = ap (λ (z : Me Slot View). z.1) me;
  idle = ap (λ (z : Me Slot View). z.0.waits) me;
  among = ap (λ (z : Me Slot View). is_among number z.0.numbers) me ∙ ap (λ (n : ℕ). is_among number (numbers_below n)) is ∙ has_first number (numbers_below number);
  here = ap (λ (z : Me Slot View). is_some z.0.setup) me;
}

-- no event is by a number that is left, also once a seat has entered
pub known_still : (y b : Book) → IsEnteredFrom y b → entered_in y ≤ entered_in b → ((n : ℕ) → entered_in y ≤ n → events_by n (journal_in y) ≡ []) → (n : ℕ) → entered_in b ≤ n → events_by n (journal_in b) ≡ []
known_still y b same more known n le = ap (λ (z : Book). events_by n (journal_in z)) same ∙ known n (omega arith)

pub ends_more : (v : View) (m n l : Me Slot View) (y b : Book) → Holds v m y → n ≡ (m.0, (0, Some b) ∷ []) → ServedWith n.0 (more_numbers n.0) n.1 l → l ≡ (after_turn v b (v.numbers ++ entered_in y ∷ []), [])
ends_more v m n l y b h is served =
    let s : l ≡ (after_turn m.0 b (more_numbers m.0), []) = subst (λ (k : Me Slot View). ServedWith k.0 (more_numbers k.0) k.1 l) is served in
    s ∙ ap (λ (k : View). (after_turn k b (more_numbers k), [])) h.view_is

pub left_ends : (v : View) (b : Book) (e : ℕ) (k l : Me Slot View) → k ≡ (after_turn v b (v.numbers ++ e ∷ []), []) → l ≡ (left_of k.0, k.1) → l ≡ (after_turn v b v.numbers, [])
left_ends v b e k l is left = left ∙ ap (λ (z : Me Slot View). (left_of z.0, z.1)) is ∙ ap (λ (ns : List ℕ). (after_turn v b ns, [])) (before_last-push v.numbers e)

pub right_ends : (v : View) (b : Book) (e : ℕ) (k r : Me Slot View) → k ≡ (after_turn v b (v.numbers ++ e ∷ []), []) → r ≡ (right_of k.0, []) → r ≡ (after_turn v b (e ∷ []), [])
right_ends v b e k r is right = right ∙ ap (λ (z : Me Slot View). (right_of z.0, [])) is ∙ ap (λ (n : ℕ). (after_turn v b (n ∷ []), [])) (last_of-push v.numbers e)

pub fresh_number : (v : View) (y : Book) → Finds v y → is_among (entered_in y) v.numbers ≡ true → ⊥
fresh_number v y f is = let a = f.below (entered_in y) is in omega arith

pub split_rests : (v : View) (b : Book) (e : ℕ) (k r : Me Slot View) → k.0 ≡ v → is_some k.0.setup ≡ true → r ≡ (after_turn v b (e ∷ []), []) → IsAtRest r e
split_rests v b e k r is some at = record {
  empty = ap (λ (z : Me Slot View). z.1) at;
  idle = ap (λ (z : Me Slot View). z.0.waits) at;
  among = ap (λ (z : Me Slot View). is_among e z.0.numbers) at ∙ has_first e [];
  here = ap (λ (z : Me Slot View). is_some z.0.setup) at ∙ sym (ap (λ (z : View). is_some z.setup) is) ∙ some;
}

-- the limit of seats that a seat has seen is that of the book in the slot
pub seats_seen : (v : View) (y b : Book) (ns : List ℕ) (seen : Seen) → Finds v y → seen_by (after_turn v b ns) ≡ Some seen → seen.setup.limits.seats ≡ (setup_in y).limits.seats
seats_seen v y b ns seen f is = by_setup v.setup refl is
  where
    after : Setup → Seen
    after s = record { setup = setup_view s; journal = journal_in b; spent = is_spent_in b }

    same_seen : (s t : Seen) → Some s ≡ Some t → s ≡ t
    same_seen s t e = cc

    not_seen : (t : Seen) → None ≡ Some t → ⊥
    not_seen t e = cc

    by_setup : (o : Option Setup) → v.setup ≡ o → option_map after o ≡ Some seen → seen.setup.limits.seats ≡ (setup_in y).limits.seats
    by_setup None at e = absurd (not_seen seen e)
    by_setup (Some s) at e = sym (ap (λ (z : Seen). z.setup.limits.seats) (same_seen (after s) seen e)) ∙ sym (ap (λ (z : PlainSetup). z.limits.seats) (f.setup_is s at))

-- ---- the end

pub closes_later : (v : View) (y : Book) → Finds v y → Later (seen_by v) (Some (seen_in y))
closes_later v y f = by_setup v.setup refl
  where
    before : Setup → Seen
    before s = record { setup = setup_view s; journal = journal_told v.seen; spent = v.spent }

    by_setup : (o : Option Setup) → v.setup ≡ o → Later (option_map before o) (Some (seen_in y))
    by_setup None is = tt
    by_setup (Some s) is = (seen_in y, refl, record { setup = f.setup_is s is; more = f.behind.0; journal = f.behind.1; spent = f.spent })
