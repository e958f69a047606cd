-- A round of one seat: no claim is open before it and after it; and when a book follows another one.
use Rattle.std.proofs.Common.{◌≡◌, ◌≢◌, ℕ, ◌<◌, ◌==◌, Bool, true, false, List, [], ◌++◌, length, Option, Some, None, refl, sym, ap, ◌∙◌, subst, slice_get, slice_set, eqb-true}
use Rattle.std.specs.List.{count_by}
use Rattle.std.specs.Option.{is_some}
use Rattle.std.proofs.lemmas.Bool.{eqb-false}
use Rattle.std.proofs.lemmas.List.{append-nil}
use Rattle.cpn_runs.specs.FinishedViews.{setup_view}
use Rattle.cpn_runs.specs.State.{PlainSetup, PlainEvent}
use Rattle.cpn_log.specs.LogViews.{log_view}
use Rattle.cpn_book.specs.Books.{setup_in, journal_in, IsBook}
use Rattle.cpn_book.specs.Standings.{HasCommitted, StillCommitted, occurrences_in}
use Rattle.cpn_book.specs.Steps.{Follows, IsMovedFrom}
use Rattle.cpn_book.specs.declared.books.Book.{Book}
use Rattle.cpn_book.specs.declared.standings.Standing.{Standing}
use Rattle.cpn_book.proofs.CommittedStandings.{still_same}
use Rattle.cpn_book.proofs.OpenClaims.{none_held_where_none}
use Rattle.cpn_book.proofs.HeldSeats.{none_counted_held}
use Rattle.cpn_definitions.proofs.ListItems.{place_known, set_there, set_elsewhere}

-- where none is open no seat holds one
pub none_held_of : (held : List (Option ℕ)) → count_by is_some held ≡ 0 → (s k : ℕ) → slice_get held s ≡ Some (Some k) → ⊥
none_held_of held none s k holds = let clash : Some (Some k) ≡ Some None = sym holds ∙ none_held_where_none held none s (place_known held s (Some k) holds) in cc

-- nor is one after what makes none of them held
pub none_open_still : (before after : List (Option ℕ)) → count_by is_some before ≡ 0 → ((s k : ℕ) → slice_get after s ≡ Some (Some k) → slice_get before s ≡ Some (Some k)) → count_by is_some after ≡ 0
none_open_still before after none frees = none_counted_held after (λ s k holds. none_held_of before none s k (frees s k holds))

-- after a round no claim is open
pub none_open_after : (before claimed after : List (Option ℕ)) (number : ℕ) → count_by is_some before ≡ 0 → claimed ≡ slice_set before 0 (Some number) → 0 < length before
    → ((s k : ℕ) → slice_get after s ≡ Some (Some k) → (slice_get claimed s ≡ Some (Some k)) × (k ≢ number)) → count_by is_some after ≡ 0
none_open_after before claimed after number none claims some frees = none_counted_held after (λ s k holds. split s k (0 == s) refl (frees s k holds))
  where
    split : (s k : ℕ) (b : Bool) → (0 == s) ≡ b → (slice_get claimed s ≡ Some (Some k)) × (k ≢ number) → ⊥
    split s k true is both =
        let here : slice_get claimed s ≡ Some (Some number) = ap (λ hs. slice_get hs s) claims ∙ ap (slice_get (slice_set before 0 (Some number))) (sym (eqb-true 0 s is)) ∙ set_there before 0 (Some number) some in
        let same : Some (Some k) ≡ Some (Some number) = sym both.0 ∙ here in
        let number_is : k ≡ number = cc in
        both.1 number_is
    split s k false is both = none_held_of before none s k (sym (set_elsewhere before 0 s (Some number) (eqb-false 0 s is)) ∙ ap (λ hs. slice_get hs s) (sym claims) ∙ both.0)

-- a book that has moved its clock and played a round follows the one of before
pub follows_round
    : (old moved new : Book) (drawn played : Standing)
    → IsMovedFrom old moved
    → drawn ≡ record moved.standing { draw = drawn.draw }
    → StillCommitted (setup_in moved) drawn played
    → new ≡ record moved { standing = played; index = new.index }
    → (more : List PlainEvent)
    → journal_in new ≡ journal_in old ++ more
    → Follows old new
follows_round old moved new drawn played is same still now more events =
    let setups : moved.setup ≡ old.setup = ap (λ (b : Book). b.setup) is.book in
    let standing : new.standing ≡ played = ap (λ (b : Book). b.standing) now in
    let were : occurrences_in drawn ≡ occurrences_in old.standing = ap occurrences_in same ∙ ap occurrences_in is.standing in
    let kept : HasCommitted (setup_in old) played = subst (λ (s : PlainSetup). HasCommitted s played) (ap setup_view setups) still.committed in
    record {
      setup = ap (λ (b : Book). b.setup) now ∙ setups;
      works = ap (λ (b : Book). b.works) now ∙ ap (λ (b : Book). b.works) is.book;
      opening = ap (λ (b : Book). b.opening) now ∙ ap (λ (b : Book). b.opening) is.book;
      spent = ap (λ (b : Book). b.spent) now ∙ ap (λ (b : Book). b.spent) is.book;
      entered = ap (λ (b : Book). b.entered) now ∙ ap (λ (b : Book). b.entered) is.book;
      more = more;
      events = events;
      committed = record {
        committed = subst (HasCommitted (setup_in old)) (sym standing) kept;
        more = still.more;
        occurrences = ap occurrences_in standing ∙ still.occurrences ∙ ap (λ os. os ++ still.more) were;
      };
    }

-- a book that stays as it is follows itself
pub follows_itself : (book : Book) → IsBook book → Follows book book
follows_itself book is = record {
  setup = refl;
  works = refl;
  opening = refl;
  spent = refl;
  entered = refl;
  more = [];
  events = sym (append-nil (journal_in book));
  committed = still_same (setup_in book) book.standing book.standing is.committed refl refl refl;
}

-- so does one whose journal goes on, and where what was committed stands
pub follows_still
    : (old new : Book)
    → IsBook old
    → new ≡ record old { standing = new.standing; index = new.index }
    → (more : List PlainEvent) × (journal_in new ≡ journal_in old ++ more)
    → (log_view new.standing.log).committed ≡ (log_view old.standing.log).committed
    → (log_view new.standing.log).settled ≡ (log_view old.standing.log).settled
    → occurrences_in new.standing ≡ occurrences_in old.standing
    → Follows old new
follows_still old new is same more committed settled occurrences = record {
  setup = ap (λ (b : Book). b.setup) same;
  works = ap (λ (b : Book). b.works) same;
  opening = ap (λ (b : Book). b.opening) same;
  spent = ap (λ (b : Book). b.spent) same;
  entered = ap (λ (b : Book). b.entered) same;
  more = more.0;
  events = more.1;
  committed = still_same (setup_in old) old.standing new.standing is.committed committed settled occurrences;
}
