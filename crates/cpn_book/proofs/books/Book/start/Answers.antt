-- What is made for the start of a run is a book.
use Rattle.std.proofs.Common.{refl, sym, ap, ◌∙◌, subst}
use Rattle.cpn_index.specs.Index.{listed_in, IsIndexOf}
use Rattle.cpn_runs.specs.FinishedViews.{setup_view}
use Rattle.cpn_book.specs.Shown.{outlook_at}
use Rattle.cpn_book.proofs.StartedBooks.{started}
use Rattle.cpn_book.proofs.books.Book.start.Goals as goal

pub returns-clause-kept : goal.returns-clause-kept
returns-clause-kept c =
    started _ c.in_ok-works.standing (record {
      playable = c.requires.playable;
      starts = c.in_ok-works.ensures.starts;
      works = c.in_ok-works.ensures.works;
      clock = c.in_ok-works.ensures.clock;
      marking = c.in_ok-works.ensures.marking;
      standing = refl;
      events = refl;
      index = subst (λ m. IsIndexOf (setup_view c.args.setup).net m c.in_ok-works.index) (sym c.in_ok-works.ensures.marking) c.in_ok-works.ensures.index;
      at_clock = c.in_ok-works.ensures.at_clock;
      opening = c.outlook-opening.ensures.outlook ∙ ap (λ t. outlook_at t (listed_in c.in_ok-works.index)) c.in_ok-works.ensures.at_clock;
      room = c.in_ok-works.ensures.room;
      none_entered = refl;
    })
