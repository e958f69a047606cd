-- Between two rounds no claim is open, the journal goes on from the one before, and while no cut stands as many claims were made as
-- there were rounds.
use Rattle.std.proofs.Common.{◌≡◌, None}
use Rattle.std.specs.List.{count_by}
use Rattle.std.specs.Option.{is_some}
use Rattle.cpn_log.specs.Logs.{claims_made}
use Rattle.cpn_log.specs.LogViews.{log_view}
use Rattle.cpn_book.specs.Books.{setup_in, journal_in, IsBook, IsRunning}
use Rattle.cpn_book.specs.GoingAlone.{GoesOnAloneTo}
use Rattle.cpn_book.proofs.books.Book.play_to_end.Given as goal

abbrev pub invariant-loop-number : goal.invariant-loop-number
invariant-loop-number l = record {
  kept : IsBook l.self;
  running : IsRunning l.self;
  none_open : count_by is_some l.self.standing.held.items ≡ 0;
  setup : l.self.setup ≡ l.fn.self.setup;
  events : GoesOnAloneTo (setup_in l.fn.self) (journal_in l.fn.self) (journal_in l.self);
  made : l.self.standing.cut ≡ None → claims_made (log_view l.self.standing.log) ≡ l._number;
}
