-- Where something is ready nothing happens.
use Rattle.std.proofs.Common.{[], sym}
use Rattle.std.proofs.lemmas.List.{append-nil}
use Rattle.cpn_book.specs.Books.{setup_in, journal_in}
use Rattle.cpn_book.proofs.GoingAlone.{nothing_gives_none}
use Rattle.cpn_book.proofs.books.Book.reach_next_time.Goals as goal

pub returns-then-ready-gt0-clause-events : goal.returns-then-ready-gt0-clause-events
returns-then-ready-gt0-clause-events c = ([], sym (append-nil (journal_in c.args.self.now)), tt, nothing_gives_none (setup_in c.args.self.now) (journal_in c.args.self.now))
