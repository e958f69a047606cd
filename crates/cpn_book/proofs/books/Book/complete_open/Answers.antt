-- Where no claim is open nothing happens.
use Rattle.std.proofs.Common.{[], sym, arith}
use Rattle.std.proofs.lemmas.List.{append-nil}
use Rattle.cpn_book.specs.Books.{setup_in, journal_in}
use Rattle.cpn_book.proofs.GoingAlone.{nothing_gives_none}
use Rattle.cpn_book.proofs.books.Book.complete_open.Goals as goal

pub returns-then-open-eq0-clause-completions : goal.returns-then-open-eq0-clause-completions
returns-then-open-eq0-clause-completions c = ([], sym (append-nil (journal_in c.args.self.now)), (0, omega arith), nothing_gives_none (setup_in c.args.self.now) (journal_in c.args.self.now))
