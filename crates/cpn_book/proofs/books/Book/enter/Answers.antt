-- A book stays one when a seat enters.
use Rattle.std.proofs.Common.{arith}
use Rattle.cpn_book.proofs.EnteredBooks.{entered_is_book}
use Rattle.cpn_book.proofs.books.Book.enter.Goals as goal

pub returns-clause-kept : goal.returns-clause-kept
returns-clause-kept c = entered_is_book c.args.self.now _ c.requires.kept (omega (arith, c.requires.kept.entered, c.if-seat-self.false))
