-- The book stays one of a run.
use Rattle.cpn_book.specs.Books.{IsBook}
use Rattle.cpn_test_program.proofs.plays.make_claims.Given as goal

abbrev pub invariant-loop-seat : goal.invariant-loop-seat
invariant-loop-seat l = IsBook l.book
