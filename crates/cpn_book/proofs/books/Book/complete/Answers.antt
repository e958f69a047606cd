-- The evaluation is void where a cut has removed its claim; a book that wants memory is as it was, but spent.
use Rattle.std.proofs.Common.{arith}
use Rattle.cpn_book.proofs.AnsweredBooks.{spent_still, events_back}
use Rattle.cpn_book.specs.Tickets.{evaluated_number, evaluated_job}
use Rattle.cpn_book.proofs.AnsweredCompletions.{void}
use Rattle.cpn_book.proofs.RefusedClaims.{not_void}
use Rattle.cpn_book.proofs.books.Book.complete.Goals as goal

pub returns-in-Some-clause-answer : goal.returns-in-Some-clause-answer
returns-in-Some-clause-answer c = void c.args.self.now (c.requires.kept.running c.if-self.false) c.args.seat c.args.done c.in-Some.number c.in-Some.ensures.below

pub complete_uncut-requires-clause-running : goal.complete_uncut-requires-clause-running
complete_uncut-requires-clause-running c = c.requires.kept.running c.if-self.false

pub returns-in-Err-clause-kept : goal.returns-in-Err-clause-kept
returns-in-Err-clause-kept c =
    spent_still c.args.self.now c.complete_uncut.new.self c.spend.new.self c.requires.kept c.complete_uncut.ensures.follows c.spend.ensures.same c.len-events.result c.spend.ensures.events (omega (arith, c.len-events.ensures)) c.spend.ensures.spent

pub returns-in-Err-clause-not_void : goal.returns-in-Err-clause-not_void
returns-in-Err-clause-not_void c = λ unspent. not_void c.args.self.now (c.requires.kept.running c.if-self.false) c.args.seat (evaluated_number c.args.done) (evaluated_job c.args.done) c.in_default.ensures.below

pub returns-in-Err-clause-events_stay : goal.returns-in-Err-clause-events_stay
returns-in-Err-clause-events_stay c =
    events_back c.args.self.now c.complete_uncut.new.self c.spend.new.self c.requires.kept c.complete_uncut.ensures.follows c.spend.ensures.same c.len-events.result c.spend.ensures.events (omega (arith, c.len-events.ensures))
