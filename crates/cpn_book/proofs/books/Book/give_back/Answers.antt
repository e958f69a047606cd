-- The ticket is void where a cut has removed its claim; a book that wants memory is as it was, but spent.
use Rattle.std.proofs.Common.{◌≡◌, ℕ, ◌<◌, ◌≤◌, Some, subst, arith}
use Rattle.cpn_book.specs.Tickets.{number_of, job_of}
use Rattle.cpn_book.specs.declared.standings.Cut.{Cut}
use Rattle.cpn_book.proofs.AnsweredBooks.{spent_still, events_back}
use Rattle.cpn_book.proofs.AnsweredTickets.{void_ticket}
use Rattle.cpn_book.proofs.RefusedClaims.{not_void}
use Rattle.cpn_book.proofs.books.Book.give_back.Goals as goal

pub returns-in-Some-clause-answer : goal.returns-in-Some-clause-answer
returns-in-Some-clause-answer c = void_ticket c.args.self.now (c.requires.kept.running c.if-self.false) c.args.seat c.args.ticket c.in-Some.number
    (subst (λ (k : ℕ). (cut : Cut) × (c.args.self.now.standing.cut ≡ Some cut) × (c.in-Some.number ≡ cut.number) × (c.in-Some.number ≤ k)) c.number.ensures.number c.in-Some.ensures.below)

pub give_back_uncut-requires-clause-running : goal.give_back_uncut-requires-clause-running
give_back_uncut-requires-clause-running c = c.requires.kept.running c.if-self.false

pub returns-in-Err-clause-kept : goal.returns-in-Err-clause-kept
returns-in-Err-clause-kept c =
    spent_still c.args.self.now c.give_back_uncut.new.self c.spend.new.self c.requires.kept c.give_back_uncut.ensures.follows c.spend.ensures.same c.len-events.result c.spend.ensures.events (omega (arith, c.len-events.ensures)) c.spend.ensures.spent

pub returns-in-Err-clause-not_void : goal.returns-in-Err-clause-not_void
returns-in-Err-clause-not_void c = λ unspent. not_void c.args.self.now (c.requires.kept.running c.if-self.false) c.args.seat (number_of c.args.ticket) (job_of c.args.ticket)
    (subst (λ (k : ℕ). (cut : Cut) → c.args.self.now.standing.cut ≡ Some cut → k < cut.number) c.number.ensures.number c.in_default.ensures.below)

pub returns-in-Err-clause-events_stay : goal.returns-in-Err-clause-events_stay
returns-in-Err-clause-events_stay c =
    events_back c.args.self.now c.give_back_uncut.new.self c.spend.new.self c.requires.kept c.give_back_uncut.ensures.follows c.spend.ensures.same c.len-events.result c.spend.ensures.events (omega (arith, c.len-events.ensures))

pub give_back_uncut-requires-clause-uncut : goal.give_back_uncut-requires-clause-uncut
give_back_uncut-requires-clause-uncut c = subst (λ (k : ℕ). (cut : Cut) → c.args.self.now.standing.cut ≡ Some cut → k < cut.number) c.number.ensures.number c.in_default.ensures.below
