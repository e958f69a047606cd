-- What the seat gets is what the book's state has for it.
use Rattle.std.proofs.Common.{◌<◌, length, sym, ◌∙◌, arith}
use Rattle.cpn_definitions.specs.Enabled.{ready}
use Rattle.cpn_log.specs.Logs.{claims_made}
use Rattle.cpn_log.specs.LogViews.{log_view}
use Rattle.cpn_book.specs.Books.{index_in, setup_in}
use Rattle.cpn_book.proofs.AnsweredBooks.{over, full, busy, nothing, due, holds_none, ticket, spent_still, events_back}
use Rattle.cpn_book.proofs.MovedBooks.{claims_below}
use Rattle.cpn_book.proofs.books.Book.claim.Goals as goal

pub returns-then-is_some-clause-answer : goal.returns-then-is_some-clause-answer
returns-then-is_some-clause-answer c = over c.args.self.now (c.requires.kept.running c.if-self.false) (sym c.is_some.ensures ∙ c.if-is_some.true)

pub returns-then-len-self-clause-answer : goal.returns-then-len-self-clause-answer
returns-then-len-self-clause-answer c = full c.args.self.now (c.requires.kept.running c.if-self.false) (sym c.is_some.ensures ∙ c.if-is_some.false) (sym c.len.ensures ∙ c.if-len-self.true)

pub returns-in-Some-clause-answer : goal.returns-in-Some-clause-answer
returns-in-Some-clause-answer c =
    busy c.args.self.now (c.requires.kept.running c.if-self.false) (sym c.is_some.ensures ∙ c.if-is_some.false) (λ all. c.if-len-self.false (c.len.ensures ∙ all)) c.args.seat c.in-Some.number c.requires.known c.in-Some.ensures.held

pub returns-then-ready-eq0-clause-answer : goal.returns-then-ready-eq0-clause-answer
returns-then-ready-eq0-clause-answer c =
    let running = c.requires.kept.running c.if-self.false in
    nothing c.args.self.now running (sym c.is_some.ensures ∙ c.if-is_some.false) (λ all. c.if-len-self.false (c.len.ensures ∙ all)) c.args.seat c.ready.result c.open-held.result c.requires.known
    (holds_none c.args.self.now running c.args.seat c.requires.known c.in_default.ensures.held) c.ready.ensures c.if-ready-eq0.true c.open-held.ensures.count

pub claim_ready-requires-clause-running : goal.claim_ready-requires-clause-running
claim_ready-requires-clause-running c = c.requires.kept.running c.if-self.false

pub claim_ready-requires-clause-below : goal.claim_ready-requires-clause-below
claim_ready-requires-clause-below c = claims_below (setup_in c.args.self.now) c.args.self.now.standing (c.requires.kept.running c.if-self.false).at c.requires.kept.playable (λ all. c.if-len-self.false (c.len.ensures ∙ all))

pub returns-in-Ok-clause-answer : goal.returns-in-Ok-clause-answer
returns-in-Ok-clause-answer c =
    ticket c.args.self.now (c.requires.kept.running c.if-self.false) c.claim_ready.new.self c.claim_ready.ensures.follows.setup c.in-Ok.ensures.running c.args.seat c.in-Ok.ticket c.in-Ok.ensures.events c.in-Ok.ensures.job

pub returns-in-Err-clause-kept : goal.returns-in-Err-clause-kept
returns-in-Err-clause-kept c =
    spent_still c.args.self.now c.claim_ready.new.self c.spend.new.self c.requires.kept c.claim_ready.ensures.follows c.spend.ensures.same c.len-events.result c.spend.ensures.events (omega (arith, c.len-events.ensures)) c.spend.ensures.spent

pub returns-in-Err-clause-due : goal.returns-in-Err-clause-due
returns-in-Err-clause-due c = λ unspent.
    let book = c.args.self.now in
    let running = c.requires.kept.running c.if-self.false in
    let below : claims_made (log_view c.args.self.now.standing.log) < (setup_in c.args.self.now).limits.steps = claims_below (setup_in book) book.standing running.at c.requires.kept.playable (λ all. c.if-len-self.false (c.len.ensures ∙ all)) in
    let some : 0 < length (ready c.args.self.now.standing.clock (index_in c.args.self.now)) = omega (arith, c.ready.ensures, c.if-ready-eq0.false) in
    due book running (sym c.is_some.ensures ∙ c.if-is_some.false) (λ all. c.if-len-self.false (c.len.ensures ∙ all)) c.args.seat c.requires.known
    (holds_none book running c.args.seat c.requires.known c.in_default.ensures.held) below some

pub returns-in-Err-clause-events_stay : goal.returns-in-Err-clause-events_stay
returns-in-Err-clause-events_stay c =
    events_back c.args.self.now c.claim_ready.new.self c.spend.new.self c.requires.kept c.claim_ready.ensures.follows c.spend.ensures.same c.len-events.result c.spend.ensures.events (omega (arith, c.len-events.ensures))
