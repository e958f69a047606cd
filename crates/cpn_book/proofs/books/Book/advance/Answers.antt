-- The clock moves, or stays for a reason that the book's state has.
use Rattle.std.proofs.Common.{◌≡◌, length, sym, ◌∙◌, arith}
use Rattle.std.specs.List.{count_by}
use Rattle.std.specs.Option.{is_some}
use Rattle.cpn_definitions.specs.Enabled.{ready}
use Rattle.cpn_book.specs.Books.{index_in, setup_in}
use Rattle.cpn_book.proofs.AnsweredBooks.{over, full, some_ready, some_open, moves_answer}
use Rattle.cpn_book.proofs.MovedBooks.{claims_below}
use Rattle.cpn_book.proofs.books.Book.advance.Goals as goal

pub returns-then-is_some-clause-answer : goal.returns-then-is_some-clause-answer
returns-then-is_some-clause-answer c = λ unspent. over c.args.self.now (c.requires.kept.running unspent) (sym c.is_some.ensures ∙ c.if-is_some.true)

pub returns-then-len-self-clause-answer : goal.returns-then-len-self-clause-answer
returns-then-len-self-clause-answer c = λ unspent. full c.args.self.now (c.requires.kept.running unspent) (sym c.is_some.ensures ∙ c.if-is_some.false) (sym c.len.ensures ∙ c.if-len-self.true)

pub returns-then-ready-gt0-clause-answer : goal.returns-then-ready-gt0-clause-answer
returns-then-ready-gt0-clause-answer c = λ unspent.
    some_ready c.args.self.now (c.requires.kept.running unspent) (sym c.is_some.ensures ∙ c.if-is_some.false) (λ all. c.if-len-self.false (c.len.ensures ∙ all)) c.ready.result c.ready.ensures c.if-ready-gt0.true

pub returns-then-open-gt0-clause-answer : goal.returns-then-open-gt0-clause-answer
returns-then-open-gt0-clause-answer c = λ unspent.
    let none : length (ready c.args.self.now.standing.clock (index_in c.args.self.now)) ≡ 0 = omega (arith, c.ready.ensures, c.if-ready-gt0.false) in
    some_open c.args.self.now (c.requires.kept.running unspent) (sym c.is_some.ensures ∙ c.if-is_some.false) (λ all. c.if-len-self.false (c.len.ensures ∙ all)) none c.open-open.result c.open-open.ensures.count c.if-open-gt0.true

pub move_clock-requires-clause-running : goal.move_clock-requires-clause-running
move_clock-requires-clause-running c = c.requires.kept.running c.if-self.false

pub move_clock-requires-clause-below : goal.move_clock-requires-clause-below
move_clock-requires-clause-below c = claims_below (setup_in c.args.self.now) c.args.self.now.standing (c.requires.kept.running c.if-self.false).at c.requires.kept.playable (λ all. c.if-len-self.false (c.len.ensures ∙ all))

pub returns-clause-answer : goal.returns-clause-answer
returns-clause-answer c = λ unspent.
    let none : length (ready c.args.self.now.standing.clock (index_in c.args.self.now)) ≡ 0 = omega (arith, c.ready.ensures, c.if-ready-gt0.false) in
    let none_open : count_by is_some c.args.self.now.standing.held.items ≡ 0 = omega (arith, c.open-open.ensures.count, c.if-open-gt0.false) in
    moves_answer c.args.self.now (c.requires.kept.running unspent) (sym c.is_some.ensures ∙ c.if-is_some.false) (λ all. c.if-len-self.false (c.len.ensures ∙ all)) none none_open c.move_clock.new.self c.move_clock.result c.move_clock.ensures.moves
