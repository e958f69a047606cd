-- The job in the answer, if there is one, is of a binding element.
use Rattle.cpn_core.specs.Nets.{net_view}
use Rattle.cpn_test_program.proofs.ShownBooks.{given_back_shown}
use Rattle.cpn_test_program.proofs.plays.Table.give_back_by.Goals as goal

pub push_given_back-requires-clause-element : goal.push_given_back-requires-clause-element
push_given_back-requires-clause-element c = given_back_shown (net_view c.args.net.now) c.args.book.now c.give_back.new.self c.args.seat c.args.ticket c.in_ok-given_back.given_back c.requires.shown c.in_ok-given_back.ensures.answer
