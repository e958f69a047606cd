-- The job in the answer, if there is one, is of a binding element.
use Rattle.cpn_core.specs.Nets.{net_view}
use Rattle.cpn_test_program.proofs.ShownBooks.{kept_shown}
use Rattle.cpn_test_program.proofs.plays.Table.complete_by.Goals as goal

pub push_completed-requires-clause-element : goal.push_completed-requires-clause-element
push_completed-requires-clause-element c = kept_shown (net_view c.args.net.now) c.args.book.now c.complete.new.self c.args.seat c.args.done c.in_ok-completed.completed c.requires.shown c.in_ok-completed.ensures.answer
