-- The ticket in the answer is of a binding element.
use Rattle.cpn_core.specs.Nets.{net_view}
use Rattle.cpn_test_program.proofs.ShownBooks.{ticket_shown}
use Rattle.cpn_test_program.proofs.plays.Table.claim.Goals as goal

pub push_claimed-requires-clause-element : goal.push_claimed-requires-clause-element
push_claimed-requires-clause-element c = ticket_shown (net_view c.args.net.now) c.args.book.now c.args.seat c.in_ok-claimed.claimed c.requires.shown c.in_ok-claimed.ensures.answer
