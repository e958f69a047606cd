-- The cut is at a claim that is open, and so is none of the committed ones.
use Rattle.std.proofs.Common.{refl, arith}
use Rattle.cpn_book.specs.Books.{setup_in}
use Rattle.cpn_book.proofs.AnsweredTickets.{may_give_back}
use Rattle.cpn_book.proofs.HeldJobs.{held_behind, held_within}
use Rattle.cpn_book.proofs.PlayedRounds.{follows_still}
use Rattle.cpn_book.proofs.books.Book.give_back_held.Goals as goal

pub cut_for_memory-requires-clause-behind : goal.cut_for_memory-requires-clause-behind
cut_for_memory-requires-clause-behind c = held_behind (setup_in c.args.self.now) c.args.self.now.standing c.requires.running.at c.requires.held.0 c.args.number c.requires.held.1

pub cut_for_memory-requires-clause-within : goal.cut_for_memory-requires-clause-within
cut_for_memory-requires-clause-within c =
    let within = held_within (setup_in c.args.self.now) c.args.self.now.standing c.requires.running.at c.requires.held.0 c.args.number c.requires.held.1 in
    omega (arith, within)

pub follow-requires-clause-at : goal.follow-requires-clause-at
follow-requires-clause-at c = c.in_ok-cut_for_memory.ensures.at (setup_in c.args.self.now) (may_give_back (setup_in c.args.self.now) c.args.self.now.standing c.requires.running.at c.requires.held.0 c.args.number c.requires.held.1)

pub returns-in_err-cut_for_memory-clause-follows : goal.returns-in_err-cut_for_memory-clause-follows
returns-in_err-cut_for_memory-clause-follows c = follows_still c.args.self.now _ c.requires.kept refl c.cut_for_memory.ensures.begins c.cut_for_memory.ensures.committed c.cut_for_memory.ensures.settled c.cut_for_memory.ensures.occurrences
