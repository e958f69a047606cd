-- The index follows to a marking of the net.
use Rattle.std.proofs.Common.{sym, subst}
use Rattle.cpn_core.specs.Nets.{net_view}
use Rattle.cpn_definitions.specs.Sound.{IsMarking}
use Rattle.cpn_book.specs.Books.{setup_in}
use Rattle.cpn_book.proofs.MovedBooks.{unclaimed_is_marking}
use Rattle.cpn_book.proofs.books.Book.follow.Goals as goal

pub follow_told-requires-clause-marking : goal.follow_told-requires-clause-marking
follow_told-requires-clause-marking c =
    let book = c.args.self.now in
    subst (λ n. IsMarking (net_view n).places c.unclaimed.result.now) (sym c.deref.ensures)
    (subst (IsMarking (setup_in book).net.places) (sym c.unclaimed.ensures) (unclaimed_is_marking (setup_in book) book.standing c.requires.at c.requires.playable))
