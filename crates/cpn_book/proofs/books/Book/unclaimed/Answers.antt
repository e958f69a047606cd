-- The marking is the one that the state's claims leave, and within its bounds.
use Rattle.std.proofs.Common.{◌≡◌, ◌-◌, ◌^◌, ap, sym, ◌∙◌, length, Some, subst}
use Rattle.cpn_definitions.specs.Bounds.{IsBounded}
use Rattle.cpn_definitions.specs.Sound.{IsMarking}
use Rattle.cpn_runs.specs.Bounds.{HasGrown}
use Rattle.cpn_runs.specs.State.{unclaimed_in}
use Rattle.cpn_book.specs.Books.{setup_in}
use Rattle.cpn_book.proofs.BoundedBooks.{unclaimed_kept}
use Rattle.cpn_book.proofs.RunningBooks.{in_state, unclaimed_is}
use Rattle.cpn_book.proofs.books.Book.unclaimed.Goals as goal

pub returns-clause-unclaimed : goal.returns-clause-unclaimed
returns-clause-unclaimed c =
    let book = c.args.self.now in
    let running = c.requires.kept.running c.requires.unspent in
    in_state book running (λ state. unclaimed_in (setup_in book) state ≡ Some c.unclaimed.result.now) (unclaimed_is book running ∙ ap Some (sym c.unclaimed.ensures))

pub returns-clause-marking : goal.returns-clause-marking
returns-clause-marking c =
    let book = c.args.self.now in
    subst (IsMarking (setup_in book).net.places) (sym c.unclaimed.ensures) (unclaimed_kept book c.requires.kept (c.requires.kept.running c.requires.unspent)).marking

pub returns-clause-bounded : goal.returns-clause-bounded
returns-clause-bounded c = subst (IsBounded (2 ^ 48 - 1)) (sym c.unclaimed.ensures) (unclaimed_kept c.args.self.now c.requires.kept (c.requires.kept.running c.requires.unspent)).bounded

pub returns-clause-grown : goal.returns-clause-grown
returns-clause-grown c =
    let book = c.args.self.now in
    let running = c.requires.kept.running c.requires.unspent in
    in_state book running (λ state. HasGrown (setup_in book).net.places (setup_in book).start (length state.claims) c.unclaimed.result.now)
    (subst (HasGrown (setup_in book).net.places (setup_in book).start (length running.at.at.state.claims)) (sym c.unclaimed.ensures) (unclaimed_kept book c.requires.kept running).grown)
