-- The marking is the one that the state's committed claims leave, by a legal sequence, and within its bounds; where no claim is open
-- each is committed, and it is the unclaimed one.
use Rattle.std.proofs.Common.{◌≡◌, ◌-◌, ◌^◌, ap, sym, ◌∙◌, subst, length, map, [], Some}
use Rattle.std.proofs.lemmas.Option.{same_Some}
use Rattle.cpn_definitions.specs.Bounds.{IsBounded}
use Rattle.cpn_definitions.specs.Legal.{Legal, timed}
use Rattle.cpn_definitions.specs.Sound.{IsMarking}
use Rattle.cpn_runs.specs.Bounds.{HasGrown}
use Rattle.cpn_runs.specs.State.{settled_in, unclaimed_in, committed, committed_occurrences}
use Rattle.cpn_runs.proofs.Cuts.{as_many_are_committed}
use Rattle.cpn_runs.proofs.Journals.{Settles, every_journal_settles, marking_is_start}
use Rattle.cpn_book.proofs.OpenClaims.{none_counted}
use Rattle.cpn_book.specs.Books.{setup_in, journal_in}
use Rattle.cpn_book.specs.States.{open_claims}
use Rattle.cpn_book.proofs.BoundedBooks.{settled_kept}
use Rattle.cpn_book.proofs.RunningBooks.{in_state, settled_is}
use Rattle.cpn_book.proofs.books.Book.settled.Goals as goal

pub returns-clause-settled : goal.returns-clause-settled
returns-clause-settled c =
    let book = c.args.self.now in
    let running = c.requires.kept.running c.requires.unspent in
    in_state book running (λ state. settled_in (setup_in book) state ≡ Some c.settled.result.now) (settled_is book running ∙ ap Some (sym c.settled.ensures))

pub returns-clause-legal : goal.returns-clause-legal
returns-clause-legal c =
    let book = c.args.self.now in
    let running = c.requires.kept.running c.requires.unspent in
    let settles : Settles (setup_in book) running.at.at.state = every_journal_settles (setup_in book) (journal_in book) running.at.at.state (marking_is_start (setup_in book) c.requires.kept.playable.marking) running.at.at.told.reached in
    let same : settles.marking ≡ c.settled.result.now = same_Some settles.marking c.settled.result.now (sym settles.settled_is ∙ settled_is book running ∙ ap Some (sym c.settled.ensures)) in
    in_state book running (λ state. Legal (setup_in book).net (setup_in book).start (setup_in book).clock (map timed (committed_occurrences (setup_in book) state)) c.settled.result.now state.clock)
    (subst (λ m. Legal (setup_in book).net (setup_in book).start (setup_in book).clock (map timed (committed_occurrences (setup_in book) running.at.at.state)) m running.at.at.state.clock) same settles.legal)

pub returns-clause-marking : goal.returns-clause-marking
returns-clause-marking c =
    let book = c.args.self.now in
    subst (IsMarking (setup_in book).net.places) (sym c.settled.ensures) (settled_kept book c.requires.kept (c.requires.kept.running c.requires.unspent)).marking

pub returns-clause-bounded : goal.returns-clause-bounded
returns-clause-bounded c = subst (IsBounded (2 ^ 48 - 1)) (sym c.settled.ensures) (settled_kept c.args.self.now c.requires.kept (c.requires.kept.running c.requires.unspent)).bounded

pub returns-clause-all : goal.returns-clause-all
returns-clause-all c =
    let book = c.args.self.now in
    let running = c.requires.kept.running c.requires.unspent in
    let settles : Settles (setup_in book) running.at.at.state = every_journal_settles (setup_in book) (journal_in book) running.at.at.state (marking_is_start (setup_in book) c.requires.kept.playable.marking) running.at.at.told.reached in
    let same : settles.marking ≡ c.settled.result.now = same_Some settles.marking c.settled.result.now (sym settles.settled_is ∙ settled_is book running ∙ ap Some (sym c.settled.ensures)) in
    in_state book running (λ state. open_claims state ≡ 0 → unclaimed_in (setup_in book) state ≡ Some c.settled.result.now)
    (λ none. settles.leaves ∙ ap Some (sym (settles.all_settled (none_counted running.at.at.state.claims none) running.at.none_owed) ∙ same))

pub returns-clause-grown : goal.returns-clause-grown
returns-clause-grown c =
    let book = c.args.self.now in
    let running = c.requires.kept.running c.requires.unspent in
    in_state book running (λ state. HasGrown (setup_in book).net.places (setup_in book).start (committed (setup_in book) state) c.settled.result.now)
    (subst (HasGrown (setup_in book).net.places (setup_in book).start (committed (setup_in book) running.at.at.state)) (sym c.settled.ensures) (settled_kept book c.requires.kept running).grown)

pub returns-clause-all_committed : goal.returns-clause-all_committed
returns-clause-all_committed c =
    let book = c.args.self.now in
    let running = c.requires.kept.running c.requires.unspent in
    let claims = running.at.at.state.claims in
    let settles : Settles (setup_in book) running.at.at.state = every_journal_settles (setup_in book) (journal_in book) running.at.at.state (marking_is_start (setup_in book) c.requires.kept.playable.marking) running.at.at.told.reached in
    in_state book running (λ state. open_claims state ≡ 0 → committed (setup_in book) state ≡ length state.claims)
    (λ none. sym (as_many_are_committed (setup_in book).monitors [] (setup_in book).start claims) ∙ ap length (settles.all_committed (none_counted claims none) running.at.none_owed))
