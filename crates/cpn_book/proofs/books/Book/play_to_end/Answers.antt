-- A round leads from a book to a book, and the journal goes on alone.
use Rattle.std.proofs.Common.{◌≡◌, ◌++◌, sym, ap, ◌∙◌, subst, arith, append_assoc}
use Rattle.cpn_log.specs.Logs.{claims_made}
use Rattle.cpn_log.specs.LogViews.{log_view}
use Rattle.cpn_runs.specs.FinishedViews.{setup_view}
use Rattle.cpn_book.specs.Books.{setup_in, journal_in, IsBook}
use Rattle.cpn_book.specs.GoingAlone.{GivesNoneBack, GoesOnAloneTo}
use Rattle.cpn_book.specs.declared.books.Book.{Book}
use Rattle.cpn_book.proofs.GoingAlone.{goes_on_by, goes_on_from, both_give_none}
use Rattle.cpn_book.proofs.RunningBooks.{running_is_book}
use Rattle.cpn_book.proofs.books.Book.play_to_end.Goals as goal

pub complete_open-requires-clause-running : goal.complete_open-requires-clause-running
complete_open-requires-clause-running c = c.requires.kept.running c.if-self.false

pub loop-number-init : goal.loop-number-init
loop-number-init c =
    let follows = c.in_ok-complete_open.ensures.follows in
    let completed = c.in_ok-complete_open.ensures.completions in
    record {
      kept = running_is_book c.args.self.now c.complete_open.new.self c.requires.kept follows.setup follows.works follows.opening follows.entered c.in_ok-complete_open.ensures.running;
      running = c.in_ok-complete_open.ensures.running;
      none_open = c.in_ok-complete_open.ensures.none_open;
      setup = follows.setup;
      events = record { more = completed.0; whole_is = completed.1; alone = goes_on_from completed.2.0 completed.0 completed.2.1; gives_none_back = completed.3 };
      made = λ uncut. sym c.len-number.ensures;
    }

pub loop-number-preserved : goal.loop-number-preserved
loop-number-preserved c =
    let mid = c.take_end.new.self in
    let same : c.take_end.new.self ≡ c.loop-number.self = c.take_end.ensures.same c.in_default.is in
    let goes_on = c.take_end.ensures.goes_on c.in_default.is in
    let follows = c.in_ok-play_round.ensures.follows in
    let kept : IsBook c.take_end.new.self = subst IsBook (sym same) c.loop-number.invariant.kept in
    let before = c.loop-number.invariant.events in
    let round = c.in_ok-play_round.ensures.rounds in
    let setups : setup_in c.take_end.new.self ≡ setup_in c.args.self.now = ap setup_in same ∙ ap setup_view c.loop-number.invariant.setup in
    let journals : journal_in c.take_end.new.self ≡ journal_in c.args.self.now ++ c.loop-number.invariant.events.more = ap journal_in same ∙ before.whole_is in
    let gives_none : GivesNoneBack (setup_in c.args.self.now) (journal_in c.args.self.now ++ c.loop-number.invariant.events.more) c.in_ok-play_round.ensures.rounds.0 =
    subst (λ s. GivesNoneBack s (journal_in c.args.self.now ++ c.loop-number.invariant.events.more) c.in_ok-play_round.ensures.rounds.0) setups
    (subst (λ es. GivesNoneBack (setup_in c.take_end.new.self) es c.in_ok-play_round.ensures.rounds.0) journals round.3) in
    record {
      kept = running_is_book c.take_end.new.self c.play_round.new.self kept follows.setup follows.works follows.opening follows.entered c.in_ok-play_round.ensures.running;
      running = c.in_ok-play_round.ensures.running;
      none_open = c.in_ok-play_round.ensures.none_open;
      setup = follows.setup ∙ ap (λ (b : Book). b.setup) same ∙ c.loop-number.invariant.setup;
      events = record {
        more = before.more ++ round.0;
        whole_is = round.1 ∙ ap (λ (b : Book). journal_in b ++ round.0) same ∙ ap (λ es. es ++ round.0) before.whole_is ∙ append_assoc (journal_in c.args.self.now) before.more round.0;
        alone = goes_on_by before.more round.0 before.alone round.2;
        gives_none_back = both_give_none (setup_in c.args.self.now) (journal_in c.args.self.now) before.more round.0 before.gives_none_back gives_none;
      };
      made = λ uncut. (let one = c.in_ok-play_round.ensures.made uncut in let old = ap (λ (b : Book). claims_made (log_view b.standing.log)) same in let number = c.loop-number.invariant.made goes_on.uncut in omega (arith, one, old, number));
    }

pub returns-in-Some-clause-setup : goal.returns-in-Some-clause-setup
returns-in-Some-clause-setup c = c.take_end.ensures.setup ∙ ap setup_view c.loop-number.invariant.setup

pub returns-clause-setup : goal.returns-clause-setup
returns-clause-setup c = c.take_end-2.ensures.setup ∙ ap setup_view c.loop-number.invariant.setup

pub returns-in-Some-clause-goes_on : goal.returns-in-Some-clause-goes_on
returns-in-Some-clause-goes_on c = subst (GoesOnAloneTo (setup_in c.args.self.now) (journal_in c.args.self.now)) (sym c.take_end.ensures.journal) c.loop-number.invariant.events

pub returns-clause-goes_on : goal.returns-clause-goes_on
returns-clause-goes_on c = subst (GoesOnAloneTo (setup_in c.args.self.now) (journal_in c.args.self.now)) (sym c.take_end-2.ensures.journal) c.loop-number.invariant.events
