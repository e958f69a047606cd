-- Each open claim is completed, so none is open at the end.
use Rattle.std.proofs.Common.{◌≢◌, ◌+◌, ◌<◌, ◌++◌, [], map, refl, sym, ap, ◌∙◌, subst, arith, append_assoc}
use Rattle.std.proofs.lemmas.List.{append-nil}
use Rattle.cpn_log.specs.Logs.{claims_made}
use Rattle.cpn_log.specs.LogViews.{log_view}
use Rattle.cpn_runs.specs.FinishedViews.{setup_view}
use Rattle.cpn_runs.specs.Views.{event_view}
use Rattle.cpn_book.specs.GoingAlone.{GivesNoneBack}
use Rattle.cpn_book.specs.Standings.{events_in}
use Rattle.cpn_book.proofs.CommittedStandings.{same_but_journal, still_at, still_through}
use Rattle.cpn_book.proofs.GoingAlone.{completions_joined, nothing_gives_none, both_give_none}
use Rattle.cpn_book.proofs.HeldSeats.{none_counted_held}
use Rattle.cpn_book.proofs.OpenNumbers.{held_below}
use Rattle.cpn_book.proofs.alone.complete_all.Goals as goal

pub loop-number-init : goal.loop-number-init
loop-number-init c =
    let s = setup_view c.args.setup.now in
    let old = c.args.standing.now in
    let at = same_but_journal s old _ c.requires.at refl c.reserve.ensures.items in
    let ok = c.in_ok-reserve.ensures.ok in
    record {
      at = at;
      clock = refl;
      told = λ m stayed. stayed;
      room = omega (arith, ok);
      few = omega arith;
      closed = λ t k holds. omega arith;
      events = ([], ap (map event_view) c.reserve.ensures.items ∙ sym (append-nil (events_in old)), omega arith, nothing_gives_none s (events_in old));
      committed = still_at s old _ c.requires.at.at refl refl refl;
    }

pub loop-number-preserved : goal.loop-number-preserved
loop-number-preserved c =
    let s = setup_view c.args.setup.now in
    let before = c.loop-number.invariant.events in
    let more = c.in_ok-complete_number.ensures.completions in
    let fewer = c.in_ok-complete_number.ensures.few in
    let few = c.loop-number.invariant.few in
    record {
      at = c.in_ok-complete_number.ensures.at;
      clock = c.complete_number.ensures.clock ∙ c.loop-number.invariant.clock;
      told = λ m stayed. c.in_ok-complete_number.ensures.told m (c.loop-number.invariant.told m stayed);
      room = c.in_ok-complete_number.ensures.room;
      few = omega (arith, fewer, few);
      closed = λ t k holds. (let both = c.in_ok-complete_number.ensures.frees t k holds in let le = c.loop-number.invariant.closed t k both.0 in let other : k ≢ c.loop-number.number = both.1 in omega (arith, le, other));
      events = (before.0 ++ more.0, more.1 ∙ ap (λ es. es ++ more.0) before.1 ∙ append_assoc (events_in c.args.standing.now) before.0 more.0, completions_joined 0 c.loop-number.number (c.loop-number.number + 1) before.0 more.0 before.2 more.2, both_give_none s (events_in c.args.standing.now) before.0 more.0 before.3 (subst (λ es. GivesNoneBack (setup_view c.args.setup.now) es c.in_ok-complete_number.ensures.completions.0) before.1 more.3));
      committed = still_through s c.args.standing.now c.loop-number.standing c.complete_number.new.standing c.loop-number.invariant.committed c.complete_number.ensures.committed;
    }

pub returns-clause-completions : goal.returns-clause-completions
returns-clause-completions c = let events = c.loop-number.invariant.events in (events.0, events.1, (c.loop-number.number, events.2), events.3)

pub returns-clause-none_open : goal.returns-clause-none_open
returns-clause-none_open c =
    let s = setup_view c.args.setup.now in
    none_counted_held c.loop-number.standing.held.items (λ t k holds.
    let below : k < claims_made (log_view c.loop-number.standing.log) = held_below s c.loop-number.standing c.loop-number.invariant.at t k holds in
    let closed = c.loop-number.invariant.closed t k holds in
    let few = c.loop-number.invariant.few in
    let end = c.loop-number-test.false in
    omega (arith, below, closed, few, end))

pub returns-in_err-reserve-clause-committed : goal.returns-in_err-reserve-clause-committed
returns-in_err-reserve-clause-committed c = still_at (setup_view c.args.setup.now) c.args.standing.now _ c.requires.at.at refl refl refl
