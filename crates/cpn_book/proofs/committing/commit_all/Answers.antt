-- Each commitment leads on, and keeps what was committed before.
use Rattle.std.proofs.Common.{refl, sym}
use Rattle.cpn_runs.specs.FinishedViews.{setup_view}
use Rattle.cpn_book.proofs.CommittedStandings.{still_at, still_through}
use Rattle.cpn_book.proofs.committing.commit_all.Goals as goal

pub returns-in_err-commit_next-clause-committed : goal.returns-in_err-commit_next-clause-committed
returns-in_err-commit_next-clause-committed c =
    still_through (setup_view c.args.setup.now) c.args.standing.now c.loop-number.standing c.commit_next.new.standing c.loop-number.invariant.committed c.commit_next.ensures.committed

pub loop-number-init : goal.loop-number-init
loop-number-init c = record {
  may = c.requires.may;
  committed = still_at (setup_view c.args.setup.now) c.args.standing.now c.args.standing.now c.requires.may.told refl refl refl;
  many = sym c.committed-number.ensures;
  made = refl;
  unclaimed = refl;
  clock = refl;
  journal = refl;
  cut = refl;
  held = refl;
}
