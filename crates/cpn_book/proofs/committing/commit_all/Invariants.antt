-- What is next may be committed, what was committed before still is, and as many claims are there; so many of them are committed.
use Rattle.std.proofs.Common.{◌≡◌, length}
use Rattle.cpn_log.specs.Logs.{claims_made}
use Rattle.cpn_log.specs.LogViews.{log_view}
use Rattle.cpn_runs.specs.FinishedViews.{setup_view}
use Rattle.cpn_book.specs.Committing.{MayCommit}
use Rattle.cpn_book.specs.Standings.{StillCommitted}
use Rattle.cpn_book.proofs.committing.commit_all.Given as goal

abbrev pub invariant-loop-number : goal.invariant-loop-number
invariant-loop-number l = record {
  may : MayCommit (setup_view l.setup) l.standing;
  committed : StillCommitted (setup_view l.setup) l.initial.standing l.standing;
  many : length (log_view l.standing.log).committed ≡ l._number;
  made : claims_made (log_view l.standing.log) ≡ claims_made (log_view l.initial.standing.log);
  unclaimed : (log_view l.standing.log).unclaimed ≡ (log_view l.initial.standing.log).unclaimed;
  clock : l.standing.clock ≡ l.initial.standing.clock;
  journal : l.standing.journal ≡ l.initial.standing.journal;
  cut : l.standing.cut ≡ l.initial.standing.cut;
  held : l.standing.held ≡ l.initial.standing.held;
}
