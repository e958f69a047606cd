-- A fault adds nothing: the log stays kept with the same run.
use Rattle.std.proofs.Common.{◌≡◌, ◌-◌, ◌<◌, ℕ, length, refl, sym, ap, ap₂, subst, ◌∙◌, arith}
use Rattle.cpn_core.specs.Faults.{fault_view}
use Rattle.cpn_runs.specs.HoleRun.{faulted_with}
use Rattle.cpn_log.specs.Logs.{with_status}
use Rattle.cpn_log.specs.LogViews.{log_view}
use Rattle.cpn_log.proofs.LogParts.{open_at}
use Rattle.cpn_log.proofs.LogSteps.{open_within}
use Rattle.cpn_log.proofs.Completions.{kept_completed, run_with_none}
use Rattle.cpn_log.proofs.ClaimStandings.{failed_stands}
use Rattle.cpn_log.proofs.logs.Log.fail.Goals as goal
use Rattle.cpn_log.proofs.logs.Log.fail.Goals.{After-complete}

pub position-position-requires : goal.position-position-requires
position-position-requires c = record { behind = (open_at (log_view c.args.self.now) c.args.number c.requires.open).behind }

pub complete-requires : goal.complete-requires
complete-requires c = let log = log_view c.args.self.now in record { within = subst (λ (k : ℕ). k < length log.claims) (sym c.position-position.ensures) (open_within log c.args.number (open_at log c.args.number c.requires.open)) }

failed : (c : After-complete) → (log_view c.complete.new.self).claims ≡ with_status (faulted_with (fault_view c.args.fault)) (c.args.number - length (log_view c.args.self.now).committed) (log_view c.args.self.now).claims
failed c = c.complete.ensures.completed ∙ ap (λ (k : ℕ). with_status (faulted_with (fault_view c.args.fault)) k (log_view c.args.self.now).claims) c.position-position.ensures

pub returns-clause-failed : goal.returns-clause-failed
returns-clause-failed c = failed (goal.at.returns-clause-failed c).After-complete

pub returns-clause-kept : goal.returns-clause-kept
returns-clause-kept c =
    let log = log_view c.args.self.now in
    let o = open_at log c.args.number c.requires.open in
    let status = faulted_with (fault_view c.args.fault) in
    kept_completed log c.args.number c.requires.kept o (log_view c.complete.new.self) status (omega arith) c.complete.ensures.committed c.complete.ensures.settled (failed (goal.at.returns-clause-kept c).After-complete)
    (ap₂ (λ m ps. record { marking = m; picks = ps }) c.complete.ensures.unclaimed c.complete.ensures.picks ∙ run_with_none log c.args.number c.requires.kept o status refl)

pub returns-clause-stands : goal.returns-clause-stands
returns-clause-stands c =
    let log = log_view c.args.self.now in
    failed_stands log (log_view c.complete.new.self) c.args.number (fault_view c.args.fault) (open_at log c.args.number c.requires.open) c.complete.ensures.committed (failed (goal.at.returns-clause-stands c).After-complete)
