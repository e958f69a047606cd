-- The log stays kept when an open claim is filled: its run is filled, and the changes are those of its outputs.
use Rattle.std.proofs.Common.{◌≡◌, ℕ, ◌-◌, ◌<◌, List, length, sym, ap, ap₂, subst, ◌∙◌}
use Rattle.cpn_runs.specs.Filling.{filled_run}
use Rattle.cpn_runs.specs.HoleRun.{PlainClaim, done_with}
use Rattle.cpn_tmset.specs.Changed.{AreChanges}
use Rattle.cpn_log.specs.FilledLogs.{IsFilledAt}
use Rattle.cpn_log.specs.Logs.{run_behind, with_status}
use Rattle.cpn_log.specs.LogViews.{log_view}
use Rattle.cpn_log.proofs.LogParts.{open_at}
use Rattle.cpn_log.proofs.LogSteps.{open_within}
use Rattle.cpn_log.proofs.Completions.{kept_completed, one_more_each, changed_by, room_behind}
use Rattle.cpn_log.proofs.ClaimStandings.{filled_stands}
use Rattle.cpn_log.proofs.logs.Log.fill.Goals as goal
use Rattle.cpn_log.proofs.logs.Log.fill.Goals.{After-complete}

pub position-position-requires : goal.position-position-requires
position-position-requires c = record { behind = (open_at (log_view c.args.self.now) c.args.number c.requires.open).behind }

pub put_behind-requires-clause-within : goal.put_behind-requires-clause-within
put_behind-requires-clause-within c = let log = log_view c.args.self.now in subst (λ (k : ℕ). k < length log.claims) (sym c.position-position.ensures) (open_within log c.args.number (open_at log c.args.number c.requires.open))

pub put_behind-requires-clause-room : goal.put_behind-requires-clause-room
put_behind-requires-clause-room c = room_behind (log_view c.args.self.now) c.args.number c.requires.kept (open_at (log_view c.args.self.now) c.args.number c.requires.open) c.args.outputs c.requires.few

pub complete-requires : goal.complete-requires
complete-requires c =
    let log = log_view c.args.self.now in
    record { within = subst (λ (cs : List PlainClaim). c.position-position.result < length cs) (sym c.put_behind.ensures.claims) (subst (λ (k : ℕ). k < length log.claims) (sym c.position-position.ensures) (open_within log c.args.number (open_at log c.args.number c.requires.open))) }

-- ---- the claim is done

committed_is : (c : After-complete) → (log_view c.complete.new.self).committed ≡ (log_view c.args.self.now).committed
committed_is c = c.complete.ensures.committed ∙ c.put_behind.ensures.committed

filled : (c : After-complete) → (log_view c.complete.new.self).claims ≡ with_status (done_with c.args.outputs) (c.args.number - length (log_view c.args.self.now).committed) (log_view c.args.self.now).claims
filled c = c.complete.ensures.completed ∙ ap₂ (λ (k : ℕ) cs. with_status (done_with c.args.outputs) k cs) c.position-position.ensures c.put_behind.ensures.claims

run_is : (c : After-complete) → run_behind (log_view c.complete.new.self) ≡ filled_run (c.args.number - length (log_view c.args.self.now).committed) c.args.outputs (run_behind (log_view c.args.self.now))
run_is c =
    ap₂ (λ m ps. record { marking = m; picks = ps }) c.complete.ensures.unclaimed c.complete.ensures.picks ∙ c.in_ok-put_behind.ensures.run
    ∙ ap (λ (k : ℕ). filled_run k c.args.outputs (run_behind (log_view c.args.self.now))) c.position-position.ensures

so_filled : (c : After-complete) → IsFilledAt (c.args.number - length (log_view c.args.self.now).committed) c.args.outputs (log_view c.args.self.now) (log_view c.complete.new.self)
so_filled c =
    let log = log_view c.args.self.now in
    one_more_each log c.args.number c.requires.kept (open_at log c.args.number c.requires.open) (log_view c.complete.new.self) c.args.outputs (run_is c)

pub returns-clause-filled : goal.returns-clause-filled
returns-clause-filled c = filled c

pub returns-clause-filled_run : goal.returns-clause-filled_run
returns-clause-filled_run c = so_filled c

pub returns-clause-kept : goal.returns-clause-kept
returns-clause-kept c =
    let log = log_view c.args.self.now in
    kept_completed log c.args.number c.requires.kept (open_at log c.args.number c.requires.open) (log_view c.complete.new.self) (done_with c.args.outputs) c.requires.few (committed_is c) (c.complete.ensures.settled ∙ c.put_behind.ensures.settled) (filled c) (run_is c)

pub returns-clause-changes : goal.returns-clause-changes
returns-clause-changes c =
    let log = log_view c.args.self.now in
    let new = log_view c.complete.new.self in
    let changes = changed_by log c.args.number c.requires.kept (open_at log c.args.number c.requires.open) c.args.outputs new.unclaimed (so_filled c).more c.changes_of_outputs.ensures.in_order c.requires.in_range in
    subst (AreChanges log.unclaimed new.unclaimed) (sym c.in_ok-changes.ensures.told) changes

pub returns-clause-stands : goal.returns-clause-stands
returns-clause-stands c =
    let log = log_view c.args.self.now in
    filled_stands log (log_view c.complete.new.self) c.args.number c.args.outputs (open_at log c.args.number c.requires.open) (committed_is c) (filled c)
