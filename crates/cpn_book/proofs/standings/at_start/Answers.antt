-- A run stands at its start where no claim is made and no seat holds one.
use Rattle.std.proofs.Common.{◌≡◌, ℕ, zero, suc, ◌<◌, ◌≤◌, ◌^◌, arith, map, take, List, [], length, replicate, Option, Some, None, refl, sym, ap, ◌∙◌, subst, slice_get}
use Rattle.cpn_definitions.specs.Marking.{Marking, tokens_at, AreSorted}
use Rattle.cpn_definitions.proofs.Markings.{held_at}
use Rattle.cpn_log.specs.Kept.{IsKept}
use Rattle.cpn_log.specs.Logs.{PlainLog, started, head_of}
use Rattle.cpn_log.specs.LogViews.{log_view}
use Rattle.cpn_jobs.specs.Views.{job_view}
use Rattle.cpn_core.specs.Occurrences.{occurrence_view}
use Rattle.cpn_runs.specs.Views.{event_view}
use Rattle.cpn_book.specs.StandingRuns.{IsTold, StandsAt}
use Rattle.cpn_book.specs.Standings.{job_for}
use Rattle.std.proofs.lemmas.List.{length-replicate}
use Rattle.std.specs.List.{AllByRecursion}
use Rattle.cpn_core.specs.Inscriptions.{funs_view}
use Rattle.cpn_core.specs.Nets.{net_view}
use Rattle.cpn_core.specs.declared.nets.Net.{Net}
use Rattle.cpn_monitor.specs.Kept.{AreKept}
use Rattle.cpn_monitor.specs.Noted.{MayLook}
use Rattle.cpn_monitor.specs.Views.{monitors_view, measuring_view}
use Rattle.cpn_monitor.specs.declared.monitors.Monitors.{Monitors}
use Rattle.cpn_runs.specs.HoleRun.{PlainClaim}
use Rattle.cpn_runs.specs.MeasuredStates.{run_of}
use Rattle.cpn_runs.proofs.MeasuredStates.{may_look_at_start}
use Rattle.cpn_book.proofs.MeasuredStandings.{measured_alike}
use Rattle.cpn_runs.specs.State.{first_state, numbered}
use Rattle.cpn_runs.specs.FinishedViews.{setup_view}
use Rattle.cpn_book.proofs.StartedRuns.{stands_at_start}
use Rattle.cpn_book.proofs.standings.at_start.Goals as goal

pub start-requires-2-clause-sorted : goal.start-requires-2-clause-sorted
start-requires-2-clause-sorted c = λ p. subst (λ (m : Marking). AreSorted (tokens_at m p)) (sym c.in_ok-copy.ensures.same) (held_at (setup_view c.args.setup.now).net.places c.args.setup.now.start c.requires.playable.marking p).0

pub start-requires-2-clause-few : goal.start-requires-2-clause-few
start-requires-2-clause-few c = λ p. subst (λ (m : Marking). length (tokens_at m p) ≤ 2 ^ 47) (sym c.in_ok-copy.ensures.same) (c.requires.playable.bounded p)

pub start-requires-clause-seen : goal.start-requires-clause-seen
start-requires-clause-seen c =
    subst (λ (d : Monitors). AllByRecursion (λ monitor. MayLook c.args.setup.now.start monitor.measure) (monitors_view d)) (sym c.deref.ensures) (may_look_at_start (setup_view c.args.setup.now) c.requires.playable)

abbrev nobody : Option ℕ
nobody = None

abbrev no_claims : List PlainClaim
no_claims = []

none_at : (n s : ℕ) → s < n → slice_get (replicate n nobody) s ≡ Some nobody
none_at zero s lt = absurd (omega arith)
none_at (suc n) zero lt = refl
none_at (suc n) (suc s) lt = none_at n s (omega arith)

none_taken : (k : ℕ) → take k no_claims ≡ []
none_taken zero = refl
none_taken (suc k) = refl

pub returns-clause-starts : goal.returns-clause-starts
returns-clause-starts c =
    let s = setup_view c.args.setup.now in
    let held = c.in_ok-held.held.items in
    let log = c.in_ok-log.log in
    let is : log_view log ≡ started s.start = c.in_ok-log.ensures.started ∙ ap started c.in_ok-copy.ensures.same in
    let kept : IsKept (started s.start) = subst IsKept is c.in_ok-log.ensures.kept in
    let none : held ≡ replicate s.limits.seats None = c.in_ok-held.ensures.none in
    let long : length held ≡ s.limits.seats = ap length none ∙ length-replicate s.limits.seats None in
    let each : (n : ℕ) → n < s.limits.seats → slice_get held n ≡ Some None = λ n lt. ap (λ hs. slice_get hs n) none ∙ none_at s.limits.seats n lt in
    let empty : map event_view c.in_ok-journal.journal.items ≡ [] = ap (map event_view) c.in_ok-journal.ensures.items in
    let stands : StandsAt s [] (first_state s) (log_view log) held = subst (λ l. StandsAt s [] (first_state s) l held) (sym is) (stands_at_start s held kept long each) in
    record {
      at = record {
        state = first_state s;
        told = subst (λ es. IsTold s es (first_state s) (log_view log) held) (sym empty) stands.told;
        clock = refl;
        cut = refl;
        jobs = ap (map job_view) c.in_ok-log.ensures.jobs ∙ sym (ap (λ l. map (job_for s.net) (map head_of l.claims)) is);
        occurrences = ap (map occurrence_view) c.new.ensures.items ∙ ap (numbered 0) (sym (none_taken (length (log_view log).committed)));
        measured =
            measured_alike s s.clock s.clock [] (take (length (log_view log).committed) no_claims) (measuring_view c.in_ok-measuring.measuring) (measuring_view c.in_ok-measuring.measuring) refl (none_taken (length (log_view log).committed)) refl
            (subst (λ (n : Net). AreKept (net_view n) s.functions s.monitors (run_of s s.clock []) (measuring_view c.in_ok-measuring.measuring)) c.deref-2.ensures
            (subst (λ (d : Monitors). AreKept (net_view c.deref-2.result.now) (funs_view d.funs.value) (monitors_view d) (run_of s s.clock []) (measuring_view c.in_ok-measuring.measuring)) c.deref.ensures c.in_ok-measuring.ensures.started));
        made_now = subst (λ (l : PlainLog). AllByRecursion (λ (claim : PlainClaim). claim.time ≡ s.clock) l.claims) (sym is) tt;
        draw = λ none_yet. c.new-2.ensures;
      };
      all_committed = stands.all_committed;
      none_owed = stands.none_owed;
    }
