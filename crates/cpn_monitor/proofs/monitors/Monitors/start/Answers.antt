-- What is measured at the start is kept of a run that has begun.
use Rattle.std.proofs.Common.{subst, arith, List, map}
use Rattle.cpn_core.specs.Inscriptions.{funs_view}
use Rattle.cpn_monitor.specs.Watched.{AreWatched}
use Rattle.cpn_monitor.specs.declared.monitors.Monitor.{Monitor}
use Rattle.cpn_monitor.specs.MeasuredRuns.{begun}
use Rattle.cpn_monitor.specs.Views.{monitor_view, monitors_view, watched_view}
use Rattle.cpn_monitor.proofs.ToldRuns.{kept_at_start}
use Rattle.cpn_monitor.proofs.monitors.Monitors.start.Goals as goal

pub returns : goal.returns
returns c =
    let all = kept_at_start (funs_view c.args.self.now.funs.value) (monitors_view c.args.self.now) (begun c.args.marking.now c.args.clock) _ (c.in_ok-values.ensures.values (funs_view c.args.self.now.funs.value)) in
    record {
      started = record {
        timely = omega arith;
        up_to = all.up_to;
        values_are = all.values_are;
        watched = subst (λ (monitors : List Monitor). AreWatched (map monitor_view monitors) (watched_view c.in_ok-watched.watched)) c.deref.ensures.value c.in_ok-watched.ensures.watched;
        beside = c.in_ok-beside.ensures.beside;
        quiet = λ quiet. cc;
      };
    }
