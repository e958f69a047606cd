-- Each place at which a monitor looks is there.
use Rattle.std.proofs.Common.{List, map, subst, sym, arith}
use Rattle.std.specs.List.{AllByRecursion}
use Rattle.cpn_monitor.specs.Noted.{MayLook}
use Rattle.cpn_monitor.specs.Views.{monitor_view}
use Rattle.cpn_monitor.specs.declared.monitors.Monitor.{Monitor}
use Rattle.cpn_monitor.proofs.ValueViews.{seen_here}
use Rattle.cpn_monitor.proofs.monitors.Monitors.values_at_start.Goals as goal

pub at_start-measured-requires-clause-seen : goal.at_start-measured-requires-clause-seen
at_start-measured-requires-clause-seen c =
    let items = c.deref-monitor-items in
    let P : List Monitor → Type 0 = λ monitors. AllByRecursion (λ monitor. MayLook c.args.marking.now monitor.measure) (map monitor_view monitors) in
    seen_here (λ monitor. MayLook c.args.marking.now monitor.measure) items.result.now c.loop-monitor.monitor-index c.monitor-item.result (subst P (sym items.ensures.value) c.requires.seen) (omega arith) c.monitor-item.is
