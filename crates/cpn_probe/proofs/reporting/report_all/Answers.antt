-- The report of the next probe is the next text.
use Rattle.std.proofs.Common.{arith}
use Rattle.cpn_probe.proofs.ReportLists.{reports_more}
use Rattle.cpn_probe.proofs.reporting.report_all.Goals as goal

pub loop-probe-preserved : goal.loop-probe-preserved
loop-probe-preserved g c =
    rw c.in_ok-push.ensures.items (reports_more g.P.Probe.Reports c.args.probes.now c.loop-probe.probe-index c.probe-item.result _ _ (omega arith) c.probe-item.is c.loop-probe.invariant c.in_ok-text.ensures)
