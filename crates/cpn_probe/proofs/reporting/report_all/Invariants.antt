-- The texts are the reports of the probes so far.
use Rattle.std.proofs.Common.{take}
use Rattle.cpn_probe.specs.Reported.{AreReports}
use Rattle.cpn_probe.proofs.reporting.report_all.Given as goal

abbrev pub invariant-loop-probe : goal.invariant-loop-probe
invariant-loop-probe g l = AreReports g.P.Probe.Reports (take l.probe-index l.probes) l.texts.items
