use Rattle.std.proofs.Common.{rules}
use Rattle.cpn_probe.proofs.BoxedProbes.{reported_through}
use Rattle.cpn_probe.proofs.boxes.BoxDynProbeProbe.report.Goals as goal

pub returns : goal.returns
returns g c = reported_through (λ i x. (goal.Probe-dyn g (i, x)).Reports x) c.args.self.now _ _ _ _ _ c.report.ensures (search rules)
