use Rattle.std.proofs.Common.{rules}
use Rattle.cpn_probe.proofs.BoxedProbes.{noted_through, unchanged_through}
use Rattle.cpn_probe.proofs.boxes.BoxDynProbeProbe.note.Goals as goal

pub returns-clause-noted : goal.returns-clause-noted
returns-clause-noted g c = noted_through (λ i x. (goal.Probe-dyn g (i, x)).Notes x) c.args.self.now _ _ _ _ _ c.note.ensures.0 (search rules)

pub returns-clause-unchanged : goal.returns-clause-unchanged
returns-clause-unchanged g c = unchanged_through c.args.self.now _ _ _ _ c.note.ensures.1 (search rules)
