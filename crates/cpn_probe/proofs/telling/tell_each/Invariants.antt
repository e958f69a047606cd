-- The probes so far are told all occurrences.
use Rattle.std.proofs.Common.{map}
use Rattle.cpn_core.specs.Occurrences.{occurrence_view}
use Rattle.cpn_probe.proofs.ToldProbes.{AreToldUpTo}
use Rattle.cpn_probe.proofs.telling.tell_each.Given as goal

abbrev pub invariant-loop-number : goal.invariant-loop-number
invariant-loop-number g l = AreToldUpTo g.P.Probe.Notes (map occurrence_view l.occurrences) l.number l.initial.probes l.probes
