use Rattle.std.proofs.Common.{map, take}
use Rattle.cpn_core.specs.Occurrences.{occurrence_view}
use Rattle.cpn_probe.specs.Told.{IsTold}
use Rattle.cpn_probe.proofs.telling.tell.Given as goal

abbrev pub invariant-loop-occurrence : goal.invariant-loop-occurrence
invariant-loop-occurrence g l = IsTold g.P.Probe.Notes l.initial.probe (map occurrence_view (take l.occurrence-index l.occurrences)) l.probe
