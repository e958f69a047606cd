-- The next occurrence is noted, or the probe is as it was.
use Rattle.std.proofs.Common.{rules, arith}
use Rattle.cpn_core.specs.Occurrences.{occurrence_view}
use Rattle.cpn_probe.proofs.Tellings.{told_more, told_prefix}
use Rattle.cpn_probe.proofs.telling.tell.Goals as goal

pub returns-in_err-note-clause-prefix : goal.returns-in_err-note-clause-prefix
returns-in_err-note-clause-prefix g c =
    let told = told_prefix g.P.Probe.Notes occurrence_view c.args.occurrences.now c.loop-occurrence.occurrence-index _ _ _ c.loop-occurrence.invariant c.in_err-note.ensures.unchanged in
    search rules

pub loop-occurrence-preserved : goal.loop-occurrence-preserved
loop-occurrence-preserved g c =
    told_more g.P.Probe.Notes occurrence_view c.args.occurrences.now c.loop-occurrence.occurrence-index c.occurrence-item.result _ _ _ (omega arith) c.occurrence-item.is c.loop-occurrence.invariant c.in_ok-note.ensures.noted
