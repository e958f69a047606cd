-- One probe more is told all occurrences, or a prefix of them.
use Rattle.std.proofs.Common.{rules, arith, ◌≡◌, length, map, add-one, subst}
use Rattle.cpn_core.specs.Occurrences.{occurrence_view}
use Rattle.cpn_probe.proofs.ToldProbes.{AreToldUpTo, one_more_told, all_told, prefixes_told}
use Rattle.cpn_probe.proofs.telling.tell_each.Goals as goal

pub returns-in_err-tell-clause-prefix : goal.returns-in_err-tell-clause-prefix
returns-in_err-tell-clause-prefix g c =
    let told = prefixes_told g.P.Probe.Notes (map occurrence_view c.args.occurrences.now) c.loop-number.number c.args.probes.now c.loop-number.probes c.index-probes-number.result _ c.loop-number.invariant c.in_err-tell.ensures.prefix in
    search rules

pub loop-number-preserved : goal.loop-number-preserved
loop-number-preserved g c =
    rw add-one (one_more_told g.P.Probe.Notes (map occurrence_view c.args.occurrences.now) c.loop-number.number c.args.probes.now c.loop-number.probes c.index-probes-number.result _ c.loop-number.invariant c.in_ok-tell.ensures.told)

pub returns-clause-told : goal.returns-clause-told
returns-clause-told g c =
    let all : c.loop-number.number ≡ length c.args.probes.now = omega arith in
    all_told g.P.Probe.Notes (map occurrence_view c.args.occurrences.now) c.args.probes.now c.loop-number.probes
    (subst (λ number. AreToldUpTo g.P.Probe.Notes (map occurrence_view c.args.occurrences.now) number c.args.probes.now c.loop-number.probes) all c.loop-number.invariant)
