-- The needs so far with those of the arcs that are left are those of all arcs.
use Rattle.std.proofs.Common.{◌≡◌, [], drop}
use Rattle.cpn_definitions.specs.Occurrence.{gather, needed_cmp, needed_by}
use Rattle.cpn_core.specs.Inscriptions.{funs_view}
use Rattle.cpn_core.specs.Nets.{arcs_view}
use Rattle.cpn_elements.specs.Summed.{and_these}
use Rattle.cpn_elements.proofs.needs.needs_among.Given as goal

abbrev pub invariant-loop-arc : goal.invariant-loop-arc
invariant-loop-arc l =
    and_these needed_cmp l.needs (gather (needed_by (funs_view l.funs) l.binding) (arcs_view (drop l.arc-index l.arcs)))
    ≡ and_these needed_cmp [] (gather (needed_by (funs_view l.funs) l.binding) (arcs_view l.arcs))
