-- The arcs so far.
use Rattle.std.proofs.Common.{◌≡◌, map, take}
use Rattle.cpn_core.specs.Nets.{arcs_view}
use Rattle.cpn_flat.specs.FlatNet.{flat_arc}
use Rattle.cpn_flat.proofs.transitions.flat_arcs.Given as goal

abbrev pub invariant-loop-arc : goal.invariant-loop-arc
invariant-loop-arc l = arcs_view l.made.items ≡ map (flat_arc l.classes l.first) (arcs_view (take l.arc-index l.arcs))
