-- The arcs so far.
use Rattle.std.proofs.Common.{◌≡◌, take}
use Rattle.cpn_core.specs.Nets.{arcs_view}
use Rattle.cpn_edit_texts.proofs.guards.shared_arcs.Given as goal

abbrev pub invariant-loop-arc : goal.invariant-loop-arc
invariant-loop-arc l = arcs_view l.made.items ≡ arcs_view (take l.arc-index l.arcs)
