-- The stages so far, and those of the arcs that are left, are those of all.
use Rattle.std.proofs.Common.{◌≡◌, ◌++◌, drop}
use Rattle.std.specs.List.{flat_map}
use Rattle.cpn_core.specs.Nets.{arcs_view}
use Rattle.cpn_search.specs.StageViews.{carried_stages, stages_view}
use Rattle.cpn_search.proofs.plan.term_stages.Given as goal

abbrev pub invariant-loop-arc : goal.invariant-loop-arc
invariant-loop-arc l = stages_view l.stages.items ++ flat_map carried_stages (arcs_view (drop l.arc-index l.inputs)) ≡ flat_map carried_stages (arcs_view l.inputs)
