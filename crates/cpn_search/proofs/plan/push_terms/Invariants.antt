-- The stages so far are those of the terms so far.
use Rattle.std.proofs.Common.{◌≡◌, ◌++◌, take}
use Rattle.cpn_core.specs.Nets.{arc_view}
use Rattle.cpn_search.specs.StageViews.{stages_view, carried_stages}
use Rattle.cpn_search.proofs.plan.push_terms.Given as goal

abbrev pub invariant-loop-number : goal.invariant-loop-number
invariant-loop-number l = stages_view l.stages.items ≡ stages_view l.initial.stages.items ++ take l.number (carried_stages (arc_view l.arc))
