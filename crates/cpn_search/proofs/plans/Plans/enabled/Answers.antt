-- Transition by transition the list has the enabled elements.
use Rattle.std.proofs.Common.{map, arith}
use Rattle.cpn_core.specs.Elements.{enabled_view}
use Rattle.cpn_core.specs.Nets.{net_view}
use Rattle.cpn_search.specs.FoundViews.{found_view}
use Rattle.cpn_search.proofs.FoundElements.{entries_from_clock, needs_from_clock}
use Rattle.cpn_search.proofs.PlannedTransitions.{plan_at, planned_number}
use Rattle.cpn_search.proofs.Transitions.{entries_more, entries_all}
use Rattle.cpn_search.proofs.plans.Plans.enabled.Goals as goal

pub loop-t-preserved : goal.loop-t-preserved
loop-t-preserved c =
    let n = net_view c.args.net.now in
    let found = c.in_ok-found.field-0.found.items in (
      entries_more n c.args.marking.now c.args.clock c.loop-t.t (map enabled_view c.loop-t.listed.items) (map enabled_view c.push_elements.new.listed.items) (map found_view found) c.loop-t.invariant.0 c.in_ok-found.ensures.enabled
          (entries_from_clock n c.args.clock c.loop-t.t c.loop-t.listed.items c.push_elements.new.listed.items found c.in_ok-push_elements.ensures.appended c.in_ok-found.ensures.elements),
      needs_from_clock n c.args.clock c.loop-t.t c.loop-t.listed.items c.push_elements.new.listed.items found c.in_ok-push_elements.ensures.appended c.in_ok-found.ensures.elements c.loop-t.invariant.1,
    )

pub returns : goal.returns
returns c = record {
  enabled = entries_all c.args.net.now c.args.marking.now c.args.clock c.loop-t.t (map enabled_view c.loop-t.listed.items) c.loop-t.invariant.0 (let each = planned_number c.args.net.now c.args.self.now c.requires.planned in omega (arith, each));
  needs = c.loop-t.invariant.1;
}

pub search_by-requires-clause-in_range : goal.search_by-requires-clause-in_range
search_by-requires-clause-in_range c = let each = planned_number c.args.net.now c.args.self.now c.requires.planned in omega (arith, each)

pub search_by-requires-clause-planned : goal.search_by-requires-clause-planned
search_by-requires-clause-planned c = plan_at (net_view c.args.net.now) c.args.self.now.plans.items c.loop-t.t c.index.result.now (omega arith) c.index.ensures c.requires.planned.are
