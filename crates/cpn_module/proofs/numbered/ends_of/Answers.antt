-- The names of each arc are known.
use Rattle.std.proofs.Common.{map, ap, arith}
use Rattle.cpn_document.specs.Views.{arc_view}
use Rattle.cpn_module.specs.Named.{ends_among}
use Rattle.cpn_module.specs.Known.{IsKnownArc}
use Rattle.cpn_module.specs.Views.{ends_view}
use Rattle.cpn_module.proofs.CheckedItems.{seen_at}
use Rattle.cpn_module.proofs.MappedLists.{mapped_all}
use Rattle.cpn_module.proofs.numbered.ends_of.Goals as goal

pub number_there-requires : goal.number_there-requires
number_there-requires c = record { there = rw c.as_str.ensures.value (seen_at (IsKnownArc c.args.places.now c.args.transitions.now c.args.subs.now) arc_view c.args.arcs.now c.loop-arc.arc-index c.arc-item.result c.loop-arc-test.true c.arc-item.is c.requires.known).place }

pub node_of-requires : goal.node_of-requires
node_of-requires c = record { there = rw c.as_str-in-loop-arc.ensures.value (seen_at (IsKnownArc c.args.places.now c.args.transitions.now c.args.subs.now) arc_view c.args.arcs.now c.loop-arc.arc-index c.arc-item.result c.loop-arc-test.true c.arc-item.is c.requires.known).node }

pub loop-arc-init : goal.loop-arc-init
loop-arc-init c = ap (λ made. map ends_view made) c.in_ok-ends.ensures.items

pub returns : goal.returns
returns c = record { ends = mapped_all (ends_among c.args.places.now c.args.transitions.now c.args.subs.now) arc_view c.args.arcs.now c.loop-arc.arc-index (omega arith) _ c.loop-arc.invariant }
