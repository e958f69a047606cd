-- The names of each substitution transition are known.
use Rattle.std.proofs.Common.{map, ap, arith}
use Rattle.cpn_document.specs.Views.{sub_view}
use Rattle.cpn_module.specs.Names.{substitution_among}
use Rattle.cpn_module.specs.Known.{IsKnownSub}
use Rattle.cpn_module.specs.Views.{substitution_view}
use Rattle.cpn_module.proofs.CheckedItems.{seen_at}
use Rattle.cpn_module.proofs.MappedLists.{mapped_all}
use Rattle.cpn_module.proofs.NameNumbers.{number_within}
use Rattle.cpn_module.proofs.numbered.substitutions_of.Goals as goal

pub number_there-submodule-requires : goal.number_there-submodule-requires
number_there-submodule-requires c = record { there = rw c.as_str.ensures.value (seen_at (IsKnownSub c.args.names.now.modules c.args.names.now.places.items c.args.sockets.now) sub_view c.args.subs.now c.loop-sub.sub-index c.sub-item.result c.loop-sub-test.true c.sub-item.is c.requires.known).submodule }

pub assigned_of-requires-clause-in_range : goal.assigned_of-requires-clause-in_range
assigned_of-requires-clause-in_range c =
    let known = seen_at (IsKnownSub c.args.names.now.modules c.args.names.now.places.items c.args.sockets.now) sub_view c.args.subs.now c.loop-sub.sub-index c.sub-item.result c.loop-sub-test.true c.sub-item.is c.requires.known in
    number_within c.number_there-submodule.result c.as_str.result.now c.args.names.now.modules _ c.number_there-submodule.ensures.number (rw c.as_str.ensures.value known.submodule) c.requires.many

pub assigned_of-requires-clause-known : goal.assigned_of-requires-clause-known
assigned_of-requires-clause-known c =
    let known = seen_at (IsKnownSub c.args.names.now.modules c.args.names.now.places.items c.args.sockets.now) sub_view c.args.subs.now c.loop-sub.sub-index c.sub-item.result c.loop-sub-test.true c.sub-item.is c.requires.known in
    rw (c.as_slice.ensures.value, c.number_there-submodule.ensures.number, c.as_str.ensures.value) known.assignments

pub loop-sub-init : goal.loop-sub-init
loop-sub-init c = ap (λ made. map substitution_view made) c.in_ok-substitutions.ensures.items

pub returns : goal.returns
returns c = record { substitutions = mapped_all (substitution_among c.args.names.now.modules c.args.names.now.places.items c.args.sockets.now) sub_view c.args.subs.now c.loop-sub.sub-index (omega arith) _ c.loop-sub.invariant }
