-- The names of the members of each fusion set are known.
use Rattle.std.proofs.Common.{map, ap, arith}
use Rattle.cpn_document.specs.Views.{fusion_view}
use Rattle.cpn_module.specs.Names.{fusion_among}
use Rattle.cpn_module.specs.Known.{IsKnownFusion}
use Rattle.cpn_module.specs.Views.{fusion_set_view}
use Rattle.cpn_module.proofs.CheckedItems.{seen_at}
use Rattle.cpn_module.proofs.MappedLists.{mapped_all}
use Rattle.cpn_module.proofs.numbered.fusions_of.Goals as goal

pub members_of-requires-clause-known : goal.members_of-requires-clause-known
members_of-requires-clause-known c = rw c.as_slice.ensures.value (seen_at (IsKnownFusion c.args.names.now.modules c.args.names.now.places.items) fusion_view c.args.fusions.now c.loop-fusion.fusion-index c.fusion-item.result c.loop-fusion-test.true c.fusion-item.is c.requires.known)

pub loop-fusion-init : goal.loop-fusion-init
loop-fusion-init c = ap (λ made. map fusion_set_view made) c.in_ok-sets.ensures.items

pub returns : goal.returns
returns c = record { fusions = mapped_all (fusion_among c.args.names.now.modules c.args.names.now.places.items) fusion_view c.args.fusions.now c.loop-fusion.fusion-index (omega arith) _ c.loop-fusion.invariant }
