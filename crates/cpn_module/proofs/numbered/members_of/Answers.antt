-- The names of each member are known.
use Rattle.std.proofs.Common.{map, ap, arith}
use Rattle.cpn_document.specs.Views.{member_view}
use Rattle.cpn_module.specs.Names.{member_among}
use Rattle.cpn_module.specs.Known.{IsKnownMember}
use Rattle.cpn_module.specs.Views.{fused_view}
use Rattle.cpn_module.proofs.CheckedItems.{seen_at}
use Rattle.cpn_module.proofs.MappedLists.{mapped_all}
use Rattle.cpn_module.proofs.NameNumbers.{number_within}
use Rattle.cpn_module.proofs.numbered.members_of.Goals as goal

pub number_there-of_module-requires : goal.number_there-of_module-requires
number_there-of_module-requires c = record { there = rw c.as_str.ensures.value (seen_at (IsKnownMember c.args.names.now.modules c.args.names.now.places.items) member_view c.args.members.now c.loop-member.member-index c.member-item.result c.loop-member-test.true c.member-item.is c.requires.known).of_module }

pub place-place-requires-clause-in_range : goal.place-place-requires-clause-in_range
place-place-requires-clause-in_range c =
    let known = seen_at (IsKnownMember c.args.names.now.modules c.args.names.now.places.items) member_view c.args.members.now c.loop-member.member-index c.member-item.result c.loop-member-test.true c.member-item.is c.requires.known in
    number_within c.number_there-of_module.result c.as_str.result.now c.args.names.now.modules _ c.number_there-of_module.ensures.number (rw c.as_str.ensures.value known.of_module) c.requires.many

pub place-place-requires-clause-there : goal.place-place-requires-clause-there
place-place-requires-clause-there c =
    let known = seen_at (IsKnownMember c.args.names.now.modules c.args.names.now.places.items) member_view c.args.members.now c.loop-member.member-index c.member-item.result c.loop-member-test.true c.member-item.is c.requires.known in
    rw (c.as_str-in-loop-member.ensures.value, c.number_there-of_module.ensures.number, c.as_str.ensures.value) known.place

pub loop-member-init : goal.loop-member-init
loop-member-init c = ap (λ made. map fused_view made) c.in_ok-fused.ensures.items

pub returns : goal.returns
returns c = record { members = mapped_all (member_among c.args.names.now.modules c.args.names.now.places.items) member_view c.args.members.now c.loop-member.member-index (omega arith) _ c.loop-member.invariant }
