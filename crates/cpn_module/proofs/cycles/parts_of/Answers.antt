-- The submodules of the next part are added, until each part was looked at.
use Rattle.std.proofs.Common.{arith, rules}
use Rattle.cpn_module.proofs.PartsOfModules.{lists_begin, lists_next, lists_go_on, search_is_short, search_is_over}
use Rattle.cpn_module.proofs.cycles.parts_of.Goals as goal

pub loop-seen-init : goal.loop-seen-init
loop-seen-init c = lists_begin c.args.submodules.now c.args.whole c.requires.there c.requires.below c.index-submodules-whole.result _ _ _ c.index-submodules-whole.is c.as_slice.ensures.numbers c.new-parts.ensures.empty c.in_ok-add_all.ensures.added

pub offset_bounds-submodules-part : goal.offset_bounds-submodules-part
offset_bounds-submodules-part c =
    let next = lists_next c.args.submodules.now c.args.whole c.requires.there c.requires.below c.loop-seen.parts c.loop-seen.seen c.loop-seen.invariant _ c.as_slice-in-loop-seen.ensures.numbers (omega arith) in
    search (rules, next)

pub bounds-submodules-part : goal.bounds-submodules-part
bounds-submodules-part c = lists_next c.args.submodules.now c.args.whole c.requires.there c.requires.below c.loop-seen.parts c.loop-seen.seen c.loop-seen.invariant _ c.as_slice-in-loop-seen.ensures.numbers (omega arith)

pub loop-seen-smaller : goal.loop-seen-smaller
loop-seen-smaller c =
    let few = search_is_short c.args.submodules.now c.args.whole c.requires.there c.requires.below c.loop-seen.parts c.loop-seen.seen c.loop-seen.invariant c.len.ensures.distinct in
    omega (arith, few)

pub loop-seen-preserved : goal.loop-seen-preserved
loop-seen-preserved c = lists_go_on c.args.submodules.now c.args.whole c.requires.there c.requires.below c.loop-seen.parts c.loop-seen.seen c.loop-seen.invariant _ _ _ c.index-submodules-part.result (omega arith) c.as_slice-in-loop-seen.ensures.numbers c.index-submodules-part.is c.as_slice-in-loop-seen-2.ensures.numbers c.in_ok-add_all-2.ensures.added

pub returns : goal.returns
returns c = record { exact = search_is_over c.args.submodules.now c.args.whole c.requires.there c.requires.below c.loop-seen.parts c.loop-seen.seen c.loop-seen.invariant (omega arith) }
