-- The copy of one value more.
use Rattle.std.proofs.Common.{map, ap}
use Rattle.cpn_core.specs.Views.{value_view}
use Rattle.cpn_match.proofs.GrownLists.{grown_next, grown_all}
use Rattle.cpn_match.proofs.matching.copies.Goals as goal

pub loop-value-init : goal.loop-value-init
loop-value-init c = ap (λ vs. map value_view vs) c.in_ok-copies.ensures.items

pub loop-value-preserved : goal.loop-value-preserved
loop-value-preserved c =
    grown_next value_view value_view c.args.values.now c.loop-value.copies.items c.push.new.self.items c.loop-value.value-index c.value-item.result c.in_ok-copy.field-0 c.loop-value-test.true c.value-item.is c.in_ok-copy.ensures.same
    c.in_ok-push.ensures.items c.loop-value.invariant

pub returns : goal.returns
returns c = record { same = grown_all value_view value_view c.args.values.now c.loop-value.copies.items c.loop-value.value-index c.loop-value-test.false c.loop-value.invariant }
