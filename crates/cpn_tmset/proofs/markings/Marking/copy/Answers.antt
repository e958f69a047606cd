-- The copy of one place more.
use Rattle.std.proofs.Common.{◌∙◌, arith}
use Rattle.std.proofs.lemmas.List.{take_all}
use Rattle.cpn_tmset.proofs.GrownLists.{copied_next}
use Rattle.cpn_tmset.proofs.markings.Marking.copy.Goals as goal

pub loop-place-init : goal.loop-place-init
loop-place-init c = c.in_ok-places.ensures.items

pub loop-place-preserved : goal.loop-place-preserved
loop-place-preserved c =
    copied_next c.deref-place-items.result.now c.loop-place.places.items c.push.new.self.items c.loop-place.place-index c.place-item.result c.in_ok-copy.field-0 c.loop-place-test.true c.place-item.is c.in_ok-copy.ensures.same
    c.in_ok-push.ensures.items c.loop-place.invariant

pub returns : goal.returns
returns c = record { same = c.loop-place.invariant ∙ take_all c.loop-place.place-index c.deref-place-items.result.now (omega arith) ∙ c.deref-place-items.ensures.value ∙ c.self.view_is }
