-- One more is pushed.
use Rattle.cpn_gen.specs.GeneratedNets.{place}
use Rattle.cpn_gen.proofs.GrowingRings.{next_part}
use Rattle.cpn_gen.proofs.parts.places.Goals as goal

pub loop-i-preserved : goal.loop-i-preserved
loop-i-preserved c = next_part place c.loop-i.i _ _ _ c.loop-i.invariant c.in_ok-place.ensures c.in_ok-push.ensures.items
