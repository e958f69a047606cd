-- One more is pushed.
use Rattle.cpn_gen.specs.GeneratedNets.{transition}
use Rattle.cpn_gen.proofs.GrowingRings.{next_part}
use Rattle.cpn_gen.proofs.parts.transitions.Goals as goal

pub loop-i-preserved : goal.loop-i-preserved
loop-i-preserved c = next_part transition c.loop-i.i _ _ _ c.loop-i.invariant c.in_ok-transition.ensures c.in_ok-push.ensures.items
