-- Two more are pushed.
use Rattle.std.proofs.Common.{◌∙◌, ap, codes}
use Rattle.cpn_gen.specs.GeneratedNets.{arc}
use Rattle.cpn_gen.proofs.GrowingRings.{next_arcs}
use Rattle.cpn_gen.proofs.parts.arcs.Goals as goal

pub loop-i-preserved : goal.loop-i-preserved
loop-i-preserved c = next_arcs c.args.n c.loop-i.i _ _ _ _ _ c.loop-i.invariant c.in_ok-arc.ensures (c.in_ok-arc-2.ensures ∙ ap (λ j. arc j c.loop-i.i (codes "place")) c.next.ensures) c.in_ok-push.ensures.items c.in_ok-push-2.ensures.items
