-- The sockets of the next arc are added.
use Rattle.std.proofs.Common.{◌&&◌}
use Rattle.cpn_module.specs.Views.{ends_view}
use Rattle.cpn_module.specs.ModuleRules.{is_input, is_output, joins}
use Rattle.cpn_module.proofs.SocketRules.{any_more}
use Rattle.cpn_module.proofs.sockets.Sockets.add.Goals as goal

pub loop-arc-preserved : goal.loop-arc-preserved
loop-arc-preserved c = record {
  inputs = λ p i. any_more ends_view (λ arc. joins p i arc && is_input arc.way) c.args.arcs.now c.loop-arc.arc-index _ c.loop-arc-test.true _ _ _ (c.loop-arc.invariant.inputs p i) (rw c.is_input.ensures.exact at (c.in_ok-add_ends.ensures.added p i));
  outputs = λ p i. any_more ends_view (λ arc. joins p i arc && is_output arc.way) c.args.arcs.now c.loop-arc.arc-index _ c.loop-arc-test.true _ _ _ (c.loop-arc.invariant.outputs p i) (rw c.is_output.ensures.exact at (c.in_ok-add_ends-2.ensures.added p i));
}
