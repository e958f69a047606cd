-- The component at a position is the definition's.
use Rattle.std.proofs.Common.{◌-◌, arith}
use Rattle.std.proofs.lemmas.Grind.{common_steps}
use Rattle.cpn_eval.proofs.ValueLists.{component_there}
use Rattle.cpn_eval.proofs.lists.component_of.Goals as goal

pub returns : goal.returns
returns c = record {
  component = component_there _ c.in_ok-components.components.items c.args.position (c.args.position - 1) c.swap_remove.result c.in_ok-components.ensures.components (grind (arith, common_steps)) (grind (arith, common_steps)) c.swap_remove.ensures.value;
}
