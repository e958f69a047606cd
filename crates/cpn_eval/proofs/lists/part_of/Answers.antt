-- The component at a position is the definition's.
use Rattle.std.proofs.Common.{◌-◌, arith, ap, sym, ◌∙◌}
use Rattle.std.proofs.lemmas.Grind.{common_steps}
use Rattle.cpn_definitions.specs.Outcome.{gives}
use Rattle.cpn_eval.proofs.ValueLists.{component_there}
use Rattle.cpn_eval.proofs.lists.part_of.Goals as goal

pub returns : goal.returns
returns c = record {
  component = component_there _ c.in_ok-components.components.now c.args.position (c.args.position - 1) c.index-components-position.result c.in_ok-components.ensures.components (grind (arith, common_steps)) (grind (arith, common_steps)) c.index-components-position.is
      ∙ ap gives (sym c.in_ok-copy.ensures.same);
}
