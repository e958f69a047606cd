-- A fold goes over the items of the list.
use Rattle.std.proofs.Common.{ap, sym, ◌∙◌}
use Rattle.cpn_definitions.specs.Operations.{items_in}
use Rattle.cpn_core.specs.Inscriptions.{expr_view}
use Rattle.cpn_eval.specs.Held.{held_view}
use Rattle.cpn_eval.proofs.Turns.{goes_same, start_goes}
use Rattle.cpn_eval.proofs.frames.Machine.begin_fold.Goals as goal

pub returns : goal.returns
returns c =
    goes_same c.args.world.now c.wait.new.self c.wait.result _ _ (start_goes c.args.world.now c.args.self.now (expr_view c.args.first.now) (expr_view c.args.body.now) (held_view c.args.value) c.in_ok-items_in.field-0.items c.from-items.result.items (ap items_in (sym c.into_value.ensures.same) ∙ c.in_ok-items_in.ensures.items) c.from-items.ensures.0) c.wait.ensures
