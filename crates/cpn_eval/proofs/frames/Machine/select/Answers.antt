-- A subject that stands somewhere means its value, and the arm that is chosen is the one that the definition takes.
use Rattle.cpn_definitions.specs.Inscription.{arms_from}
use Rattle.std.proofs.Common.{map}
use Rattle.cpn_core.specs.Views.{value_view}
use Rattle.cpn_core.specs.Inscriptions.{expr_view, arm_view}
use Rattle.cpn_eval.specs.Frames.{locals_of, setting_in}
use Rattle.cpn_eval.proofs.Turns.{goes_same, selected_goes}
use Rattle.cpn_eval.proofs.frames.Machine.select.Goals as goal

pub returns-in_ok-choice-in-Some : goal.returns-in_ok-choice-in-Some
returns-in_ok-choice-in-Some c =
    goes_same c.args.world.now c.take.new.self c.take.result _ _
    (selected_goes c.args.world.now c.args.self.now (expr_view c.args.subject.now) (expr_view c.in_ok-choice-in-Some.choice.body.now) (arms_from (map arm_view c.args.cases.now)) (value_view c.in-Some.value.now) (map value_view c.in_ok-choice-in-Some.choice.bound.items)
    c.in-Some.ensures.value
    (c.in_ok-choice-in-Some.ensures.arm (setting_in c.args.world.now c.args.self.now.visible) (locals_of c.args.self.now)))
    c.take.ensures
