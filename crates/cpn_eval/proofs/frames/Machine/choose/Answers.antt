-- The arm that is chosen is the one that the definition takes.
use Rattle.std.proofs.Common.{map, refl, ap, sym, ◌∙◌}
use Rattle.cpn_definitions.specs.Value.{PlainValue}
use Rattle.cpn_definitions.specs.Inscription.{arms_from}
use Rattle.cpn_definitions.specs.Meaning.{meant_among}
use Rattle.cpn_core.specs.Inscriptions.{arm_view}
use Rattle.cpn_eval.specs.Held.{held_view}
use Rattle.cpn_eval.specs.Frames.{arms, after_outcome, locals_of, setting_in}
use Rattle.cpn_eval.proofs.Turns.{goes_same, back_goes}
use Rattle.cpn_eval.proofs.frames.Machine.choose.Goals as goal

pub returns : goal.returns
returns c =
    let among = λ (v : PlainValue). meant_among (arms_from (map arm_view c.args.cases.now)) v (setting_in c.args.world.now c.args.self.now.visible) (locals_of c.args.self.now) in
    goes_same c.args.world.now c.take.new.self c.take.result _ _
    (ap (after_outcome c.args.world.now c.args.self.now) (sym (c.in_ok-choice.ensures.arm (setting_in c.args.world.now c.args.self.now.visible) (locals_of c.args.self.now)) ∙ ap among c.into_value.ensures.same)
    ∙ back_goes c.args.world.now c.args.self.now (arms (arms_from (map arm_view c.args.cases.now))) (held_view c.args.value) (among (held_view c.args.value)) refl)
    c.take.ensures
