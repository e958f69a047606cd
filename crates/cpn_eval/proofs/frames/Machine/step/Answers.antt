-- The next item of a fold is taken with what was made before it.
use Rattle.std.proofs.Common.{map, refl, ap, ◌∙◌, rules, ◌++◌, ◌∷◌, []}
use Rattle.cpn_core.specs.Views.{value_view}
use Rattle.cpn_core.specs.Inscriptions.{expr_view}
use Rattle.cpn_eval.specs.declared.frames.Frame.TheVariants as frames
use Rattle.cpn_eval.specs.Held.{held_view}
use Rattle.cpn_eval.specs.Frames.{steps, folded, locals_of}
use Rattle.cpn_eval.proofs.Turns.{back_goes, fold_goes}
use Rattle.cpn_eval.proofs.frames.Machine.step.Goals as goal

pub returns : goal.returns
returns c =
    fold_goes c.args.world.now c.args.self.now (record c.args.self.now { locals = c.push-in-Some.new.self; frames = c.push-in-Some-3.new.self }) (frames.Items c.pop_front.new.self c.args.body) c.args.items.items c.pop_front.new.self.items c.in-Some.item c.args.value (expr_view c.args.body.now) c.len-count.result refl
    (c.in_ok-push-in-Some-2.ensures.items ∙ ap (λ xs. xs ++ c.args.value ∷ []) c.in_ok-push-in-Some.ensures.items)
    (c.in_ok-push-in-Some-4.ensures.items ∙ ap (λ xs. xs ++ frames.Forget c.len-count.result ∷ []) c.in_ok-push-in-Some-3.ensures.items)
    refl
    (search rules)
    c.in-Some.ensures.items
    ∙ back_goes c.args.world.now c.args.self.now (steps (map value_view c.args.items.items) (expr_view c.args.body.now)) (held_view c.args.value) (folded c.args.world.now c.args.self.now.visible (locals_of c.args.self.now) (expr_view c.args.body.now) (map value_view c.args.items.items) (held_view c.args.value)) refl
