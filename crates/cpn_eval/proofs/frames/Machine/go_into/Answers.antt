-- A body goes on with more locals, which it forgets.
use Rattle.std.proofs.Common.{refl, rules, ◌∙◌, ◌++◌, ◌∷◌, []}
use Rattle.cpn_core.specs.Inscriptions.{expr_view}
use Rattle.cpn_eval.specs.Held.{held_view}
use Rattle.cpn_eval.specs.Frames.{body_of, meant_at, locals_of}
use Rattle.cpn_eval.proofs.Turns.{back_goes, body_goes}
use Rattle.cpn_eval.proofs.frames.Machine.go_into.Goals as goal

pub returns : goal.returns
returns c =
    body_goes c.args.world.now c.args.self.now (record c.args.self.now { locals = c.push.new.self; frames = c.push-2.new.self }) (expr_view c.args.body.now) c.args.value c.len-count.result refl c.in_ok-push.ensures.items c.in_ok-push-2.ensures.items (search rules)
    ∙ back_goes c.args.world.now c.args.self.now (body_of (expr_view c.args.body.now)) (held_view c.args.value) (meant_at c.args.world.now c.args.self.now.visible (locals_of c.args.self.now ++ held_view c.args.value ∷ []) (expr_view c.args.body.now)) refl
