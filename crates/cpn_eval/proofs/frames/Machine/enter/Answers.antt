-- A call goes on with the function's body among the functions before it.
use Rattle.std.proofs.Common.{◌≡◌, length, map, refl, ap, sym, ◌∙◌, rules}
use Rattle.std.proofs.lemmas.List.{length-map}
use Rattle.cpn_eval.specs.Held.{held_view}
use Rattle.cpn_core.specs.Inscriptions.{expr_view}
use Rattle.cpn_eval.specs.declared.frames.Frame.TheVariants as frames
use Rattle.cpn_eval.specs.Frames.{back}
use Rattle.cpn_eval.proofs.Calling.{no_call_in, no_function_in, wrong_count_in, call_in}
use Rattle.cpn_eval.proofs.Turns.{enter_goes}
use Rattle.cpn_eval.proofs.frames.Machine.enter.Goals as goal

pub returns-then-function-self : goal.returns-then-function-self
returns-then-function-self c = rw (no_call_in c.args.world.now c.args.self.now.visible c.args.function (map held_view c.args.arguments.items) c.if-function-self.true) refl

pub returns-in-None : goal.returns-in-None
returns-in-None c = rw (no_function_in c.args.world.now c.args.self.now.visible c.args.function (map held_view c.args.arguments.items) c.deref.result.now c.deref.ensures.value c.if-function-self.false c.in-None.ensures.lookup.3) refl

pub returns-then-len-called : goal.returns-then-len-called
returns-then-len-called c =
    let count : c.len.result ≡ length c.args.arguments.items = search rules in
    rw (wrong_count_in c.args.world.now c.args.self.now.visible c.args.function (map held_view c.args.arguments.items) c.deref.result.now c.in-Some.called.now c.deref.ensures.value c.if-function-self.false c.in-Some.ensures.lookup.3.0 c.in-Some.ensures.lookup.1 (λ e. c.if-len-called.true (count ∙ sym (length-map c.args.arguments.items held_view) ∙ e))) refl

pub returns : goal.returns
returns c =
    let count : c.len.result ≡ length c.args.arguments.items = search rules in
    rw c.deref-body.ensures (enter_goes c.args.world.now c.args.self.now (record c.args.self.now { visible = c.args.function; locals = c.replace-locals.new.dest; frames = c.push.new.self }) c.args.function c.args.arguments.items c.args.self.now.locals.items (frames.Caller c.args.self.now.visible c.replace-locals.result) (expr_view c.in-Some.called.now.body.value)
    refl
    (ap (λ v. v.items) c.replace-locals.ensures.after)
    c.in_ok-push-in-Some.ensures.items
    (ap (λ v. back c.args.self.now.visible (map held_view v.items)) c.replace-locals.ensures.value)
    (call_in c.args.world.now c.args.self.now.visible c.args.function (map held_view c.args.arguments.items) c.deref.result.now c.in-Some.called.now c.deref.ensures.value c.if-function-self.false c.in-Some.ensures.lookup.3.0 c.in-Some.ensures.lookup.1 (length-map c.args.arguments.items held_view ∙ sym count ∙ c.if-len-called.false)))
