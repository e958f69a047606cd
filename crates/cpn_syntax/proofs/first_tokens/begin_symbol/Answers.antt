-- What a symbol and the tokens behind it begin.
use Rattle.std.proofs.Common.{rules, arith, ◌≤◌, ◌<◌, refl, ap, ◌∷◌, subst, true, false}
use Rattle.std.proofs.lemmas.Result.{err_from_is_err_and, IfOk-weaker, IfErr-weaker}
use Rattle.cpn_lex.specs.Token as token
use Rattle.cpn_trees.specs.declared.operators.Prefix.TheVariants as prefix
use Rattle.cpn_syntax.specs.OpenForms.{front, wants}
use Rattle.cpn_syntax.specs.ReadForms.{want}
use Rattle.cpn_syntax.specs.Steps.{Comes}
use Rattle.cpn_syntax.specs.Unread.{unread}
use Rattle.cpn_syntax.proofs.Wants.{begins_with}
use Rattle.cpn_trees.proofs.FormViews as levels
use Rattle.cpn_syntax.proofs.FirstSteps as starting
use Rattle.cpn_syntax.proofs.first_tokens.begin_symbol.Goals as goal
use Rattle.cpn_syntax.proofs.first_tokens.begin_symbol.Goals.{in_default-via-in-If+else-least-le1, in_default-via-in-Case+else-least-eq0, in_default-via-in-Foldl+else-least-le1-2, in_default-via-in_default}

pub returns-in-If-clause-begun : goal.returns-in-If-clause-begun
returns-in-If-clause-begun c st least = starting.comes_if st _ (record { kind = token.symbol c.args.symbol; at = c.args.at }) (rw least c.if-least-le1.true) (ap token.symbol c.in-If.is)

pub returns-in-Case-clause-begun : goal.returns-in-Case-clause-begun
returns-in-Case-clause-begun c st least = starting.comes_case st _ (record { kind = token.symbol c.args.symbol; at = c.args.at }) (rw (least, c.if-least-eq0.true) (omega arith)) (ap token.symbol c.in-Case.is)

pub returns-in-Foldl-clause-begun : goal.returns-in-Foldl-clause-begun
returns-in-Foldl-clause-begun c = IfOk-weaker c.begin_fold.result _ _ (λ n comes st least. rw c.in-Foldl.is (comes st (rw least c.if-least-le1-2.true))) c.begin_fold.ensures.begun

pub returns-in-Foldl-clause-stops : goal.returns-in-Foldl-clause-stops
returns-in-Foldl-clause-stops c = IfErr-weaker c.begin_fold.result _ _ (λ e stops other st least. rw c.in-Foldl.is (stops other st (rw least c.if-least-le1-2.true))) c.begin_fold.ensures.stops

pub returns-in-Let-clause-begun : goal.returns-in-Let-clause-begun
returns-in-Let-clause-begun c = IfOk-weaker c.begin_let.result _ _ (λ n comes st least. rw c.in-Let.is (comes st)) c.begin_let.ensures.begun

pub returns-in-Let-clause-stops : goal.returns-in-Let-clause-stops
returns-in-Let-clause-stops c = IfErr-weaker c.begin_let.result _ _ (λ e stops other st least. rw c.in-Let.is (stops other st)) c.begin_let.ensures.stops

pub returns-in-Not-clause-begun : goal.returns-in-Not-clause-begun
returns-in-Not-clause-begun c st least = rw (c.front.ensures st) (starting.comes_not st _ (record { kind = token.symbol c.args.symbol; at = c.args.at }) (ap token.symbol c.in-Not.is))

pub returns-in-Tilde-clause-begun : goal.returns-in-Tilde-clause-begun
returns-in-Tilde-clause-begun c st least = rw (c.front-in-Tilde.ensures st) (starting.comes_negate st _ (record { kind = token.symbol c.args.symbol; at = c.args.at }) (ap token.symbol c.in-Tilde.is))

pub returns-in_ok-number-in-Hash-clause-begun : goal.returns-in_ok-number-in-Hash-clause-begun
returns-in_ok-number-in-Hash-clause-begun c st least =
    let number = c.in_ok-number-in-Hash.ensures.taken in
    rw (c.front-in-Hash.ensures st, number.2) (subst (λ z. Comes (want st) ((record { kind = token.symbol c.args.symbol; at = c.args.at }) ∷ number.0 ∷ unread c.take_number.new.self) (want (front c.args.at (prefix.Component z) ∷ st)) (unread c.take_number.new.self)) (search rules)
    (starting.comes_component st _ (record { kind = token.symbol c.args.symbol; at = c.args.at }) number.0 (ap token.symbol c.in-Hash.is) number.1))

pub returns-in_err-number-in-Hash-clause-stops : goal.returns-in_err-number-in-Hash-clause-stops
returns-in_err-number-in-Hash-clause-stops c =
    let p = err_from_is_err_and c.from_residual.result c.from_residual.ensures.1 in
    rw (p.1, p.2) (λ other st least.
    let refused = c.in_err-number-in-Hash.ensures.refused in
    rw refused.0 (starting.breaks_component st _ (record { kind = token.symbol c.args.symbol; at = c.args.at }) (ap token.symbol c.in-Hash.is) refused.1))

pub returns-in-True-clause-begun : goal.returns-in-True-clause-begun
returns-in-True-clause-begun c st least = rw (c.operand.ensures st, levels.view_truth true) (starting.comes_true st _ (record { kind = token.symbol c.args.symbol; at = c.args.at }) (ap token.symbol c.in-True.is))

pub returns-in-False-clause-begun : goal.returns-in-False-clause-begun
returns-in-False-clause-begun c st least = rw (c.operand-in-False.ensures st, levels.view_truth false) (starting.comes_false st _ (record { kind = token.symbol c.args.symbol; at = c.args.at }) (ap token.symbol c.in-False.is))

pub returns-in-Empty-clause-begun : goal.returns-in-Empty-clause-begun
returns-in-Empty-clause-begun c st least = rw (c.operand-in-Empty.ensures st, levels.view_empty) (starting.comes_empty st _ (record { kind = token.symbol c.args.symbol; at = c.args.at }) (ap token.symbol c.in-Empty.is))

pub returns-in-Time-clause-begun : goal.returns-in-Time-clause-begun
returns-in-Time-clause-begun c st least = rw (c.operand-in-Time.ensures st, levels.view_time) (starting.comes_time st _ (record { kind = token.symbol c.args.symbol; at = c.args.at }) (ap token.symbol c.in-Time.is))

pub returns-in_default-clause-stops : goal.returns-in_default-clause-stops
returns-in_default-clause-stops c other st least =
    elim c.in_default.branch [
      | in_default-via-in-If+else-least-le1 w ↦ starting.breaks_at st _ (record { kind = token.symbol c.args.symbol; at = c.args.at }) (λ r rest takes.
          let low : wants st ≤ 1 = (begins_with takes (ap token.symbol w.in-If.is)).0 in
          let high : 1 < c.args.least = w.if-least-le1.false in omega arith)
      | in_default-via-in-Case+else-least-eq0 w ↦ starting.breaks_at st _ (record { kind = token.symbol c.args.symbol; at = c.args.at }) (λ r rest takes.
          let low : wants st ≤ 0 = (begins_with takes (ap token.symbol w.in-Case.is)).0 in
          w.if-least-eq0.false (omega arith))
      | in_default-via-in-Foldl+else-least-le1-2 w ↦ starting.breaks_at st _ (record { kind = token.symbol c.args.symbol; at = c.args.at }) (λ r rest takes.
          let low : wants st ≤ 1 = (begins_with takes (ap token.symbol w.in-Foldl.is)).0 in
          let high : 1 < c.args.least = w.if-least-le1-2.false in omega arith)
      | in_default-via-in_default w ↦ starting.breaks_at st _ (record { kind = token.symbol c.args.symbol; at = c.args.at }) (λ r rest takes.
          let none = w.in_default in
          starting.no_beginning r.0 st r.1 c.args.symbol c.args.at rest none.not-If none.not-Case none.not-Foldl none.not-Not none.not-Tilde none.not-Hash none.not-True none.not-False none.not-Empty none.not-Time none.not-OpenParenthesis none.not-OpenBracket none.not-Let (begins_with takes refl))
    ]
