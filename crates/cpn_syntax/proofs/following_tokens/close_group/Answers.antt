-- The next part behind a comma, or the whole group or tuple.
use Rattle.std.proofs.Common.{arith, ap, ◌≢◌, length}
use Rattle.std.proofs.lemmas.Result.{err_from_is_err_and}
use Rattle.std.proofs.lemmas.List.{nil_from_length, length-map}
use Rattle.std.proofs.lemmas.Bool.Decides.{nat_tests}
use Rattle.cpn_trees.specs.AstViews.{ast_view}
use Rattle.cpn_trees.proofs.FormViews as levels
use Rattle.cpn_syntax.proofs.PartSteps as going
use Rattle.cpn_syntax.proofs.following_tokens.close_group.Goals as goal

pub returns-then-accept-clause-closed : goal.returns-then-accept-clause-closed
returns-then-accept-clause-closed c free st =
    let next = c.accept.ensures.yes c.if-accept.true in
    rw (next.2, c.in_ok-parts.ensures) (going.goes_on_group _ _ (ast_view c.args.part.tree) st _ c.args.at _ next.0 next.1)

pub returns-in_err-take-clause-stops : goal.returns-in_err-take-clause-stops
returns-in_err-take-clause-stops c =
    let p = err_from_is_err_and c.from_residual-in_err-take.result c.from_residual-in_err-take.ensures.1 in
    rw (p.1, p.2) (λ other free st.
    let none = c.accept.ensures.no c.if-accept.false in
    let refused = c.in_err-take.ensures.refused in
    rw (refused.0, none.0) (going.breaks_group _ _ (ast_view c.args.part.tree) st _ c.args.at _ free none.1 (rw none.0 at refused.1)))

pub returns-then-is_empty-clause-closed : goal.returns-then-is_empty-clause-closed
returns-then-is_empty-clause-closed c free st =
    let none = c.accept.ensures.no c.if-accept.false in
    let next = c.in_ok-take.ensures.taken in
    let empty = nil_from_length c.args.parts.items (grind (arith, nat_tests)) in
    rw (← none.0, next.2, empty) (going.ends_group _ _ (ast_view c.args.part.tree) st _ c.args.at next.0 next.1.0)

pub returns-clause-closed : goal.returns-clause-closed
returns-clause-closed c free st =
    let none = c.accept.ensures.no c.if-accept.false in
    let next = c.in_ok-take.ensures.taken in
    let some : length c.args.parts.items ≢ 0 = grind (arith, nat_tests) in
    rw (← none.0, next.2, c.whole.ensures st, levels.view_tuple c.in_ok-parts-2.parts, c.in_ok-parts-2.ensures)
    (going.ends_parts _ _ (ast_view c.args.part.tree) st _ c.args.at _ next.0 (λ empty. some (omega (arith, ap length empty, length-map c.args.parts.items ast_view))) next.1.0)
