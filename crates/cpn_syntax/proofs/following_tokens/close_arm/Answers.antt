-- The next arm behind a bar, or the whole `case`.
use Rattle.std.proofs.Common.{arith, ap, ◌∙◌, ◌≡◌, ◌≤◌}
use Rattle.std.proofs.lemmas.Result.{err_from_is_err_and}
use Rattle.cpn_lex.specs.declared.symbols.Symbol.TheVariants as sign
use Rattle.cpn_syntax.specs.Texts.{Is}
use Rattle.cpn_syntax.specs.Unread.{unread, Begins}
use Rattle.cpn_trees.specs.AstViews.{ast_view}
use Rattle.cpn_trees.proofs.FormViews as levels
use Rattle.cpn_syntax.proofs.LastParts.{arms_with_last}
use Rattle.cpn_syntax.proofs.PartSteps as going
use Rattle.cpn_syntax.proofs.following_tokens.close_arm.Goals as goal
use Rattle.cpn_syntax.proofs.following_tokens.close_arm.Goals.{else-part-ge1-via-then-part-ge1+else-accept, else-part-ge1-via-else-part-ge1}

pub returns-in_err-pattern-clause-stops : goal.returns-in_err-pattern-clause-stops
returns-in_err-pattern-clause-stops c =
    let p = err_from_is_err_and c.from_residual-in_err-pattern.result c.from_residual-in_err-pattern.ensures.1 in
    rw (p.1, p.2) (λ other free st.
    let next = c.accept.ensures.yes c.if-accept.true in
    rw next.2 (going.breaks_bar _ _ (ast_view c.args.part.tree) st c.args.at next.0 _ _ _ (omega arith) next.1 (c.in_err-pattern.ensures.stops other)))

pub returns-then-accept-clause-closed : goal.returns-then-accept-clause-closed
returns-then-accept-clause-closed c free st =
    let next = c.accept.ensures.yes c.if-accept.true in
    rw (next.2, c.in_ok-arms.ensures) (going.goes_on_bar _ _ (ast_view c.args.part.tree) st c.args.at next.0 _ _ _ (omega arith) next.1 c.in_ok-pattern.ensures.read)

pub returns-clause-closed : goal.returns-clause-closed
returns-clause-closed c free st =
    let plain : (unread c.else-part-ge1.reader ≡ unread c.args.reader.now) × (1 ≤ c.args.part.precedence → Begins (Is sign.Bar) (unread c.args.reader.now) → ⊥) =
    elim c.else-part-ge1.branch [
      | else-part-ge1-via-then-part-ge1+else-accept w ↦ let none = w.accept.ensures.no w.if-accept.false in (ap unread w.reader-is ∙ none.0, λ le. none.1)
      | else-part-ge1-via-else-part-ge1 w ↦ (ap unread w.reader-is, λ le. absurd (omega arith))
    ] in
    rw (plain.0, c.whole.ensures st, levels.view_case c.in_ok-subject.subject c.in_ok-arms.arms, c.in_ok-subject.ensures.ok, c.in_ok-arms.ensures, arms_with_last) (going.ends_case _ _ (ast_view c.args.part.tree) st _ c.args.at _ _ _ free plain.1)
