-- Each sign that takes a part goes on with it as its line of the grammar does.
use Rattle.std.proofs.lemmas.Result.{err_from_is_err_and}
use Rattle.cpn_trees.specs.AstViews.{ast_view}
use Rattle.cpn_syntax.specs.OpenViews.{opens_view}
use Rattle.cpn_syntax.proofs.PartSteps as going
use Rattle.cpn_syntax.proofs.following_tokens.join.Goals as goal

pub returns-in_err-stamp-in-Stamp-clause-stops : goal.returns-in_err-stamp-in-Stamp-clause-stops
returns-in_err-stamp-in-Stamp-clause-stops c =
    let p = err_from_is_err_and c.from_residual.result c.from_residual.ensures.1 in
    rw (p.1, p.2) (λ other t joined is at.
    let fits = rw c.in-Stamp.is at joined in
    let refused = c.in_err-stamp-in-Stamp.ensures.refused other in
    rw refused.0 (going.breaks_stamp _ _ (ast_view c.args.part.tree) (opens_view c.args.open.now) _ t fits.0 fits.1 (rw c.in-Stamp.is at is) refused.1))

pub returns-in-Infix-clause-next : goal.returns-in-Infix-clause-next
returns-in-Infix-clause-next c t joined is at =
    let fits = rw c.in-Infix.is at joined in
    rw (c.behind.ensures, at) (going.takes_operator _ _ (ast_view c.args.part.tree) (opens_view c.args.open.now) _ c.in-Infix.operator t fits.0 fits.1 (rw c.in-Infix.is at is))

pub returns-in_ok-stamp-in-Stamp-clause-next : goal.returns-in_ok-stamp-in-Stamp-clause-next
returns-in_ok-stamp-in-Stamp-clause-next c t joined is at =
    let fits = rw c.in-Stamp.is at joined in
    let stamp = c.in_ok-stamp-in-Stamp.ensures.stamped in
    rw (stamp.1.2, stamp.2 (opens_view c.args.open.now), at) (going.takes_stamp _ _ (ast_view c.args.part.tree) (opens_view c.args.open.now) _ t stamp.1.0 fits.0 fits.1 (rw c.in-Stamp.is at is) stamp.1.1)

pub returns-in_ok-add_term-in-Term-clause-next : goal.returns-in_ok-add_term-in-Term-clause-next
returns-in_ok-add_term-in-Term-clause-next c t joined is at =
    let fits = rw c.in-Term.is at joined in
    rw c.in_ok-add_term-in-Term.ensures (going.takes_term _ _ (ast_view c.args.part.tree) (opens_view c.args.open.now) _ t fits.0 fits.1 (rw c.in-Term.is at is))
