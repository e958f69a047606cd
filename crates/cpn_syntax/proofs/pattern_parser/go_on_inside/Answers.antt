-- A comma goes on to the bracket's next part, and its closing sign completes it.
use Rattle.std.proofs.lemmas.Result.{err_from_is_err_and}
use Rattle.cpn_syntax.specs.OpenPatViews.{parts_view, bracket_view, opens_view}
use Rattle.cpn_trees.specs.PatViews.{pat_view}
use Rattle.cpn_syntax.specs.Unread.{unread}
use Rattle.cpn_syntax.proofs.PatternSteps.{comma_comes, bracket_ends, inside_stops}
use Rattle.cpn_syntax.proofs.pattern_parser.go_on_inside.Goals as goal

pub returns-then-accept-clause-comes : goal.returns-then-accept-clause-comes
returns-then-accept-clause-comes c =
    let next = c.accept.ensures.yes c.if-accept.true in
    rw (c.in_ok-push.ensures.opened, c.in_ok-parts.ensures.parts, next.2) (comma_comes c.args.part.at c.args.at (bracket_view c.args.bracket) (parts_view c.args.parts) (pat_view c.args.part.tree) (opens_view c.args.forms.now) next.0 (unread c.accept.new.self) next.1)

pub returns-in_err-take-clause-stops : goal.returns-in_err-take-clause-stops
returns-in_err-take-clause-stops c =
    let p = err_from_is_err_and c.from_residual-in_err-take.result c.from_residual-in_err-take.ensures.1 in
    let no = c.accept.ensures.no c.if-accept.false in
    let refused = c.in_err-take.ensures.refused in
    rw (p.1, p.2, refused.0, no.0) (λ no_memory. inside_stops c.args.part.at c.args.at (bracket_view c.args.bracket) (parts_view c.args.parts) (pat_view c.args.part.tree) (opens_view c.args.forms.now) (unread c.args.reader.now) no.1 (rw (c.closing.ensures, no.0) at refused.1))

pub returns-clause-comes : goal.returns-clause-comes
returns-clause-comes c =
    let no = c.accept.ensures.no c.if-accept.false in
    let next = c.in_ok-take.ensures.taken in
    rw (c.in_ok-tree.ensures.tree, ← no.0, next.2) (bracket_ends c.args.part.at c.args.at (bracket_view c.args.bracket) (parts_view c.args.parts) (pat_view c.args.part.tree) (opens_view c.args.forms.now) next.0 (unread c.take.new.self) (rw c.closing.ensures at next.1.0))
