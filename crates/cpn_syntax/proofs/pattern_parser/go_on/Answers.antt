-- `::` takes a part that binds tightly, and else the innermost form goes on.
use Rattle.cpn_syntax.specs.OpenPatViews.{opens_view}
use Rattle.cpn_trees.specs.PatViews.{pat_view}
use Rattle.cpn_syntax.specs.Unread.{unread}
use Rattle.cpn_syntax.proofs.PatternSteps.{cons_comes, comes_from_end, each_comes, each_stops, whole_comes, end_cons_comes}
use Rattle.cpn_syntax.proofs.pattern_parser.go_on.Goals as goal

pub returns-then-accept_cons-clause-comes : goal.returns-then-accept_cons-clause-comes
returns-then-accept_cons-clause-comes c =
    let yes = c.accept_cons.ensures.yes c.if-accept_cons.true in
    let next = yes.1 in
    rw (c.in_ok-push.ensures.opened, next.2) (cons_comes c.args.part.at c.args.part.precedence (pat_view c.args.part.tree) (opens_view c.args.forms.now) next.0 (unread c.accept_cons.new.reader) next.1 yes.0)

pub returns-in-None-clause-comes : goal.returns-in-None-clause-comes
returns-in-None-clause-comes c =
    let no = c.accept_cons.ensures.no c.if-accept_cons.false in
    rw (c.in-None.ensures.0, no.0) (comes_from_end no.1 (whole_comes c.args.part.at (pat_view c.args.part.tree) (unread c.args.reader.now)))

pub returns-in_ok-tree-in-Some-Behind-clause-comes : goal.returns-in_ok-tree-in-Some-Behind-clause-comes
returns-in_ok-tree-in-Some-Behind-clause-comes c =
    let no = c.accept_cons.ensures.no c.if-accept_cons.false in
    let opened = rw c.in-Some-Behind.field-0-is at c.in-Some-Behind.ensures in
    rw (opened, no.0, c.in_ok-tree-in-Some-Behind.ensures.tree) (comes_from_end no.1 (end_cons_comes c.args.part.at c.in-Some-Behind.at (pat_view c.in-Some-Behind.head) (pat_view c.args.part.tree) (opens_view c.pop.new.self) (unread c.args.reader.now)))

pub returns-in-Some-Inside-clause-comes : goal.returns-in-Some-Inside-clause-comes
returns-in-Some-Inside-clause-comes c =
    let no = c.accept_cons.ensures.no c.if-accept_cons.false in
    let opened = rw c.in-Some-Inside.field-0-is at c.in-Some-Inside.ensures in
    rw (opened, ← no.0) (each_comes c.go_on_inside.result c.args.part.at c.args.part.precedence (pat_view c.args.part.tree) _ _ _ _ (rw (← no.0) at no.1) c.go_on_inside.ensures.comes)

pub returns-in-Some-Inside-clause-stops : goal.returns-in-Some-Inside-clause-stops
returns-in-Some-Inside-clause-stops c =
    let no = c.accept_cons.ensures.no c.if-accept_cons.false in
    let opened = rw c.in-Some-Inside.field-0-is at c.in-Some-Inside.ensures in
    rw (opened, ← no.0) (each_stops c.go_on_inside.result c.args.part.at c.args.part.precedence (pat_view c.args.part.tree) _ _ (rw (← no.0) at no.1) c.go_on_inside.ensures.stops)
