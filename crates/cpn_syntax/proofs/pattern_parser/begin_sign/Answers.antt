-- Each sign that begins a part, and that no other one does.
use Rattle.cpn_syntax.specs.OpenPatViews.{opens_view}
use Rattle.cpn_syntax.specs.Unread.{unread}
use Rattle.std.proofs.Common.{true, false}
use Rattle.cpn_syntax.proofs.PatternViews.{view_any, view_truth, view_unit, view_list}
use Rattle.cpn_syntax.proofs.PatternInversions.{begins_no_part}
use Rattle.cpn_syntax.proofs.PatternSteps.{underscore_comes, true_comes, false_comes, unit_comes, no_items_come, round_comes, square_comes, sign_stops}
use Rattle.cpn_syntax.proofs.pattern_parser.begin_sign.Goals as goal

pub returns-in-Underscore-clause-comes : goal.returns-in-Underscore-clause-comes
returns-in-Underscore-clause-comes c = λ t is at.
    let st = opens_view c.args.forms.now in
    rw (c.simple.ensures st, view_any, at) (underscore_comes st t (unread c.args.reader.now) (rw c.in-Underscore.is at is))

pub returns-in-True-clause-comes : goal.returns-in-True-clause-comes
returns-in-True-clause-comes c = λ t is at.
    let st = opens_view c.args.forms.now in
    rw (c.simple-in-True.ensures st, view_truth true, at) (true_comes st t (unread c.args.reader.now) (rw c.in-True.is at is))

pub returns-in-False-clause-comes : goal.returns-in-False-clause-comes
returns-in-False-clause-comes c = λ t is at.
    let st = opens_view c.args.forms.now in
    rw (c.simple-in-False.ensures st, view_truth false, at) (false_comes st t (unread c.args.reader.now) (rw c.in-False.is at is))

pub returns-then-accept-clause-comes : goal.returns-then-accept-clause-comes
returns-then-accept-clause-comes c = λ t is at.
    let st = opens_view c.args.forms.now in
    let next = c.accept.ensures.yes c.if-accept.true in
    rw (c.simple-then-accept.ensures st, view_unit, at, next.2) (unit_comes st t next.0 (unread c.accept.new.self) (rw c.in-OpenParenthesis.is at is) next.1)

pub returns-in_ok-push_bracket-in-OpenParenthesis-clause-comes : goal.returns-in_ok-push_bracket-in-OpenParenthesis-clause-comes
returns-in_ok-push_bracket-in-OpenParenthesis-clause-comes c = λ t is at.
    let no = c.accept.ensures.no c.if-accept.false in
    rw (c.in_ok-push_bracket-in-OpenParenthesis.ensures.opened, at, no.0) (round_comes (opens_view c.args.forms.now) t (unread c.args.reader.now) (rw c.in-OpenParenthesis.is at is) no.1)

pub returns-then-accept-2-clause-comes : goal.returns-then-accept-2-clause-comes
returns-then-accept-2-clause-comes c = λ t is at.
    let st = opens_view c.args.forms.now in
    let next = c.accept-in-OpenBracket.ensures.yes c.if-accept-2.true in
    rw (c.simple-then-accept-2.ensures st, view_list, c.new.ensures.items, at, next.2) (no_items_come st t next.0 (unread c.accept-in-OpenBracket.new.self) (rw c.in-OpenBracket.is at is) next.1)

pub returns-in_ok-push_bracket-in-OpenBracket-clause-comes : goal.returns-in_ok-push_bracket-in-OpenBracket-clause-comes
returns-in_ok-push_bracket-in-OpenBracket-clause-comes c = λ t is at.
    let no = c.accept-in-OpenBracket.ensures.no c.if-accept-2.false in
    rw (c.in_ok-push_bracket-in-OpenBracket.ensures.opened, at, no.0) (square_comes (opens_view c.args.forms.now) t (unread c.args.reader.now) (rw c.in-OpenBracket.is at is) no.1)

pub returns-in_default-clause-stops : goal.returns-in_default-clause-stops
returns-in_default-clause-stops c = λ no_memory t is at.
    let st = opens_view c.args.forms.now in
    rw at (sign_stops st c.args.symbol t (unread c.args.reader.now) is (λ r w begins.
    begins_no_part st r c.args.symbol t.at w c.in_default.not-Underscore c.in_default.not-True c.in_default.not-False c.in_default.not-OpenParenthesis c.in_default.not-OpenBracket begins))
