-- A name with no open parenthesis behind it is a part, and one with it opens a bracket.
use Rattle.std.proofs.Common.{string_bytes}
use Rattle.cpn_syntax.specs.OpenPatViews.{opens_view}
use Rattle.cpn_syntax.specs.Unread.{unread}
use Rattle.cpn_syntax.proofs.PatternViews.{view_name}
use Rattle.cpn_syntax.proofs.PatternSteps.{name_comes, call_comes}
use Rattle.cpn_syntax.proofs.pattern_parser.begin_name.Goals as goal

pub returns-then-not-accept-clause-comes : goal.returns-then-not-accept-clause-comes
returns-then-not-accept-clause-comes c = λ t is at.
    let st = opens_view c.args.forms.now in
    let no = c.accept.ensures.no c.if-not-accept.true in
    rw (c.simple.ensures st, view_name, at, no.0) (name_comes st (string_bytes c.args.name) t (unread c.args.reader.now) is no.1)

pub returns-clause-comes : goal.returns-clause-comes
returns-clause-comes c = λ t is at.
    let next = c.accept.ensures.yes c.if-not-accept.false in
    rw (c.in_ok-push_bracket.ensures.opened, at, next.2) (call_comes (opens_view c.args.forms.now) (string_bytes c.args.name) t next.0 (unread c.accept.new.self) is next.1)
