-- Each kind of token, and the end of the text.
use Rattle.std.proofs.Common.{rules, ap, sym, ◌∙◌, string_bytes}
use Rattle.cpn_lex.specs.Token.{token_view, kind_view}
use Rattle.cpn_lex.specs.Token as token
use Rattle.cpn_syntax.specs.OpenPatViews.{opens_view}
use Rattle.cpn_syntax.specs.Unread.{unread}
use Rattle.cpn_syntax.proofs.PatternViews.{view_number, view_text}
use Rattle.cpn_syntax.proofs.PatternSteps.{number_comes, text_comes, end_stops}
use Rattle.cpn_syntax.proofs.pattern_parser.begin.Goals as goal

pub returns-in_default-clause-stops : goal.returns-in_default-clause-stops
returns-in_default-clause-stops c = λ no_memory. rw (c.next.ensures.none c.in_default.is) (end_stops (opens_view c.args.forms.now))

pub returns-in-Number-clause-comes : goal.returns-in-Number-clause-comes
returns-in-Number-clause-comes c =
    let st = opens_view c.args.forms.now in
    rw (c.simple.ensures st, view_number, c.in-Some.ensures.some) (number_comes st _ (token_view c.in-Some.token.now) (unread c.next.new.self) (ap kind_view c.in-Number.is ∙ ap token.number (search rules)))

pub returns-in_ok-text-in-Text-clause-comes : goal.returns-in_ok-text-in-Text-clause-comes
returns-in_ok-text-in-Text-clause-comes c =
    let st = opens_view c.args.forms.now in
    let text = c.in_ok-text-in-Text.text in
    rw (c.simple-in-Text.ensures st, view_text, c.in-Some.ensures.some) (text_comes st (string_bytes text) (token_view c.in-Some.token.now) (unread c.next.new.self)
    (ap kind_view c.in-Text.is ∙ ap token.text (sym (c.in_ok-text-in-Text.ensures.ok ∙ c.as_str-in-Text.ensures.value))))
